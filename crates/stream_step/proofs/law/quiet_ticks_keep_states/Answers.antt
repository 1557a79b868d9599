use Rattle.stream_step.proofs.StepLaws.{states_stay}
use Rattle.stream_step.proofs.law.quiet_ticks_keep_states.Goals as goal

pub returns : goal.returns
returns c = states_stay
