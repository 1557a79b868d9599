use Rattle.stream_plan.proofs.SoundLaws.{faultless_is_sound}
use Rattle.stream_plan.proofs.law.sound_plans_have_no_fault.Goals as goal

pub returns : goal.returns
returns c = faultless_is_sound
