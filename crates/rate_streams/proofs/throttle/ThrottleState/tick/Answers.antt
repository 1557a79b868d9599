use Rattle.rate_streams.proofs.ThrottleLaws.{tick_represents}
use Rattle.rate_streams.proofs.throttle.ThrottleState.tick.Goals as goal

pub returns-clause-represents : goal.returns-clause-represents
returns-clause-represents c h before now = tick_represents _ h before
