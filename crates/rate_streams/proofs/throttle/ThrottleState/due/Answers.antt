use Rattle.rate_streams.proofs.ThrottleLaws.{tick_represents}
use Rattle.rate_streams.proofs.throttle.ThrottleState.due.Goals as goal

pub returns-clause-still : goal.returns-clause-still
returns-clause-still c h before quiet = tick_represents _ h before
