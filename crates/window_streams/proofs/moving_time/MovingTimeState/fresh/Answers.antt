use Rattle.std.proofs.Common.{refl}
use Rattle.window_streams.proofs.MovingTimeLaws.{moving_time-fresh}
use Rattle.window_streams.proofs.moving_time.MovingTimeState.fresh.Goals as goal

pub returns-clause-represents : goal.returns-clause-represents
returns-clause-represents c = λ h alone start. moving_time-fresh _ h alone refl refl c.fresh.ensures
