use Rattle.std.proofs.Common.{refl}
use Rattle.window_streams.proofs.FixedTimeLaws.{fixed_time-fresh}
use Rattle.window_streams.proofs.fixed_time.FixedTimeState.fresh.Goals as goal

pub returns-clause-represents : goal.returns-clause-represents
returns-clause-represents c = λ h alone start. fixed_time-fresh _ h alone refl refl refl c.fresh.ensures
