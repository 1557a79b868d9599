use Rattle.std.proofs.Common.{refl}
use Rattle.window_streams.proofs.CoalesceLaws.{coalesce-fresh}
use Rattle.window_streams.proofs.coalesce.CoalesceState.fresh.Goals as goal

pub returns-clause-represents : goal.returns-clause-represents
returns-clause-represents c = λ h alone start. coalesce-fresh _ h alone refl start c.fresh.ensures
