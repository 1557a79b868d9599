use Rattle.std.proofs.Common.{map, ◌∙◌}
use Rattle.std.specs.Map.Iter.{deref}
use Rattle.tick_schedule.proofs.ListLaws.{on_err}
use Rattle.fork_by.proofs.order.push_all.Goals as goal

pub returns-in_err-push-clause-prefix : goal.returns-in_err-push-clause-prefix
returns-in_err-push-clause-prefix g c =
    on_err c.from_residual.result
    (map deref c.loop-number.yielded, c.in_err-push.ensures.err ∙ c.loop-number.invariant.out)

pub returns-clause-prefix : goal.returns-clause-prefix
returns-clause-prefix g c = tt
