use Rattle.std.proofs.Common.{sym, ◌∙◌}
use Rattle.pred_eval.specs.Truth.{holds}
use Rattle.live_index.proofs.LengthLaws.{not_met}
use Rattle.live_index.proofs.slots.len_found.Goals as goal

pub returns-then-not-branch-clause-ok : goal.returns-then-not-branch-clause-ok
returns-then-not-branch-clause-ok g c =
    not_met (holds c.args.pred.now c.args.event.now) c.args.event.now
    (sym c.in_ok-holds_of.ensures.truth ∙ c.if-not-branch.true)
