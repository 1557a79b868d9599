use Rattle.std.proofs.Common.{◌≡◌, drop}
use Rattle.pred_eval.specs.Host.{first_host}
use Rattle.pred_eval.specs.Tree.{trees_in}
use Rattle.pred_eval.proofs.host.first_host.Given as goal

abbrev pub invariant-loop-rule : goal.invariant-loop-rule
invariant-loop-rule l = first_host (trees_in (drop l.rule-index l.rules.items)) ≡ first_host (trees_in l.rules.items)
