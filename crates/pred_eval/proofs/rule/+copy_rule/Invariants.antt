use Rattle.std.proofs.Common.{◌≡◌, take}
use Rattle.pred_eval.specs.Tree.{trees_in}
use Rattle.pred_eval.proofs.rule.+copy_rule.Given as goal

abbrev pub invariant-copy_rules-loop-rule : goal.invariant-copy_rules-loop-rule
invariant-copy_rules-loop-rule l = trees_in l.copies.items ≡ trees_in (take l.rule-index l.rules.items)
