use Rattle.std.proofs.Common.{◌≡◌, ◌≤◌, ◌+◌, min, drop, length}
use Rattle.list_laws.specs.Counts.{greatest}
use Rattle.pred_eval.specs.Tree.{trees_in}
use Rattle.pred_eval.specs.Truth.{searches_of}
use Rattle.pred_eval.proofs.truth.+count.Given as goal

abbrev pub invariant-count_patterns-loop-rule : goal.invariant-count_patterns-loop-rule
invariant-count_patterns-loop-rule l = record {
  counted : min (l.count + length (searches_of (trees_in (drop l.rule-index l.rules.items)))) greatest
      ≡ min (length (searches_of (trees_in l.rules.items))) greatest;
  small : l.count ≤ greatest;
}
