use Rattle.std.proofs.Common.{◌≡◌, [], drop}
use Rattle.pred_eval.specs.Search.{AreReadFrom}
use Rattle.pred_eval.specs.Tree.{trees_in}
use Rattle.pred_eval.specs.Truth.{all_hold, any_holds, searches_of}
use Rattle.pred_eval.proofs.truth.+meets.Given as goal

abbrev pub invariant-meets_all-loop-rule : goal.invariant-meets_all-loop-rule
invariant-meets_all-loop-rule g l = record {
  read : AreReadFrom (searches_of (trees_in l.rules.items)) l.fn.patterns
      → AreReadFrom (searches_of (trees_in (drop l.rule-index l.rules.items))) l.left;
  truth : AreReadFrom (searches_of (trees_in l.rules.items)) l.fn.patterns
      → all_hold (trees_in (drop l.rule-index l.rules.items)) (g.E.EventFields.event l.event)
      ≡ all_hold (trees_in l.rules.items) (g.E.EventFields.event l.event);
  none : searches_of (trees_in l.rules.items) ≡ [] → searches_of (trees_in (drop l.rule-index l.rules.items)) ≡ [];
}

abbrev pub invariant-meets_any-loop-rule : goal.invariant-meets_any-loop-rule
invariant-meets_any-loop-rule g l = record {
  read : AreReadFrom (searches_of (trees_in l.rules.items)) l.fn.patterns
      → AreReadFrom (searches_of (trees_in (drop l.rule-index l.rules.items))) l.left;
  truth : AreReadFrom (searches_of (trees_in l.rules.items)) l.fn.patterns
      → any_holds (trees_in (drop l.rule-index l.rules.items)) (g.E.EventFields.event l.event)
      ≡ any_holds (trees_in l.rules.items) (g.E.EventFields.event l.event);
  none : searches_of (trees_in l.rules.items) ≡ [] → searches_of (trees_in (drop l.rule-index l.rules.items)) ≡ [];
}
