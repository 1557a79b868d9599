use Rattle.std.proofs.Common.{◌≡◌, ◌-◌}
use Rattle.pred_eval.specs.Tree.{tree_of}
use Rattle.query_lang.specs.Parsing.{negated}
use Rattle.query_lang.proofs.parser.deny.Given as goal

abbrev pub invariant-loop-not : goal.invariant-loop-not
invariant-loop-not l = negated (l.nots - l._not) (tree_of l.denied) ≡ negated l.nots (tree_of l.fn.rule)
