use Rattle.std.proofs.Common.{◌≡◌, ◌++◌, drop}
use Rattle.list_laws.specs.Prefix.{IsPrefix}
use Rattle.pred_eval.specs.Building.{texts_of}
use Rattle.pred_eval.specs.Tree.{trees_in}
use Rattle.pred_eval.specs.Truth.{searches_of}
use Rattle.pred_eval.proofs.pred.+collect.Given as goal

abbrev pub invariant-append_all-loop-rule : goal.invariant-append_all-loop-rule
invariant-append_all-loop-rule l =
    IsPrefix (texts_of l.fn.texts.items) (texts_of l.texts.items)
    × (texts_of l.texts.items ++ searches_of (trees_in (drop l.rule-index l.rules.items))
    ≡ texts_of l.fn.texts.items ++ searches_of (trees_in l.rules.items))
