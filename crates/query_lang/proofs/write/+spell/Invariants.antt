use Rattle.std.proofs.Common.{◌≡◌, ◌++◌, map, take}
use Rattle.list_laws.specs.Prefix.{IsPrefix}
use Rattle.pred_eval.specs.Tree.{tree_of}
use Rattle.query_lang.specs.Grammar.{listed}
use Rattle.query_lang.specs.Spelling.{more_spelling}
use Rattle.query_lang.proofs.write.+spell.Given as goal

abbrev pub invariant-put_parts-loop-part : goal.invariant-put_parts-loop-part
invariant-put_parts-loop-part l =
    IsPrefix l.fn.out l.out
    × (l.out ≡ l.initial.out ++ more_spelling l.word l.under (listed (map tree_of (take l.part-index l.rest))))
