use Rattle.std.proofs.Common.{◌≡◌, ◌∷◌, take}
use Rattle.pred_eval.specs.Tree.{trees_in}
use Rattle.sexp_config.specs.Canonical.{bare_forms, symbol_form, rule_forms}
use Rattle.sexp_config.proofs.canonical.+canonical_rule.Given as goal

abbrev pub invariant-joined-loop-part : goal.invariant-joined-loop-part
invariant-joined-loop-part l =
    bare_forms l.forms.items ≡ symbol_form l.name ∷ rule_forms (trees_in (take l.part-index l.parts))
