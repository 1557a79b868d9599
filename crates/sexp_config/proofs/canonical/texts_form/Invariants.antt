use Rattle.std.proofs.Common.{◌≡◌, map, take}
use Rattle.sexp_config.specs.Canonical.{bare_forms, text_form}
use Rattle.sexp_config.proofs.canonical.texts_form.Given as goal

abbrev pub invariant-loop-one : goal.invariant-loop-one
invariant-loop-one l = bare_forms l.forms.items ≡ map text_form (take l.one-index l.texts)
