use Rattle.std.proofs.Common.{◌≡◌, map, take}
use Rattle.sexp_config.specs.Canonical.{bare_forms, field_form}
use Rattle.sexp_config.proofs.canonical.fields_form.Given as goal

abbrev pub invariant-loop-one : goal.invariant-loop-one
invariant-loop-one l = bare_forms l.forms.items ≡ map field_form (take l.one-index l.fields)
