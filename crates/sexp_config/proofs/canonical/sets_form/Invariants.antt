use Rattle.std.proofs.Common.{◌≡◌, take}
use Rattle.sexp_config.specs.Canonical.{bare_forms, set_forms}
use Rattle.sexp_config.proofs.canonical.sets_form.Given as goal

abbrev pub invariant-loop-set : goal.invariant-loop-set
invariant-loop-set l = bare_forms l.forms.items ≡ set_forms (take l.set-index l.sets)
