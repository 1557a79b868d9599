use Rattle.std.proofs.Common.{◌≡◌, map, take}
use Rattle.sexp_config.specs.Canonical.{bare_forms, keep_form}
use Rattle.sexp_config.proofs.canonical.keys_form.Given as goal

abbrev pub invariant-loop-key : goal.invariant-loop-key
invariant-loop-key l = bare_forms l.forms.items ≡ map keep_form (take l.key-index l.keys)
