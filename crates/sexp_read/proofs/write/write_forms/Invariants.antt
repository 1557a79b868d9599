use Rattle.std.proofs.Common.{◌≡◌, ◌++◌, take}
use Rattle.sexp_read.specs.Tree.{form_trees}
use Rattle.sexp_read.specs.Written.{bare_trees, lines_text}
use Rattle.sexp_read.proofs.write.write_forms.Given as goal

abbrev pub invariant-loop-form : goal.invariant-loop-form
invariant-loop-form l = l.out ≡ l.fn.out ++ lines_text (bare_trees (form_trees (take l.form-index l.forms)))
