use Rattle.std.proofs.Common.{◌≡◌, ◌++◌, take}
use Rattle.list_laws.specs.Prefix.{IsPrefix}
use Rattle.sexp_read.specs.Tree.{form_trees}
use Rattle.sexp_read.specs.Written.{bare_trees, later_text}
use Rattle.sexp_read.proofs.write.+write.Given as goal

abbrev pub invariant-put_between-loop-form : goal.invariant-put_between-loop-form
invariant-put_between-loop-form l =
    IsPrefix l.fn.out l.out × (l.out ≡ l.initial.out ++ later_text (bare_trees (form_trees (take l.form-index l.rest))))
