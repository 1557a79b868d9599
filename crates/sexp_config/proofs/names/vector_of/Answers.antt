use Rattle.std.proofs.Common.{refl}
use Rattle.config_terms.proofs.FormLaws.{vector_tree}
use Rattle.sexp_config.proofs.names.vector_of.Goals as goal

pub returns-in-Vector : goal.returns-in-Vector
returns-in-Vector c = rw (vector_tree c.args.form.now c.in-Vector.forms c.in-Vector.is, c.deref.ensures.value) refl
