use Rattle.std.proofs.Common.{refl}
use Rattle.sexp_read.specs.Tree.{form_tree, form_trees}
use Rattle.config_terms.proofs.FormLaws.{start_of_form}
use Rattle.sexp_config.proofs.TopLaws.{vector_of_names, no_vector_of_names}
use Rattle.sexp_config.proofs.names.names_at.Goals as goal

pub returns-in-Some-clause-ok : goal.returns-in-Some-clause-ok
returns-in-Some-clause-ok c =
    rw (
      vector_of_names c.args.env.now.items (form_tree c.args.form.now) (form_trees c.in-Some.entries.now)
          c.in-Some.ensures,
      start_of_form c.args.form.now,
    )
    c.names_from.ensures.ok

pub returns-in-Some-clause-refused : goal.returns-in-Some-clause-refused
returns-in-Some-clause-refused c =
    rw (
      vector_of_names c.args.env.now.items (form_tree c.args.form.now) (form_trees c.in-Some.entries.now)
          c.in-Some.ensures,
      start_of_form c.args.form.now,
    )
    c.names_from.ensures.refused

pub returns-in-None-clause-refused : goal.returns-in-None-clause-refused
returns-in-None-clause-refused c =
    rw (
      no_vector_of_names c.args.env.now.items (form_tree c.args.form.now) c.in-None.ensures,
      c.unfit.ensures,
      c.argument_of.ensures,
      c.deref.ensures.value,
    )
    refl
