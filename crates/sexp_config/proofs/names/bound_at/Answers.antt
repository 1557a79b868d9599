use Rattle.sexp_read.specs.Tree.{form_tree, form_trees}
use Rattle.config_terms.specs.Code.{Symbol, Call, Lookup, Other}
use Rattle.config_terms.proofs.FormLaws.{start_of_form}
use Rattle.sexp_config.proofs.TopLaws.{bound_by_look}
use Rattle.sexp_config.proofs.names.bound_at.Goals as goal

pub returns-in-Call : goal.returns-in-Call
returns-in-Call c =
    rw (
      bound_by_look c.args.env.now (form_tree c.args.form.now)
          (Call c.in-Call.name.now (form_trees c.in-Call.forms.now)) c.in-Call.ensures.look,
      start_of_form c.args.form.now,
    )
    c.index_by.ensures

pub returns-in-Symbol : goal.returns-in-Symbol
returns-in-Symbol c =
    rw (
      bound_by_look c.args.env.now (form_tree c.args.form.now) (Symbol c.in-Symbol.field-0.now)
          c.in-Symbol.ensures.look,
      ← c.argument_of.ensures,
    )
    c.bound_by.ensures

pub returns-in-Lookup : goal.returns-in-Lookup
returns-in-Lookup c =
    rw (
      bound_by_look c.args.env.now (form_tree c.args.form.now)
          (Lookup c.in-Lookup.field-0.now (form_trees c.in-Lookup.field-1.now)) c.in-Lookup.ensures.look,
      ← c.argument_of-in-Lookup.ensures,
    )
    c.bound_by-in-Lookup.ensures

pub returns-in-Other : goal.returns-in-Other
returns-in-Other c =
    rw (
      bound_by_look c.args.env.now (form_tree c.args.form.now) Other c.in-Other.ensures.look,
      ← c.argument_of-in-Other.ensures,
    )
    c.bound_by-in-Other.ensures
