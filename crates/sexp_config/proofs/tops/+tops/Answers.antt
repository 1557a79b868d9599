use Rattle.std.proofs.Common.{refl}
use Rattle.sexp_read.specs.Tree.{form_tree, form_trees}
use Rattle.sexp_config.specs.Drafts.{draft_in}
use Rattle.config_terms.specs.Code.{Symbol, Call, Lookup, Other}
use Rattle.config_terms.proofs.FormLaws.{start_of_form}
use Rattle.sexp_config.proofs.TopLaws.{top_by_look, let_is}
use Rattle.sexp_config.proofs.tops.+tops.Goals as goal

pub top_at-returns-in-Symbol-clause-gives : goal.top_at-returns-in-Symbol-clause-gives
top_at-returns-in-Symbol-clause-gives t c =
    rw (
      top_by_look c.args.env.now.items (draft_in c.args.draft) (form_tree c.args.form.now) (Symbol c.in-Symbol.name.now)
          c.in-Symbol.ensures.look,
      start_of_form c.args.form.now,
      c.no_form.ensures,
      c.deref.ensures.value,
    )
    refl

pub top_at-returns-in-Call-clause-gives : goal.top_at-returns-in-Call-clause-gives
top_at-returns-in-Call-clause-gives t c =
    rw (
      top_by_look c.args.env.now.items (draft_in c.args.draft) (form_tree c.args.form.now)
          (Call c.in-Call.name.now (form_trees c.in-Call.forms.now)) c.in-Call.ensures.look,
      start_of_form c.args.form.now,
    )
    c.call_top.ensures.gives

pub top_at-returns-in-Lookup-clause-gives : goal.top_at-returns-in-Lookup-clause-gives
top_at-returns-in-Lookup-clause-gives t c =
    rw (
      top_by_look c.args.env.now.items (draft_in c.args.draft) (form_tree c.args.form.now)
          (Lookup c.in-Lookup.field-0.now (form_trees c.in-Lookup.field-1.now)) c.in-Lookup.ensures.look,
      start_of_form c.args.form.now,
      c.refused.ensures,
    )
    refl

pub top_at-returns-in-Other-clause-gives : goal.top_at-returns-in-Other-clause-gives
top_at-returns-in-Other-clause-gives t c =
    rw (
      top_by_look c.args.env.now.items (draft_in c.args.draft) (form_tree c.args.form.now) Other
          c.in-Other.ensures.look,
      start_of_form c.args.form.now,
      c.refused-in-Other.ensures,
    )
    refl

pub let_in-returns-clause-gives : goal.let_in-returns-clause-gives
let_in-returns-clause-gives t c =
    rw (let_is c.args.env.now.items c.names_at.new.env.items c.args.start (form_trees c.args.forms.now)
    (form_trees c.later.result.now) (form_tree c.in_ok-names.names.now) (draft_in c.args.draft)
    c.in_ok-names.ensures c.in_ok-names_at.ensures.ok c.later.ensures.rest) c.run-result.ensures.gives
