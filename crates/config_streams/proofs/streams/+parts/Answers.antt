use Rattle.std.proofs.Common.{sym, refl, ◌∙◌, arith}
use Rattle.sexp_read.specs.Tree.{form_tree, form_trees}
use Rattle.config_terms.specs.Code.{Symbol, Call, Lookup, Other}
use Rattle.config_terms.proofs.FormLaws.{start_of_form}
use Rattle.config_streams.proofs.StreamLaws.{part_by_look, parts_more}
use Rattle.config_streams.proofs.streams.+parts.Goals as goal

pub part_at-returns-in-Symbol : goal.part_at-returns-in-Symbol
part_at-returns-in-Symbol t c =
    rw (
      part_by_look c.args.position.may_else c.args.position.in_fork c.args.env.now (form_tree c.args.form.now)
          (Symbol c.in-Symbol.name.now)
          c.in-Symbol.ensures.look,
      start_of_form c.args.form.now,
    )
    c.symbol_part.ensures

pub part_at-returns-in-Call : goal.part_at-returns-in-Call
part_at-returns-in-Call t c =
    rw (
      part_by_look c.args.position.may_else c.args.position.in_fork c.args.env.now (form_tree c.args.form.now)
          (Call c.in-Call.name.now (form_trees c.in-Call.forms.now)) c.in-Call.ensures.look,
      start_of_form c.args.form.now,
    )
    c.call_part.ensures

pub parts_onto-parts-preserved : goal.parts_onto-parts-preserved
parts_onto-parts-preserved t c = (
  sym (parts_more _ _ _ _ _ _ _ _ _ _ c.in-Some.ensures.split c.in_ok-part.ensures c.next_start.ensures
      c.in_ok-below.ensures)
      ∙ c.parts.invariant.0,
  omega (arith, c.in-Some.ensures.lighter),
)

pub part_at-returns-in-Lookup : goal.part_at-returns-in-Lookup
part_at-returns-in-Lookup t c =
    rw (
      part_by_look c.args.position.may_else c.args.position.in_fork c.args.env.now (form_tree c.args.form.now)
          (Lookup c.in-Lookup.field-0.now (form_trees c.in-Lookup.field-1.now)) c.in-Lookup.ensures.look,
      start_of_form c.args.form.now,
      c.refused.ensures,
    )
    refl

pub part_at-returns-in-Other : goal.part_at-returns-in-Other
part_at-returns-in-Other t c =
    rw (
      part_by_look c.args.position.may_else c.args.position.in_fork c.args.env.now (form_tree c.args.form.now)
          Other c.in-Other.ensures.look,
      start_of_form c.args.form.now,
      c.refused-in-Other.ensures,
    )
    refl
