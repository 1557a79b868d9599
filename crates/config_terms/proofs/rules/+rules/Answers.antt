use Rattle.std.proofs.Common.{sym, refl, ◌∙◌, arith}
use Rattle.sexp_read.specs.Tree.{form_tree, form_trees}
use Rattle.config_terms.specs.Code.{Symbol, Call, Lookup, Other}
use Rattle.config_terms.proofs.FormLaws.{start_of_form}
use Rattle.config_terms.proofs.RuleLaws.{rule_by_look, rules_more}
use Rattle.config_terms.proofs.rules.+rules.Goals as goal

pub rule_at-returns-in-Symbol : goal.rule_at-returns-in-Symbol
rule_at-returns-in-Symbol t c =
    rw (
      rule_by_look c.args.env.now (form_tree c.args.form.now) (Symbol c.in-Symbol.name.now) c.in-Symbol.ensures.look,
      start_of_form c.args.form.now,
    )
    c.symbol_rule.ensures

pub rule_at-returns-in-Call : goal.rule_at-returns-in-Call
rule_at-returns-in-Call t c =
    rw (
      rule_by_look c.args.env.now (form_tree c.args.form.now) (Call c.in-Call.name.now (form_trees c.in-Call.forms.now))
          c.in-Call.ensures.look,
      start_of_form c.args.form.now,
    )
    c.call_rule.ensures

pub rule_at-returns-in-Lookup : goal.rule_at-returns-in-Lookup
rule_at-returns-in-Lookup t c =
    rw (
      rule_by_look c.args.env.now (form_tree c.args.form.now)
          (Lookup c.in-Lookup.name.now (form_trees c.in-Lookup.forms.now)) c.in-Lookup.ensures.look,
      start_of_form c.args.form.now,
    )
    c.keyed_rule.ensures

pub rules_in-rules-preserved : goal.rules_in-rules-preserved
rules_in-rules-preserved t c = (
  sym (rules_more _ _ _ _ _ _ _ c.in-Some.ensures.split c.in_ok-rule.ensures c.in_ok-push.ensures.items)
      ∙ c.rules.invariant.0,
  omega (arith, c.in-Some.ensures.lighter),
)

pub rule_at-returns-in-Other : goal.rule_at-returns-in-Other
rule_at-returns-in-Other t c =
    rw (
      rule_by_look c.args.env.now (form_tree c.args.form.now) Other c.in-Other.ensures.look,
      start_of_form c.args.form.now,
      c.refused.ensures,
    )
    refl
