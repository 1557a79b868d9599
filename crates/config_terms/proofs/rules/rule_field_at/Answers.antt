use Rattle.sexp_read.specs.Tree.{form_tree}
use Rattle.config_terms.proofs.FormLaws.{start_of_form}
use Rattle.config_terms.proofs.RuleLaws.{symbol_field, other_field}
use Rattle.config_terms.proofs.rules.rule_field_at.Goals as goal

pub returns-in-Some : goal.returns-in-Some
returns-in-Some c =
    rw (symbol_field (form_tree c.args.form.now) c.in-Some.name.now c.in-Some.ensures, start_of_form c.args.form.now)
    c.known_field.ensures

pub returns-in-None : goal.returns-in-None
returns-in-None c = rw (other_field (form_tree c.args.form.now) c.in-None.ensures) c.field_at.ensures
