use Rattle.sexp_read.specs.Tree.{form_trees}
use Rattle.config_terms.proofs.FormLaws.{later_taken, later_is_lighter}
use Rattle.config_terms.proofs.forms.later.Goals as goal

pub returns-then-n-forms-clause-rest : goal.returns-then-n-forms-clause-rest
returns-then-n-forms-clause-rest c = later_taken c.args.forms.now c.args.n c.if-n-forms.true

pub returns-then-n-forms-clause-lighter : goal.returns-then-n-forms-clause-lighter
returns-then-n-forms-clause-lighter c =
    later_is_lighter c.args.n (form_trees c.args.forms.now) _ (later_taken c.args.forms.now c.args.n c.if-n-forms.true)
