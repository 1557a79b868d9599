use Rattle.std.proofs.Common.{◌≡◌, ◌+◌, ◌*◌, ◌≤◌, length}
use Rattle.pred_eval.specs.Tree.{trees_in, none}
use Rattle.sexp_read.specs.Tree.{form_tree, form_trees}
use Rattle.config_terms.specs.Rules.{all_read, rules_in}
use Rattle.config_terms.specs.Code.{weight, form_weight}
use Rattle.config_terms.proofs.rules.+rules.Given as goal

abbrev pub decreases-rule_at : goal.decreases-rule_at
decreases-rule_at l = 4 * form_weight (form_tree l.form.now)

abbrev pub decreases-call_rule : goal.decreases-call_rule
decreases-call_rule l = 4 * weight (form_trees l.forms.now) + 3

abbrev pub decreases-word_rule : goal.decreases-word_rule
decreases-word_rule l = 4 * weight (form_trees l.forms.now) + 2

abbrev pub decreases-first_rule : goal.decreases-first_rule
decreases-first_rule l = 4 * weight (form_trees l.forms.now) + 1

abbrev pub decreases-rules_in : goal.decreases-rules_in
decreases-rules_in l = 4 * weight (form_trees l.forms.now) + 1

abbrev pub invariant-rules_in-rules : goal.invariant-rules_in-rules
invariant-rules_in-rules l =
    (all_read (trees_in l.rules.items) (rules_in l.env (form_trees l.left))
    ≡ all_read none (rules_in l.env (form_trees l.forms)))
    × (weight (form_trees l.left) ≤ weight (form_trees l.forms))

abbrev pub decreases-rules_in-rules : goal.decreases-rules_in-rules
decreases-rules_in-rules l = length l.left
