use Rattle.std.proofs.Common.{◌≡◌, ◌+◌, ◌*◌, ◌≤◌, length}
use Rattle.sexp_read.specs.Tree.{form_tree, form_trees}
use Rattle.sexp_config.specs.Tops.{run, tops_in}
use Rattle.config_terms.specs.Code.{weight, form_weight}
use Rattle.sexp_config.specs.Drafts.{draft_in}
use Rattle.sexp_config.proofs.tops.+tops.Given as goal

abbrev pub decreases-top_at : goal.decreases-top_at
decreases-top_at l = 4 * form_weight (form_tree l.form.now)

abbrev pub decreases-call_top : goal.decreases-call_top
decreases-call_top l = 4 * weight (form_trees l.forms.now) + 3

abbrev pub decreases-let_in : goal.decreases-let_in
decreases-let_in l = 4 * weight (form_trees l.forms.now) + 2

abbrev pub decreases-run : goal.decreases-run
decreases-run l = 4 * weight (form_trees l.forms.now) + 1

abbrev pub invariant-run-forms : goal.invariant-run-forms
invariant-run-forms l = record {
  read : run l.fn.env.items (draft_in l.draft) (tops_in (form_trees l.left))
      ≡ run l.fn.env.items (draft_in l.fn.before) (tops_in (form_trees l.forms));
  lighter : weight (form_trees l.left) ≤ weight (form_trees l.forms);
  same : l.env.items ≡ l.fn.env.items;
}

abbrev pub decreases-run-forms : goal.decreases-run-forms
decreases-run-forms l = length l.left
