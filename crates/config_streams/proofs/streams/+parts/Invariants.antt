use Rattle.std.proofs.Common.{◌≡◌, ◌+◌, ◌*◌, ◌≤◌, length}
use Rattle.sexp_read.specs.Tree.{form_tree, form_trees}
use Rattle.config_streams.specs.Streams.{all_read, parts_in}
use Rattle.config_terms.specs.Code.{weight, form_weight}
use Rattle.config_streams.specs.Made.{below_in}
use Rattle.config_streams.proofs.streams.+parts.Given as goal

abbrev pub decreases-part_at : goal.decreases-part_at
decreases-part_at l = 4 * form_weight (form_tree l.form.now)

abbrev pub decreases-call_part : goal.decreases-call_part
decreases-call_part l = 4 * weight (form_trees l.forms.now) + 3

abbrev pub decreases-rest_part : goal.decreases-rest_part
decreases-rest_part l = 4 * weight (form_trees l.forms.now) + 2

abbrev pub decreases-followed : goal.decreases-followed
decreases-followed l = 4 * weight (form_trees l.forms.now) + 2

abbrev pub decreases-parts_onto : goal.decreases-parts_onto
decreases-parts_onto l = 4 * weight (form_trees l.forms.now) + 1

abbrev pub invariant-parts_onto-parts : goal.invariant-parts_onto-parts
invariant-parts_onto-parts l =
    (all_read (below_in l.below) (parts_in l.position.may_else l.position.in_fork l.env (form_trees l.left))
    ≡ all_read (below_in l.fn.before) (parts_in l.position.may_else l.position.in_fork l.env (form_trees l.forms)))
    × (weight (form_trees l.left) ≤ weight (form_trees l.forms))

abbrev pub decreases-parts_onto-parts : goal.decreases-parts_onto-parts
decreases-parts_onto-parts l = length l.left
