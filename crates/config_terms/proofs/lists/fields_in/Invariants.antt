use Rattle.std.proofs.Common.{◌≡◌, [], length}
use Rattle.sexp_read.specs.Tree.{form_trees}
use Rattle.config_terms.specs.Steps.{each, onto}
use Rattle.config_terms.specs.Arguments.{field_at}
use Rattle.config_terms.proofs.lists.fields_in.Given as goal

abbrev pub invariant-fields : goal.invariant-fields
invariant-fields l =
    each (onto (field_at l.env)) l.fields (form_trees l.left) ≡ each (onto (field_at l.env)) [] (form_trees l.forms)

abbrev pub decreases-fields : goal.decreases-fields
decreases-fields l = length l.left
