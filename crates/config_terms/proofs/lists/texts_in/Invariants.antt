use Rattle.std.proofs.Common.{◌≡◌, [], length}
use Rattle.sexp_read.specs.Tree.{form_trees}
use Rattle.config_terms.specs.Steps.{each, onto}
use Rattle.config_terms.specs.Arguments.{text_at}
use Rattle.config_terms.proofs.lists.texts_in.Given as goal

abbrev pub invariant-texts : goal.invariant-texts
invariant-texts l = each (onto (text_at l.env)) l.texts (form_trees l.left) ≡ each (onto (text_at l.env)) []
    (form_trees l.forms)

abbrev pub decreases-texts : goal.decreases-texts
decreases-texts l = length l.left
