use Rattle.std.proofs.Common.{◌≡◌, [], length}
use Rattle.sexp_read.specs.Tree.{form_trees}
use Rattle.config_terms.specs.Arguments.{sets_from}
use Rattle.config_terms.proofs.lists.sets_from.Given as goal

abbrev pub invariant-sets : goal.invariant-sets
invariant-sets l =
    sets_from l.place l.env l.sets (form_trees l.left) ≡ sets_from l.place l.env [] (form_trees l.entries)

abbrev pub decreases-sets : goal.decreases-sets
decreases-sets l = length l.left
