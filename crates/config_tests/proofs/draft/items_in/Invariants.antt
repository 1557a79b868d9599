use Rattle.std.proofs.Common.{◌≡◌, [], length}
use Rattle.sexp_read.specs.Tree.{form_trees}
use Rattle.config_terms.specs.Steps.{each, onto}
use Rattle.config_tests.specs.Entries.{item_at}
use Rattle.config_tests.proofs.draft.items_in.Given as goal

abbrev pub invariant-items : goal.invariant-items
invariant-items l = each (onto item_at) l.items (form_trees l.left) ≡ each (onto item_at) [] (form_trees l.forms)

abbrev pub decreases-items : goal.decreases-items
decreases-items l = length l.left
