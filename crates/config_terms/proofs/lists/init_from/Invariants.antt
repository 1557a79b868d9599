use Rattle.std.proofs.Common.{◌≡◌, None, length}
use Rattle.sexp_read.specs.Tree.{form_trees}
use Rattle.config_terms.specs.Words.{init_text}
use Rattle.config_terms.specs.Arguments.{value_at, one_entry}
use Rattle.config_terms.proofs.lists.init_from.Given as goal

abbrev pub invariant-entries : goal.invariant-entries
invariant-entries l =
    one_entry init_text value_at l.place l.env l.init (form_trees l.left)
    ≡ one_entry init_text value_at l.place l.env None (form_trees l.entries)

abbrev pub decreases-entries : goal.decreases-entries
decreases-entries l = length l.left
