use Rattle.std.proofs.Common.{◌≡◌, length}
use Rattle.sexp_read.specs.Tree.{form_trees}
use Rattle.config_terms.specs.Steps.{each}
use Rattle.config_tests.specs.Entries.{no_entries, with_entry}
use Rattle.config_tests.proofs.draft.entries_in.Given as goal

abbrev pub invariant-entries : goal.invariant-entries
invariant-entries l = each with_entry l.draft (form_trees l.left) ≡ each with_entry no_entries (form_trees l.forms)

abbrev pub decreases-entries : goal.decreases-entries
decreases-entries l = length l.left
