use Rattle.std.proofs.Common.{◌≡◌, [], length}
use Rattle.sexp_read.specs.Tree.{form_trees}
use Rattle.config_terms.specs.Steps.{each, onto}
use Rattle.config_tests.specs.Entries.{timed_at}
use Rattle.config_tests.proofs.draft.events_in.Given as goal

abbrev pub invariant-events : goal.invariant-events
invariant-events l = each (onto timed_at) l.events (form_trees l.left) ≡ each (onto timed_at) [] (form_trees l.forms)

abbrev pub decreases-events : goal.decreases-events
decreases-events l = length l.left
