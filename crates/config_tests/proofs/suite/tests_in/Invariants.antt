use Rattle.std.proofs.Common.{◌≡◌, [], length}
use Rattle.sexp_read.specs.Tree.{form_trees}
use Rattle.config_terms.specs.Steps.{each, onto}
use Rattle.config_tests.specs.Tests.{test_at}
use Rattle.config_tests.proofs.suite.tests_in.Given as goal

abbrev pub invariant-tests : goal.invariant-tests
invariant-tests l = each (onto test_at) l.tests (form_trees l.left) ≡ each (onto test_at) [] (form_trees l.forms)

abbrev pub decreases-tests : goal.decreases-tests
decreases-tests l = length l.left
