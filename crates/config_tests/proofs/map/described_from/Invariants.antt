use Rattle.std.proofs.Common.{◌≡◌, length}
use Rattle.sexp_read.specs.Tree.{form_trees}
use Rattle.config_tests.specs.Grammar.{nothing}
use Rattle.config_tests.specs.Maps.{described_from}
use Rattle.config_tests.proofs.map.described_from.Given as goal

abbrev pub invariant-entries : goal.invariant-entries
invariant-entries l =
    described_from l.place l.described (form_trees l.left) ≡ described_from l.place nothing (form_trees l.entries)

abbrev pub decreases-entries : goal.decreases-entries
decreases-entries l = length l.left
