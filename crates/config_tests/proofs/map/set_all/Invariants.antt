use Rattle.std.proofs.Common.{◌≡◌, drop}
use Rattle.config_tests.specs.Events.{with_sets}
use Rattle.config_tests.proofs.map.set_all.Given as goal

abbrev pub invariant-loop-set : goal.invariant-loop-set
invariant-loop-set l = with_sets (drop l.set-index l.sets) l.event ≡ with_sets l.sets l.initial.event
