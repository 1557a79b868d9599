use Rattle.std.proofs.Common.{◌≡◌, drop}
use Rattle.stream_meaning.specs.Images.{with_sets}
use Rattle.flow_streams.proofs.change.apply_sets.Given as goal

abbrev pub invariant-loop-set : goal.invariant-loop-set
invariant-loop-set l = with_sets (drop l.set-index l.sets) l.changed ≡ with_sets l.sets l.initial.changed
