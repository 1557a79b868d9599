use Rattle.std.proofs.Common.{◌≡◌, drop}
use Rattle.stream_meaning.specs.Images.{with_defaults}
use Rattle.flow_streams.proofs.change.apply_defaults.Given as goal

abbrev pub invariant-loop-set : goal.invariant-loop-set
invariant-loop-set l = with_defaults (drop l.set-index l.sets) l.changed ≡ with_defaults l.sets l.initial.changed
