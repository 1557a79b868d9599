use Rattle.std.proofs.Common.{◌≡◌, drop}
use Rattle.stream_meaning.specs.Images.{measured}
use Rattle.flow_streams.specs.Fold.{first_of}
use Rattle.flow_streams.proofs.fold.first_measured.Given as goal

abbrev pub invariant-loop-event : goal.invariant-loop-event
invariant-loop-event l = first_of (measured (drop l.event-index l.events)) ≡ first_of (measured l.events)
