use Rattle.std.proofs.Common.{◌≡◌, take}
use Rattle.std.specs.Prelude.{option_copied}
use Rattle.stream_meaning.specs.Images.{measured, least_event}
use Rattle.flow_streams.proofs.fold.least_event.Given as goal

abbrev pub invariant-loop-event : goal.invariant-loop-event
invariant-loop-event l = option_copied l.least ≡ least_event (measured (take l.event-index l.events))
