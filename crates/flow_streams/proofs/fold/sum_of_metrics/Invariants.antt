use Rattle.std.proofs.Common.{◌≡◌, ◌*◌, ◌^◌, ◌≤ℤ◌, pos, ◌-ℤ◌, take}
use Rattle.stream_meaning.specs.Images.{sum_of_metrics}
use Rattle.flow_streams.proofs.fold.sum_of_metrics.Given as goal

abbrev pub invariant-loop-event : goal.invariant-loop-event
invariant-loop-event l =
    (l.sum ≡ sum_of_metrics (take l.event-index l.events))
    × ((pos 0 -ℤ pos (2 ^ 63 * l.event-index)) ≤ℤ l.sum)
    × (l.sum ≤ℤ pos (2 ^ 63 * l.event-index))
