use Rattle.std.proofs.Common.{◌≡◌, ◌++◌, take}
use Rattle.live_index.specs.Index.{events_lent}
use Rattle.live_index.proofs.slots.copy_all.Given as goal

abbrev pub invariant-loop-event : goal.invariant-loop-event
invariant-loop-event g l = l.out ≡ l.fn.out ++ events_lent (take l.event-index l.events)
