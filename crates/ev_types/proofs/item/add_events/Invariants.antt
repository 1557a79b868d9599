use Rattle.std.proofs.Common.{◌≡◌, ◌++◌, take}
use Rattle.ev_types.proofs.item.add_events.Given as goal

abbrev pub invariant-loop-event : goal.invariant-loop-event
invariant-loop-event l = l.copied.items ≡ l.fn.copied.items ++ take l.event-index l.events
