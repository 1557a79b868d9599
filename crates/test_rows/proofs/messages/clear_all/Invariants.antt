use Rattle.std.proofs.Common.{◌≡◌, pos, replicate, take}
use Rattle.ev_types.specs.Set.{event_at}
use Rattle.test_rows.proofs.messages.clear_all.Given as goal

abbrev pub invariant-loop-event : goal.invariant-loop-event
invariant-loop-event l = take l.event-index l.events ≡ replicate l.event-index (event_at (pos 0))
