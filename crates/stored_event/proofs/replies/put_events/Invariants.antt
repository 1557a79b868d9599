use Rattle.std.proofs.Common.{◌≡◌, ◌++◌, take}
use Rattle.riemann_msg.specs.Reply.{events_lent}
use Rattle.riemann_msg.specs.Spelling.{repeated, spelled, event_content}
use Rattle.stored_event.proofs.replies.put_events.Given as goal

abbrev pub invariant-loop-event : goal.invariant-loop-event
invariant-loop-event g l =
    l.out ≡ l.fn.out ++ spelled (repeated 6 event_content (events_lent (take l.event-index l.events)))
