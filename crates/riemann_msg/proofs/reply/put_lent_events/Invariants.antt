use Rattle.std.proofs.Common.{◌≡◌, ◌++◌, take}
use Rattle.riemann_msg.specs.Reply.{events_lent}
use Rattle.riemann_msg.specs.Spelling.{repeated, spelled, event_content}
use Rattle.riemann_msg.proofs.reply.put_lent_events.Given as goal

abbrev pub invariant-loop-event : goal.invariant-loop-event
invariant-loop-event l =
    l.out ≡ l.initial.out ++ spelled (repeated 6 event_content (events_lent (take l.event-index l.events)))
