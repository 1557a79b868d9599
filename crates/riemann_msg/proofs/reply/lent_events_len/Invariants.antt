use Rattle.std.proofs.Common.{length, take}
use Rattle.riemann_msg.specs.Reply.{events_lent}
use Rattle.riemann_msg.specs.Spelling.{Counts, repeated, spelled, event_content}
use Rattle.riemann_msg.proofs.reply.lent_events_len.Given as goal

abbrev pub invariant-loop-event : goal.invariant-loop-event
invariant-loop-event l =
    Counts l.len (length (spelled (repeated 6 event_content (events_lent (take l.event-index l.events)))))
