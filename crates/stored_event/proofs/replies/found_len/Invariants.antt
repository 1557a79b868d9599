use Rattle.std.proofs.Common.{◌≡◌, take}
use Rattle.riemann_msg.specs.Reply.{events_lent}
use Rattle.stored_event.specs.Stored.{reply_len}
use Rattle.stored_event.proofs.replies.found_len.Given as goal

abbrev pub invariant-loop-event : goal.invariant-loop-event
invariant-loop-event g l = l.len ≡ reply_len (events_lent (take l.event-index l.events))
