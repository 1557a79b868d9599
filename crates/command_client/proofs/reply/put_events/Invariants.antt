use Rattle.std.proofs.Common.{◌≡◌, ◌++◌, take}
use Rattle.std.specs.List.{flat_map}
use Rattle.command_client.specs.Replies.{event_line}
use Rattle.command_client.proofs.reply.put_events.Given as goal

abbrev pub invariant-loop-event : goal.invariant-loop-event
invariant-loop-event l = l.text ≡ l.fn.text ++ flat_map event_line (take l.event-index l.events)
