use Rattle.std.proofs.Common.{◌≡◌, ◌++◌, map, take}
use Rattle.notice_sink.specs.Joining.{led}
use Rattle.notice_sink.specs.Lines.{event_text}
use Rattle.notice_sink.proofs.item.put_more_events.Given as goal

abbrev pub invariant-loop-event : goal.invariant-loop-event
invariant-loop-event l = l.out ≡ l.fn.out ++ led (map event_text (take l.event-index l.events))
