use Rattle.stored_event.proofs.ReplySpellings.{put_on}
use Rattle.stored_event.proofs.replies.put_events.Goals as goal

pub loop-event-preserved : goal.loop-event-preserved
loop-event-preserved g c =
    put_on c.args.events.now c.loop-event.event-index c.event-item.result c.args.out.now c.loop-event.out
    c.put_into.new.out c.loop-event-test.true c.event-item.is c.loop-event.invariant c.in_ok-put_into.ensures.ok
