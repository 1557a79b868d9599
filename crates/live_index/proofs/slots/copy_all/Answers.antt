use Rattle.live_index.proofs.CopyLaws.{lent_on}
use Rattle.live_index.proofs.slots.copy_all.Goals as goal

pub loop-event-preserved : goal.loop-event-preserved
loop-event-preserved g c =
    lent_on c.args.events.now c.loop-event.event-index c.event-item.result _ c.args.out.now c.loop-event.out
    c.push.new.self
    c.loop-event-test.true c.event-item.is c.in_ok-copy.ensures c.loop-event.invariant c.in_ok-push.ensures.ok
