use Rattle.riemann_msg.proofs.Spelled.{begins1, grown2, next_lent, not_written}
use Rattle.riemann_msg.proofs.reply.put_lent_events.Goals as goal

pub loop-event-preserved : goal.loop-event-preserved
loop-event-preserved c =
    grown2 _ _ _ _ _ _ c.loop-event.invariant c.in_ok-put_event_field.ensures.ok
    (next_lent c.args.events.now c.loop-event.event-index c.event-item.result c.loop-event-test.true c.event-item.is)
