use Rattle.riemann_msg.proofs.Spelled.{begins0, begins1, begins2, begins3, grown4, message_spelled, not_written}
use Rattle.riemann_msg.proofs.write.write_msg.Goals as goal

pub returns-clause-ok : goal.returns-clause-ok
returns-clause-ok c =
    grown4 _ _ _ _ _ _ _ _ _ _ c.in_ok-put_flag.ensures.ok c.in_ok-put_text.ensures.ok c.in_ok-put_query.ensures.ok
    (rw c.as_slice.ensures at c.in_ok-put_events.ensures.ok) (message_spelled c.args.msg.now)
