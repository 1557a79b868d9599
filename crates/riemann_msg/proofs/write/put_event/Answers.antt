use Rattle.riemann_msg.proofs.Spelled.{begins0, begins1, begins2, begins3, begins4, event_spelled, grown5, not_written}
use Rattle.riemann_msg.proofs.write.put_event.Goals as goal

pub returns-clause-ok : goal.returns-clause-ok
returns-clause-ok c =
    grown5 _ _ _ _ _ _ _ _ _ _ _ _ c.in_ok-put_names.ensures.ok (rw c.as_slice.ensures at c.in_ok-put_tags.ensures.ok)
    c.in_ok-put_ttl.ensures.ok (rw c.as_slice-2.ensures at c.in_ok-put_attributes.ensures.ok)
    c.in_ok-put_numbers.ensures.ok
    (event_spelled c.args.event.now)
