use Rattle.std.proofs.Common.{length}
use Rattle.riemann_msg.specs.Spelling.{event_values, spelled}
use Rattle.riemann_msg.proofs.Spelled.{begins0, begins1, embedded, grown2, not_written}
use Rattle.riemann_msg.proofs.write.put_event_field.Goals as goal

pub returns-clause-ok : goal.returns-clause-ok
returns-clause-ok c =
    grown2 _ _ _ _ _ _
    (c.in_ok-put_head.ensures.ok (length (spelled (event_values c.args.event.now))) c.event_len.ensures)
    c.in_ok-put_event.ensures.ok (embedded 6 (spelled (event_values c.args.event.now)))
