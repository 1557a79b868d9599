use Rattle.riemann_msg.proofs.Spelled.{grown3}
use Rattle.graphite_lines.proofs.Spelled.{service_spelled}
use Rattle.graphite_lines.proofs.put.put_service.Goals as goal

pub returns-clause-ok : goal.returns-clause-ok
returns-clause-ok c =
    grown3 _ _ _ _ _ _ _ _ c.in_ok-put_tag_and_length.ensures.ok
    (rw c.as_bytes.ensures.value at c.in_ok-append.ensures.ok)
    (rw c.as_bytes-2.ensures.value at c.in_ok-append-2.ensures.ok) (service_spelled c.args.front.now c.args.back.now)
