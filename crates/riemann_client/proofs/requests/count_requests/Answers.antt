use Rattle.riemann_client.proofs.RequestLaws.{counted_all, counted_more, counted_none}
use Rattle.riemann_client.proofs.requests.count_requests.Goals as goal

pub frames-init : goal.frames-init
frames-init c = counted_none c.args.frames.now

pub frames-preserved : goal.frames-preserved
frames-preserved c =
    counted_more _ c.frames.rest.now c.in-Some.next.now c.frames.requests c.frames.invariant c.in-Some.ensures.0
    c.in-Some.ensures.1

pub returns-clause-requests : goal.returns-clause-requests
returns-clause-requests c =
    (counted_all c.args.frames.now c.frames.rest.now c.frames.requests c.frames.invariant c.in_default.ensures).0

pub returns-clause-left : goal.returns-clause-left
returns-clause-left c =
    (counted_all c.args.frames.now c.frames.rest.now c.frames.requests c.frames.invariant c.in_default.ensures).1
