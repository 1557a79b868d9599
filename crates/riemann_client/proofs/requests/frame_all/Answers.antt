use Rattle.std.proofs.Common.{ap, arith, length}
use Rattle.riemann_client.proofs.RequestLaws.{within_at}
use Rattle.riemann_client.proofs.requests.frame_all.Goals as goal

pub put_frame-requires : goal.put_frame-requires
put_frame-requires c =
    let same = ap length c.as_slice.ensures in
    let within =
    within_at c.args.bodies.now c.loop-body.body-index c.body-item.result c.requires c.loop-body-test.true
    c.body-item.is in
    omega arith
