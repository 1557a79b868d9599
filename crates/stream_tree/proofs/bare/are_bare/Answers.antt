use Rattle.std.proofs.Common.{arith}
use Rattle.stream_tree.proofs.BareLoop.{bare_more, bare_all}
use Rattle.stream_tree.proofs.bare.are_bare.Goals as goal

pub loop-stream-init : goal.loop-stream-init
loop-stream-init c = tt

pub loop-stream-preserved : goal.loop-stream-preserved
loop-stream-preserved c =
    bare_more c.args.streams.now c.loop-stream.stream-index c.stream-item.result (omega arith) c.stream-item.is
    c.loop-stream.invariant (c.is_bare.ensures c.if-not-is_bare.false)

pub returns : goal.returns
returns c = λ holds.
    bare_all c.args.streams.now c.loop-stream.stream-index c.loop-stream-test.false c.loop-stream.invariant
