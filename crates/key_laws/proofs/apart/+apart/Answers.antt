use Rattle.std.proofs.Common.{true, false, sym, ◌∙◌}
use Rattle.key_laws.proofs.TreeLaws.{one_apart}
use Rattle.key_laws.proofs.apart.+apart.Goals as goal

pub plan_apart-returns-then-not-stream_apart : goal.plan_apart-returns-then-not-stream_apart
plan_apart-returns-then-not-stream_apart t c =
    one_apart c.args.fields.now c.args.streams.now c.loop-stream.stream-index c.stream-item.result false
    c.loop-stream-test.true c.stream-item.is (sym c.stream_apart.ensures ∙ c.if-not-stream_apart.true)
    c.loop-stream.invariant

pub plan_apart-loop-stream-preserved : goal.plan_apart-loop-stream-preserved
plan_apart-loop-stream-preserved t c =
    one_apart c.args.fields.now c.args.streams.now c.loop-stream.stream-index c.stream-item.result true
    c.loop-stream-test.true c.stream-item.is (sym c.stream_apart.ensures ∙ c.if-not-stream_apart.false)
    c.loop-stream.invariant
