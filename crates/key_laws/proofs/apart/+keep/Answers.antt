use Rattle.std.proofs.Common.{true, false, sym, ◌∙◌}
use Rattle.key_laws.proofs.TreeLaws.{one_kept}
use Rattle.key_laws.proofs.apart.+keep.Goals as goal

pub plan_keeps-returns-then-not-stream_keeps : goal.plan_keeps-returns-then-not-stream_keeps
plan_keeps-returns-then-not-stream_keeps t c =
    one_kept c.args.fields.now c.args.streams.now c.loop-stream.stream-index c.stream-item.result false
    c.loop-stream-test.true c.stream-item.is (sym c.stream_keeps.ensures ∙ c.if-not-stream_keeps.true)
    c.loop-stream.invariant

pub plan_keeps-loop-stream-preserved : goal.plan_keeps-loop-stream-preserved
plan_keeps-loop-stream-preserved t c =
    one_kept c.args.fields.now c.args.streams.now c.loop-stream.stream-index c.stream-item.result true
    c.loop-stream-test.true c.stream-item.is (sym c.stream_keeps.ensures ∙ c.if-not-stream_keeps.false)
    c.loop-stream.invariant
