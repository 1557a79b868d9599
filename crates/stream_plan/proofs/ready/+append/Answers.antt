use Rattle.std.proofs.Common.{arith}
use Rattle.pred_eval.proofs.BuildLaws.{prefix_more, on_error}
use Rattle.pred_eval.specs.Building.{texts_of}
use Rattle.stream_plan.proofs.PatternLaws.{stream_appended, one_more_appended, all_appended, prefix_added}
use Rattle.stream_plan.proofs.ready.+append.Goals as goal

pub append_stream-returns-clause-ok : goal.append_stream-returns-clause-ok
append_stream-returns-clause-ok t c =
    stream_appended c.args.stream.now c.deref.result.now c.deref-2.result.now (texts_of c.args.texts.now.items)
    (texts_of c.append_kind.new.texts.items) (texts_of c.append_streams.new.texts.items)
    (texts_of c.append_streams-2.new.texts.items)
    c.deref.ensures.value c.deref-2.ensures.value c.in_ok-append_kind.ensures.ok c.in_ok-append_streams.ensures.ok
    c.in_ok-append_streams-2.ensures.ok

pub append_streams-loop-stream-preserved : goal.append_streams-loop-stream-preserved
append_streams-loop-stream-preserved t c = (
  prefix_added _ _ _ _ c.loop-stream.invariant.0 c.in_ok-append_stream.ensures.ok,
  one_more_appended c.args.streams.now c.loop-stream.stream-index c.stream-item.result
      (texts_of c.loop-stream.texts.items) (texts_of c.append_stream.new.texts.items) _ (omega arith) c.stream-item.is
      c.loop-stream.invariant.1 c.in_ok-append_stream.ensures.ok,
)

pub append_streams-returns-clause-ok : goal.append_streams-returns-clause-ok
append_streams-returns-clause-ok t c =
    all_appended c.args.streams.now c.loop-stream.stream-index (texts_of c.loop-stream.texts.items) _ (omega arith)
    c.loop-stream.invariant.1

pub append_streams-returns-in_err-append_stream-clause-err : goal.append_streams-returns-in_err-append_stream-clause-err
append_streams-returns-in_err-append_stream-clause-err t c =
    on_error c.from_residual.result (prefix_more _ _ _ c.loop-stream.invariant.0 c.in_err-append_stream.ensures.err)
