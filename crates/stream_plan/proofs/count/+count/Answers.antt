use Rattle.std.proofs.Common.{arith}
use Rattle.stream_plan.proofs.PatternLaws.{stream_counted, one_more_counted, all_counted}
use Rattle.stream_plan.proofs.count.+count.Goals as goal

pub count_at-returns : goal.count_at-returns
count_at-returns t c =
    stream_counted c.args.stream.now c.deref.result.now c.deref-2.result.now c.count_of_kind-own.result
    c.stream_pattern_count-below.result c.stream_pattern_count-beside.result c.saturating_add.result
    c.saturating_add-2.result
    c.deref.ensures.value c.deref-2.ensures.value c.count_of_kind-own.ensures c.stream_pattern_count-below.ensures
    c.stream_pattern_count-beside.ensures c.saturating_add.ensures c.saturating_add-2.ensures

pub stream_pattern_count-loop-stream-preserved : goal.stream_pattern_count-loop-stream-preserved
stream_pattern_count-loop-stream-preserved t c = record {
  counted =
      one_more_counted c.args.streams.now c.loop-stream.stream-index c.stream-item.result c.loop-stream.count
      c.count_at-more.result c.saturating_add-count.result _
      (omega arith) c.stream-item.is c.count_at-more.ensures c.saturating_add-count.ensures
      c.loop-stream.invariant.counted;
  small = omega (arith, c.saturating_add-count.ensures);
}

pub stream_pattern_count-returns : goal.stream_pattern_count-returns
stream_pattern_count-returns t c =
    all_counted c.args.streams.now c.loop-stream.stream-index c.loop-stream.count _ (omega arith)
    c.loop-stream.invariant.small c.loop-stream.invariant.counted
