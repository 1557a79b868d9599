use Rattle.std.proofs.Common.{◌≡◌, ◌+ℤ◌, ap, sym, ◌∙◌, arith}
use Rattle.std.proofs.lemmas.Int.{ints, to_z-of_z}
use mir.Val.{SFits, of_z, to_z}
use mir.Syntax.{w64, w128}
use Rattle.std.proofs.lemmas.List.{take_all}
use Rattle.stream_meaning.specs.Images.{metric_of, sum_of_metrics}
use Rattle.flow_streams.proofs.FoldLaws.{sum_of_more, sum_of_measured}
use Rattle.flow_streams.proofs.fold.sum_of_metrics.Goals as goal

pub loop-event-preserved : goal.loop-event-preserved
loop-event-preserved c =
    let event = c.event-item.result in
    let before = to_z w128 c.loop-event.sum-bits in
    let more = sum_of_more c.args.events.now c.loop-event.event-index event c.loop-event-test.true c.event-item.is in
    let small : SFits w64 c.metric_of.result = omega (arith, ints) in
    let within : SFits w128 c.from-sum.result = omega (arith, ints) in
    let read : c.from-sum.result ≡ c.metric_of.result = c.from-sum.ensures ∙ to_z-of_z w64 c.metric_of.result small in
    let wide : to_z w128 (of_z w128 c.from-sum.result) ≡ c.from-sum.result = to_z-of_z w128 c.from-sum.result within in
    let total = before +ℤ to_z w128 (of_z w128 c.from-sum.result) in
    let fits : SFits w128 total = omega (arith, ints) in
    let sum : to_z w128 (of_z w128 total) ≡ total = to_z-of_z w128 total fits in (
      sum ∙ ap (λ m. before +ℤ m) (wide ∙ read ∙ c.metric_of.ensures)
          ∙ ap (λ s. s +ℤ metric_of event) c.loop-event.invariant.0 ∙ sym more,
      omega (arith, ints),
      omega (arith, ints),
    )

pub returns : goal.returns
returns c =
    c.loop-event.invariant.0
    ∙ ap sum_of_metrics (take_all c.loop-event.event-index c.args.events.now c.loop-event-test.false)
    ∙ sym (sum_of_measured c.args.events.now)
