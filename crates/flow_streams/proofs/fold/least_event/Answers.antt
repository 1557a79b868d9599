use Rattle.std.proofs.Common.{ap, sym, ◌∙◌}
use Rattle.flow_streams.specs.Fold.{lesser_of}
use Rattle.flow_streams.proofs.FoldLaws.{least_more}
use Rattle.flow_streams.proofs.fold.least_event.Goals as goal

pub loop-event-preserved : goal.loop-event-preserved
loop-event-preserved c =
    c.lesser-least.ensures ∙ ap (λ l. lesser_of l c.event-item.result) c.loop-event.invariant
    ∙ sym
    (least_more c.args.events.now c.loop-event.event-index c.event-item.result c.loop-event-test.true c.event-item.is)
