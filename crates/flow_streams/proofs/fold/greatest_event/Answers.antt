use Rattle.std.proofs.Common.{ap, sym, ◌∙◌}
use Rattle.flow_streams.specs.Fold.{greater_of}
use Rattle.flow_streams.proofs.FoldLaws.{greatest_more}
use Rattle.flow_streams.proofs.fold.greatest_event.Goals as goal

pub loop-event-preserved : goal.loop-event-preserved
loop-event-preserved c =
    c.greater-greatest.ensures ∙ ap (λ l. greater_of l c.event-item.result) c.loop-event.invariant
    ∙ sym (greatest_more c.args.events.now c.loop-event.event-index c.event-item.result c.loop-event-test.true
    c.event-item.is)
