use Rattle.std.proofs.Common.{◌+◌, length, take}
use Rattle.pb_wire.specs.Varint.{varint}
use Rattle.riemann_msg.specs.Spelling.{event_content, event_values, repeated, spelled}
use Rattle.riemann_msg.proofs.Lengths.{counted_as, longer_events}
use Rattle.riemann_msg.proofs.len.events_len.Goals as goal

pub loop-event-preserved : goal.loop-event-preserved
loop-event-preserved c =
    let before = length (spelled (repeated 6 event_content (take c.loop-event.event-index c.args.events.now))) in
    let one = length (spelled (event_values c.event-item.result)) in
    let more = 1 + (length (varint one) + one) in
    counted_as c.both-len.result _ (before + more)
    (longer_events c.args.events.now c.loop-event.event-index c.event-item.result c.loop-event-test.true
    c.event-item.is)
    (c.both-len.ensures before more c.loop-event.invariant (c.embedded-field.ensures one c.event_len.ensures))
