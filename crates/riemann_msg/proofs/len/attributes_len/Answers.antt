use Rattle.std.proofs.Common.{◌+◌, length, take}
use Rattle.pb_wire.specs.Varint.{varint}
use Rattle.riemann_msg.specs.Spelling.{attribute_content, attribute_values, repeated, spelled}
use Rattle.riemann_msg.proofs.Lengths.{counted_as, longer_attributes}
use Rattle.riemann_msg.proofs.len.attributes_len.Goals as goal

pub loop-attribute-preserved : goal.loop-attribute-preserved
loop-attribute-preserved c =
    let so_far = take c.loop-attribute.attribute-index c.args.attributes.now in
    let before = length (spelled (repeated 9 attribute_content so_far)) in
    let one = length (spelled (attribute_values c.attribute-item.result)) in
    let more = 1 + (length (varint one) + one) in
    counted_as c.both-len.result _ (before + more)
    (longer_attributes c.args.attributes.now c.loop-attribute.attribute-index c.attribute-item.result
    c.loop-attribute-test.true c.attribute-item.is)
    (c.both-len.ensures before more c.loop-attribute.invariant (c.embedded-field.ensures one c.attribute_len.ensures))
