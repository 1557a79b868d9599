use Rattle.std.proofs.Common.{◌+◌, length, take}
use Rattle.pb_wire.specs.Varint.{varint}
use Rattle.pb_wire.specs.Spelling.{Bytes}
use Rattle.riemann_msg.specs.Spelling.{repeated, spelled}
use Rattle.riemann_msg.proofs.Lengths.{counted_as, longer_tags}
use Rattle.riemann_msg.proofs.len.tags_len.Goals as goal

pub loop-tag-preserved : goal.loop-tag-preserved
loop-tag-preserved c =
    let before = length (spelled (repeated 7 Bytes (take c.loop-tag.tag-index c.args.tags.now))) in
    let one = length c.tag-item.result in
    let more = 1 + (length (varint one) + one) in
    counted_as c.both-len.result _ (before + more)
    (longer_tags c.args.tags.now c.loop-tag.tag-index c.tag-item.result c.loop-tag-test.true c.tag-item.is)
    (c.both-len.ensures before more c.loop-tag.invariant (rw c.as_bytes.ensures.bytes at c.embedded_len-field.ensures))
