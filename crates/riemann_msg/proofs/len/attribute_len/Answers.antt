use Rattle.std.proofs.Common.{◌+◌, length, arith}
use Rattle.pb_wire.specs.Varint.{varint}
use Rattle.pb_wire.specs.Spelling.{Bytes}
use Rattle.riemann_msg.specs.Spelling.{attribute_values, optional, spelled}
use Rattle.riemann_msg.proofs.Lengths.{attribute_length, counted_as}
use Rattle.riemann_msg.proofs.len.attribute_len.Goals as goal

pub returns : goal.returns
returns c =
    let attribute = c.args.attribute.now in
    let key = 1 + (length (varint (length attribute.key)) + length attribute.key) in
    let value = length (spelled (optional 2 Bytes attribute.value)) in
    counted_as c.both.result (length (spelled (attribute_values attribute))) (key + value) (attribute_length attribute)
    (c.both.ensures key value (rw c.as_bytes.ensures.bytes at c.embedded_len-key.ensures)
    (c.text_len.ensures 2 (omega arith)))
