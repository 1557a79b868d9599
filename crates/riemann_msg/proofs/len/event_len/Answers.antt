use Rattle.std.proofs.Common.{◌+◌, length, arith}
use Rattle.pb_wire.specs.Spelling.{Bytes, Four}
use Rattle.riemann_msg.specs.Ttl.{bits_of}
use Rattle.riemann_msg.specs.Spelling.{Counts, attribute_content, event_values, name_values, number_values, optional}
use Rattle.riemann_msg.specs.Spelling.{repeated, spelled}
use Rattle.riemann_msg.proofs.Lengths.{counted_as, event_in_parts}
use Rattle.riemann_msg.proofs.len.event_len.Goals as goal

pub returns : goal.returns
returns c =
    let event = c.args.event.now in
    let names = length (spelled (name_values event)) in
    let tags = length (spelled (repeated 7 Bytes event.tags)) in
    let attributes = length (spelled (repeated 9 attribute_content event.attributes)) in
    let ttl = length (spelled (optional 8 (λ ttl. Four (bits_of ttl)) event.ttl)) in
    let numbers = length (spelled (number_values event)) in
    let lists : Counts c.both-lists.result (tags + attributes) =
    c.both-lists.ensures tags attributes (rw c.as_slice.ensures at c.tags_len-tags.ensures)
    (rw c.as_slice-2.ensures at c.attributes_len-attributes.ensures) in
    let front : Counts c.both-front.result (names + (tags + attributes)) =
    c.both-front.ensures names (tags + attributes) c.names_len.ensures lists in
    counted_as c.both.result (length (spelled (event_values event))) (names + (tags + attributes) + (ttl + numbers))
    (event_in_parts event) (c.both.ensures (names + (tags + attributes)) (ttl + numbers) front (omega arith))
