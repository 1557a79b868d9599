use Rattle.std.proofs.Common.{◌≡◌, ◌+◌, ℤ, rules, length, ap, ◌∙◌, arith}
use Rattle.std.proofs.lemmas.Int.{to_z-of_z}
use Rattle.std.specs.Int.{w64, cast_unsigned}
use mir.Val.{SFits}
use Rattle.pb_wire.specs.Varint.{varint}
use Rattle.pb_wire.specs.Spelling.{Bytes}
use Rattle.riemann_msg.specs.Spelling.{Counts, name_values, optional, spelled}
use Rattle.riemann_msg.proofs.Lengths.{counted_as, names_in_parts}
use Rattle.riemann_msg.proofs.len.names_len.Goals as goal

pub returns : goal.returns
returns c =
    let fits : SFits w64 c.args.event.now.time = search rules in
    let time : length (varint c.cast_unsigned.result) ≡ length (varint (cast_unsigned w64 c.args.event.now.time)) =
    ap (λ n. length (varint n))
    (c.cast_unsigned.ensures ∙ ap (λ (z : ℤ). cast_unsigned w64 z) (to_z-of_z w64 c.args.event.now.time fits)) in
    let event = c.args.event.now in
    let known = 1 + length (varint (cast_unsigned w64 event.time)) in
    let state = length (spelled (optional 2 Bytes event.state)) in
    let service = length (spelled (optional 3 Bytes event.service)) in
    let host = length (spelled (optional 4 Bytes event.host)) in
    let description = length (spelled (optional 5 Bytes event.description)) in
    let first : Counts c.both-first.result (state + service) =
    c.both-first.ensures state service (c.text_len.ensures 2 (omega arith)) (c.text_len-2.ensures 3 (omega arith)) in
    let last : Counts c.both-last.result (host + description) =
    c.both-last.ensures host description (c.text_len-3.ensures 4 (omega arith))
    (c.text_len-4.ensures 5 (omega arith)) in
    let texts : Counts c.both-texts.result (state + service + (host + description)) =
    c.both-texts.ensures (state + service) (host + description) first last in
    counted_as c.both.result (length (spelled (name_values event))) (known + (state + service + (host + description)))
    (names_in_parts event)
    (c.both.ensures known (state + service + (host + description))
    (omega (arith, time, c.varint_len-time.ensures.length)) texts)
