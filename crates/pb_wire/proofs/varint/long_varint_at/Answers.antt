use Rattle.std.proofs.Common.{get_or, refl, arith}
use Rattle.pb_wire.proofs.LoopLaws.{fits, reads_more, stops, stops_last, never_stops, is_cut}
use Rattle.pb_wire.proofs.varint.long_varint_at.Goals as goal

pub overflow_add-value : goal.overflow_add-value
overflow_add-value c =
    let room =
    fits _ _ _ _ (get_or c.args.bytes.now c.loop-i.i 0) c.from.result c.loop-i.invariant
    (record { inside = omega arith; byte_is = refl; part_is = c.from.ensures }) (omega arith) in
    omega arith

pub loop-i-preserved : goal.loop-i-preserved
loop-i-preserved c =
    reads_more _ _ _ _ (get_or c.args.bytes.now c.loop-i.i 0) _ c.loop-i.invariant
    (record { inside = omega arith; byte_is = refl; part_is = c.from.ensures }) c.if-byte-lt128.false (omega arith)

pub returns-then-byte-lt128-clause-read : goal.returns-then-byte-lt128-clause-read
returns-then-byte-lt128-clause-read c =
    stops _ _ _ _ (get_or c.args.bytes.now c.loop-i.i 0) _ c.loop-i.invariant
    (record { inside = omega arith; byte_is = refl; part_is = c.from.ensures }) c.if-byte-lt128.true (omega arith)

pub returns-then-bytes-le-WHOLE_BYTES-clause-read : goal.returns-then-bytes-le-WHOLE_BYTES-clause-read
returns-then-bytes-le-WHOLE_BYTES-clause-read c =
    is_cut _ _ _ _ c.loop-i.invariant (omega arith) (omega arith)

pub returns-then-tenth-ge128-clause-read : goal.returns-then-tenth-ge128-clause-read
returns-then-tenth-ge128-clause-read c =
    never_stops _ _ _ _ (get_or c.args.bytes.now 9 0) c.loop-i.invariant (omega arith) (omega arith) refl
    c.if-tenth-ge128.true

pub returns-clause-read : goal.returns-clause-read
returns-clause-read c =
    stops_last _ _ _ _ (get_or c.args.bytes.now 9 0) _ c.loop-i.invariant (omega arith) (omega arith) refl
    c.if-tenth-ge128.false c.from-2.ensures
