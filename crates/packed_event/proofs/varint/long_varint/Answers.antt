use Rattle.std.proofs.Common.{arith}
use Rattle.packed_event.proofs.Loops.{HasRoom, cut_at, ends_at, first_at, last_at, more_at, past_at, room_at, zero_at}
use Rattle.packed_event.proofs.varint.long_varint.Goals as goal

pub digits-init : goal.digits-init
digits-init c = first_at c.args.first c.args.bytes.now c.from-value.result c.requires c.from-value.ensures

pub overflow_mul-value : goal.overflow_mul-value
overflow_mul-value c =
    let room : HasRoom c.digits.unit c.digits.value c.from.result =
    room_at c.args.first c.args.bytes.now c.digits.more c.digits.unit c.digits.value c.digits.rest.now
    c.in-Some.byte.now c.from.result c.digits.invariant c.if-more-eq0.false c.from.ensures in
    omega (arith, room.product)

pub overflow_add-value : goal.overflow_add-value
overflow_add-value c =
    let room : HasRoom c.digits.unit c.digits.value c.from.result =
    room_at c.args.first c.args.bytes.now c.digits.more c.digits.unit c.digits.value c.digits.rest.now
    c.in-Some.byte.now c.from.result c.digits.invariant c.if-more-eq0.false c.from.ensures in
    omega (arith, room.sum)

pub overflow_mul-unit : goal.overflow_mul-unit
overflow_mul-unit c =
    let room : HasRoom c.digits.unit c.digits.value c.from.result =
    room_at c.args.first c.args.bytes.now c.digits.more c.digits.unit c.digits.value c.digits.rest.now
    c.in-Some.byte.now c.from.result c.digits.invariant c.if-more-eq0.false c.from.ensures in
    omega (arith, room.next)

pub digits-preserved : goal.digits-preserved
digits-preserved c =
    more_at c.args.first c.args.bytes.now c.digits.more c.digits.unit c.digits.value c.digits.rest.now
    c.in-Some.byte.now c.in-Some.after.now c.from.result c.digits.invariant c.in-Some.ensures.cases.0
    c.if-more-eq0.false c.if-byte-lt128.false c.from.ensures

pub returns-then-byte-lt128-clause-reads : goal.returns-then-byte-lt128-clause-reads
returns-then-byte-lt128-clause-reads c =
    ends_at c.args.first c.args.bytes.now c.digits.more c.digits.unit c.digits.value c.digits.rest.now
    c.in-Some.byte.now c.in-Some.after.now c.from.result c.digits.invariant c.in-Some.ensures.cases.0
    c.if-more-eq0.false c.if-byte-eq0.false c.if-byte-lt128.true c.from.ensures

pub returns-then-byte-eq0-clause-reads : goal.returns-then-byte-eq0-clause-reads
returns-then-byte-eq0-clause-reads c =
    zero_at c.args.first c.args.bytes.now c.digits.more c.digits.unit c.digits.value c.digits.rest.now
    c.in-Some.byte.now c.in-Some.after.now c.digits.invariant c.in-Some.ensures.cases.0 c.if-more-eq0.false
    c.if-byte-eq0.true

pub returns-then-byte-eq1-clause-reads : goal.returns-then-byte-eq1-clause-reads
returns-then-byte-eq1-clause-reads c =
    last_at c.args.first c.args.bytes.now c.digits.more c.digits.unit c.digits.value c.digits.rest.now
    c.in-Some.byte.now c.in-Some.after.now c.digits.invariant c.in-Some.ensures.cases.0 c.if-more-eq0.true
    c.if-byte-eq1.true

pub returns-else-byte-eq1-clause-reads : goal.returns-else-byte-eq1-clause-reads
returns-else-byte-eq1-clause-reads c =
    past_at c.args.first c.args.bytes.now c.digits.more c.digits.unit c.digits.value c.digits.rest.now
    c.in-Some.byte.now c.in-Some.after.now c.digits.invariant c.in-Some.ensures.cases.0 c.if-more-eq0.true
    c.if-byte-eq1.false

pub returns-clause-reads : goal.returns-clause-reads
returns-clause-reads c =
    cut_at c.args.first c.args.bytes.now c.digits.more c.digits.unit c.digits.value c.digits.rest.now
    c.digits.invariant c.in_default.ensures.cases
