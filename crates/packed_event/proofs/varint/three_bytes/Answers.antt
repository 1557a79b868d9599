use Rattle.std.proofs.Common.{arith}
use Rattle.packed_event.proofs.Digits.{three_at}
use Rattle.packed_event.proofs.varint.three_bytes.Goals as goal

pub returns-clause-reads : goal.returns-clause-reads
returns-clause-reads c =
    let parts = c.in_ok-first.ensures.cases in
    let read =
    three_at c.args.bytes.now c.in_ok-first.first.now parts.0 (omega (arith, parts.2)) c.if-a-lt128.false
    c.if-b-lt128.false (omega (arith, c.if-c-eq0.false)) c.if-c-ge128.false in
    rw (c.from.ensures, c.from-2.ensures, c.from-3.ensures, parts.1) read
