use Rattle.std.proofs.Common.{take, arith}
use Rattle.std.proofs.lemmas.List.{length-take}
use Rattle.packed_event.proofs.Ascii.{both, from_both, from_first}
use Rattle.packed_event.proofs.body.is_short_ascii.Goals as goal

pub returns-in-Some : goal.returns-in-Some
returns-in-Some c = λ passed.
    from_first c.args.bytes.now c.in-Some.eight.now c.args.len c.in-Some.ensures.cases.same
    (omega (arith, c.if-len-le8.true)) (c.are_ascii.ensures passed)

pub returns-in-Some-Some : goal.returns-in-Some-Some
returns-in-Some-Some c = λ passed.
    let each = both c.are_ascii-in-Some-Some.result c.are_ascii-in-Some-Some-2.result passed in
    from_both (take c.args.len c.args.bytes.now) c.in-Some-Some.first.now c.in-Some-Some.last.now
    c.in-Some-Some.ensures.cases.same c.in-Some-Some.ensures'.cases.1.same
    (omega (arith, c.if-len-gt16.false, length-take c.args.len c.args.bytes.now))
    (c.are_ascii-in-Some-Some.ensures each.0) (c.are_ascii-in-Some-Some-2.ensures each.1)
