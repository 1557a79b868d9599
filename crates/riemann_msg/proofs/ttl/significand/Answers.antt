use Rattle.std.proofs.Common.{◌≡◌, ◌-◌, ◌*◌, ◌%◌, ◌^◌, ◌∙◌, arith}
use Rattle.std.proofs.Math.Nat.{mod-eq_of_lt}
use Rattle.riemann_msg.proofs.TtlBits.{shifted_up, shifted_down}
use Rattle.riemann_msg.proofs.ttl.significand.Goals as goal

pub returns-then-top-le-FRACTION_BITS-clause-value : goal.returns-then-top-le-FRACTION_BITS-clause-value
returns-then-top-le-FRACTION_BITS-clause-value c =
    let known =
    shifted_up c.args.number c.args.top c.if-top-le-FRACTION_BITS.true c.requires.least c.requires.greatest in
    mod-eq_of_lt (omega (arith, known.1)) ∙ known.0

pub returns-then-top-le-FRACTION_BITS-clause-below : goal.returns-then-top-le-FRACTION_BITS-clause-below
returns-then-top-le-FRACTION_BITS-clause-below c =
    let known =
    shifted_up c.args.number c.args.top c.if-top-le-FRACTION_BITS.true c.requires.least c.requires.greatest in
    let whole : c.args.number * 2 ^ (23 - c.args.top) % 2 ^ 32 ≡ c.args.number * 2 ^ (23 - c.args.top) =
    mod-eq_of_lt (omega (arith, known.1)) in
    omega (arith, known.1)

pub returns-else-top-le-FRACTION_BITS-clause-value : goal.returns-else-top-le-FRACTION_BITS-clause-value
returns-else-top-le-FRACTION_BITS-clause-value c =
    (shifted_down c.args.number c.args.top (omega arith) c.requires.greatest).0

pub returns-else-top-le-FRACTION_BITS-clause-below : goal.returns-else-top-le-FRACTION_BITS-clause-below
returns-else-top-le-FRACTION_BITS-clause-below c =
    (shifted_down c.args.number c.args.top (omega arith) c.requires.greatest).1
