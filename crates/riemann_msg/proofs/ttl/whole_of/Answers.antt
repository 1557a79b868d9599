use Rattle.std.proofs.Common.{◌≡◌, ◌+◌, ◌-◌, ◌*◌, ◌%◌, ◌^◌, sym, ◌∙◌, ap, arith}
use Rattle.std.proofs.lemmas.Nat.{shl_whole}
use Rattle.std.proofs.Math.Nat.{zero-mul}
use Rattle.riemann_msg.proofs.TtlBits.{scaled_half, scaled_rest, up_half, up_rest, no_product, small_rest, masked_some}
use Rattle.riemann_msg.proofs.TtlBits.{masked_none}
use Rattle.riemann_msg.proofs.ttl.whole_of.Goals as goal
use Rattle.riemann_msg.proofs.ttl.whole_of.Goals.{then-places-gt-FRACTION_BITS-via-then-places-gt-FRACTION_BITS}
use Rattle.riemann_msg.proofs.ttl.whole_of.Goals.{then-places-gt-FRACTION_BITS-via-else-places-gt-FRACTION_BITS+then-significand-places-ne0}

pub returns-then-exponent-ge-ONES : goal.returns-then-exponent-ge-ONES
returns-then-exponent-ge-ONES c =
    let s = c.args.significand in
    let e = c.args.exponent in
    let p = e - 150 in
    let is : p + 150 ≡ e = omega arith in
    (up_rest s e p 150 is, shl_whole s 24 p 32 (omega arith) (omega arith) ∙ sym (up_half s e p 150 is))

pub returns-then-places-gt-FRACTION_BITS : goal.returns-then-places-gt-FRACTION_BITS
returns-then-places-gt-FRACTION_BITS c = λ none.
    let s = c.args.significand in
    let e = c.args.exponent in
    let p = 150 - e in
    let is : p + e ≡ 150 = omega arith in
    let cut : (s % 2 ^ p) * 2 ^ e ≡ 0 = sym (scaled_rest s e p 150 is) ∙ none in
    elim c.then-places-gt-FRACTION_BITS.branch [
      | then-places-gt-FRACTION_BITS-via-then-places-gt-FRACTION_BITS w ↦
          no_product (s % 2 ^ p) e
          (small_rest s p (omega arith) (omega arith) (omega (arith, w.if-places-gt-FRACTION_BITS.true))) cut
      | then-places-gt-FRACTION_BITS-via-else-places-gt-FRACTION_BITS+then-significand-places-ne0 w ↦
          no_product (s % 2 ^ p) e (masked_some s p (omega arith) w.if-significand-places-ne0.true) cut
    ]

pub returns : goal.returns
returns c =
    let s = c.args.significand in
    let e = c.args.exponent in
    let p = 150 - e in
    let is : p + e ≡ 150 = omega arith in
    let turned : e + p ≡ 150 = omega arith in (
      scaled_rest s e p 150 is ∙ ap (λ n. n * 2 ^ e) (masked_none s p (omega arith) c.if-significand-places-ne0.false)
          ∙ zero-mul (2 ^ e),
      sym (scaled_half s e p 150 turned),
    )
