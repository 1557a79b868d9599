use Rattle.std.proofs.Common.{◌≡◌, ◌⊎◌, ℕ, ◌+◌, ◌*◌, ◌/◌, ◌%◌, ◌^◌, ◌<◌, ◌≤◌, Option, None, sym, ◌∙◌, inl, inr, arith}
use Rattle.std.specs.Option.{SomeIff}
use Rattle.riemann_msg.specs.Ttl.{exponent_of, fraction_of, sign_of, scaled_value, seconds_of}
use Rattle.riemann_msg.proofs.TtlBits.{seconds_of-zero, seconds_of-signed, seconds_of-tiny, seconds_of-huge}
use Rattle.riemann_msg.proofs.TtlBits.{seconds_of-whole, not_both}
use Rattle.riemann_msg.proofs.ttl.ttl_of_bits.Goals as goal

pub returns-then-fraction-eq0-clause-value : goal.returns-then-fraction-eq0-clause-value
returns-then-fraction-eq0-clause-value c =
    seconds_of-zero c.args.bits (sym c.exponent_of-exponent.ensures ∙ c.if-exponent-eq0.true)
    (sym c.fraction_of-fraction.ensures ∙ c.if-fraction-eq0.true)

refused : (bits e f : ℕ) → e ≡ exponent_of bits → f ≡ fraction_of bits → (((e ≡ 0) × (f ≡ 0 → ⊥)) ⊎ (e ≡ 0 → ⊥))
    → ((sign_of bits ≡ 0 → ⊥) ⊎ (((sign_of bits ≡ 0) × (e ≡ 0)) ⊎ ((sign_of bits ≡ 0) × (e ≡ 0 → ⊥) × (157 < e))))
    → None ≡ seconds_of bits
refused bits e f is_e is_f some (inl signed) =
    seconds_of-signed bits (λ n m. not_both e f some (is_e ∙ n) (is_f ∙ m)) signed
refused bits e f is_e is_f some (inr (inl tiny)) =
    seconds_of-tiny bits (λ n m. not_both e f some (is_e ∙ n) (is_f ∙ m)) tiny.0 (sym is_e ∙ tiny.1)
refused bits e f is_e is_f some (inr (inr huge)) = seconds_of-huge bits huge.0 (omega (arith, huge.2))

pub returns-then-bits-ne0-clause-value : goal.returns-then-bits-ne0-clause-value
returns-then-bits-ne0-clause-value c =
    refused c.args.bits c.exponent_of-exponent.result c.fraction_of-fraction.result c.exponent_of-exponent.ensures
    c.fraction_of-fraction.ensures c.else-exponent-eq0.either c.then-bits-ne0.either

reported : (bits e f : ℕ) (found : Option ℕ) → e ≡ exponent_of bits → f ≡ fraction_of bits → sign_of bits ≡ 0
    → (e ≡ 0 → ⊥) → e ≤ 157
    → SomeIff found ((2 ^ 23 + f) * 2 ^ e % 2 ^ 150 ≡ 0) ((2 ^ 23 + f) * 2 ^ e / 2 ^ 150) → found ≡ seconds_of bits
reported bits e f found is_e is_f unsigned some small known =
    let at : SomeIff found (scaled_value bits % 2 ^ 150 ≡ 0) (scaled_value bits / 2 ^ 150) = rw (is_e, is_f) at known in
    seconds_of-whole bits found unsigned (λ none. some (is_e ∙ none)) (omega arith) at

pub returns-clause-value : goal.returns-clause-value
returns-clause-value c =
    reported c.args.bits c.exponent_of-exponent.result c.fraction_of-fraction.result c.whole_of.result
    c.exponent_of-exponent.ensures c.fraction_of-fraction.ensures c.if-bits-ne0.false c.if-exponent-eq0-2.false
    c.if-exponent-gt-GREATEST_EXPONENT.false c.whole_of.ensures
