-- The numbers that a binary32 ttl is made of.
use Rattle.std.proofs.Common.{◌≡◌, ◌≢◌, ◌⊎◌, ℕ, zero, suc, ◌+◌, ◌-◌, ◌*◌, ◌/◌, ◌%◌, ◌^◌, ◌<◌, ◌≤◌, Bool, true, false}
use Rattle.std.proofs.Common.{cond, ◌&&◌, eqb, leb, Option, Some, None, refl, sym, ap, subst, ◌∙◌, inl, inr, lit≤}
use Rattle.std.proofs.Common.{arith, add-zero}
use Rattle.std.proofs.lemmas.Nat.{pow_pos, pow-add, shl-shr, shr-shr, mod-pow-add, mul-le, leading_top, and_mask}
use Rattle.std.proofs.lemmas.Nat.{one_shl, mod-mul-add, shl_below, shr_below}
use Rattle.std.proofs.lemmas.Bool.{cases_lt, and_parts, false_from_ne_true, eqb-true, leb-true, eq-eqb, ne_eqb, le-leb}
use Rattle.std.proofs.lemmas.Bool.{lt-leb}
use Rattle.std.proofs.Math.Nat.{pow-le-pow_right, mod-eq_of_lt, pow-succ'}
use Rattle.std.specs.Option.{SomeIff}
use lib.Count.{count_leading_zeros}
use lib.Bits.{bit_and}
use Rattle.riemann_msg.specs.Ttl.{sign_of, exponent_of, fraction_of, scaled_value, IsWhole, IsTtl, IsSpellableTtl}
use Rattle.riemann_msg.specs.Ttl.{seconds_of, bits_of}

-- ---- a shift to the left by e, and then to the right by k, which is p more

pub scaled_half : (s e p k : ℕ) → e + p ≡ k → s * 2 ^ e / 2 ^ k ≡ s / 2 ^ p
scaled_half s e p k is = rw (← is) (sym (shr-shr (s * 2 ^ e) e p) ∙ ap (λ n. n / 2 ^ p) (shl-shr s e))

pub scaled_none : (s e : ℕ) → s * 2 ^ e % 2 ^ e ≡ 0
scaled_none s e = ap (λ n. n % 2 ^ e) (sym (add-zero (s * 2 ^ e))) ∙ mod-mul-add s (2 ^ e) 0 (pow_pos e)

pub scaled_rest : (s e p k : ℕ) → p + e ≡ k → s * 2 ^ e % 2 ^ k ≡ (s % 2 ^ p) * 2 ^ e
scaled_rest s e p k is =
    rw (← is) (mod-pow-add (s * 2 ^ e) p e ∙ ap (λ n. n % 2 ^ p * 2 ^ e + s * 2 ^ e % 2 ^ e) (shl-shr s e)
    ∙ ap (λ n. s % 2 ^ p * 2 ^ e + n) (scaled_none s e) ∙ add-zero (s % 2 ^ p * 2 ^ e))

-- ---- and where e is k or more

pub scaled_up : (s e p k : ℕ) → p + k ≡ e → s * 2 ^ e ≡ s * 2 ^ p * 2 ^ k
scaled_up s e p k is = rw (← is, pow-add 2 p k) (mul_assoc' s (2 ^ p) (2 ^ k))
  where
    mul_assoc' : (a b c : ℕ) → a * (b * c) ≡ a * b * c
    mul_assoc' a b c = omega arith

pub up_half : (s e p k : ℕ) → p + k ≡ e → s * 2 ^ e / 2 ^ k ≡ s * 2 ^ p
up_half s e p k is = ap (λ n. n / 2 ^ k) (scaled_up s e p k is) ∙ shl-shr (s * 2 ^ p) k

pub up_rest : (s e p k : ℕ) → p + k ≡ e → s * 2 ^ e % 2 ^ k ≡ 0
up_rest s e p k is = ap (λ n. n % 2 ^ k) (scaled_up s e p k is) ∙ scaled_none (s * 2 ^ p) k

pub no_product : (r e : ℕ) → r ≢ 0 → r * 2 ^ e ≢ 0
no_product r e some is = omega (arith, mul-le 1 (2 ^ e) r (2 ^ e) (omega arith) (omega arith), pow_pos e)

-- ---- what is left of the significand under a mask of its p lowest places

pub masked : (s p : ℕ) → p < 32 → bit_and s (1 * 2 ^ p % 2 ^ 32 - 1) ≡ s % 2 ^ p
masked s p small = ap (λ n. bit_and s (n - 1)) (one_shl p 32 small) ∙ and_mask s p

pub masked_some : (s p : ℕ) → p < 32 → bit_and s (1 * 2 ^ p % 2 ^ 32 - 1) ≢ 0 → s % 2 ^ p ≢ 0
masked_some s p small some is = some (masked s p small ∙ is)

pub masked_none : (s p : ℕ) → p < 32 → bit_and s (1 * 2 ^ p % 2 ^ 32 - 1) ≡ 0 → s % 2 ^ p ≡ 0
masked_none s p small none = sym (masked s p small) ∙ none

pub small_rest : (s p : ℕ) → 2 ^ 23 ≤ s → s < 2 ^ 24 → 23 < p → s % 2 ^ p ≢ 0
small_rest s p least greatest many =
    let long : 2 ^ 24 ≤ 2 ^ p = pow-le-pow_right {n = 2} (omega arith) many in
    let whole : s % 2 ^ p ≡ s = mod-eq_of_lt (omega arith) in
    λ none. omega arith

-- ---- shifting the highest digit to the place of the leading bit

pub below_next : (n t : ℕ) → n < 2 * 2 ^ t → n < 2 ^ (t + 1)
below_next n t greatest = rw (pow-add 2 t 1) (omega arith)

pub shifted_up : (n t : ℕ) → t ≤ 23 → 2 ^ t ≤ n → n < 2 * 2 ^ t
    → (n * 2 ^ (23 - t) ≡ n * 2 ^ 23 / 2 ^ t) × (n * 2 ^ (23 - t) < 2 ^ 24)
shifted_up n t small least greatest =
    let is : (23 - t) + t ≡ 23 = omega arith in
    let more : t + 1 + (23 - t) ≡ 24 = omega arith in (
      sym (up_half n 23 (23 - t) t is),
      subst (λ (k : ℕ). n * 2 ^ (23 - t) < 2 ^ k) more (shl_below n (t + 1) (23 - t) (below_next n t greatest)),
    )

pub shifted_down : (n t : ℕ) → 23 ≤ t → n < 2 * 2 ^ t
    → (n / 2 ^ (t - 23) ≡ n * 2 ^ 23 / 2 ^ t) × (n / 2 ^ (t - 23) < 2 ^ 24)
shifted_down n t large greatest =
    let is : 23 + (t - 23) ≡ t = omega arith in
    let more : 24 + (t - 23) ≡ t + 1 = omega arith in (
      sym (scaled_half n 23 (t - 23) t is),
      shr_below n 24 (t - 23) (subst (λ (k : ℕ). n < 2 ^ k) (sym more) (below_next n t greatest)),
    )

-- ---- the highest digit of a number below 2 ^ 32

abbrev pub top_of : ℕ → ℕ
top_of n = 31 - count_leading_zeros 32 n

pub top_digit : (n : ℕ) → 0 < n → n < 2 ^ 32 → (top_of n < 32) × (2 ^ top_of n ≤ n) × (n < 2 * 2 ^ top_of n)
top_digit n some small =
    let found = leading_top 32 n some small in
    let is : found.0 ≡ top_of n = omega (arith, found.1) in (
      omega arith,
      subst (λ (j : ℕ). 2 ^ j ≤ n) is found.2,
      subst (λ (j : ℕ). n < 2 * 2 ^ j) is (rw (pow-succ' 2 found.0) at found.3),
    )

pub bits_of-some : (n : ℕ) → n ≢ 0 → bits_of n ≡ (126 + top_of n) * 2 ^ 23 + n * 2 ^ 23 / 2 ^ top_of n
unfolding bits_of
bits_of-some zero some = absurd (some refl)
bits_of-some (suc n) some = refl

pub bits_of-none : 0 ≡ bits_of 0
unfolding bits_of
bits_of-none = refl

-- ---- a ttl that is spelled is below 2 ^ 31, and has one spelling

-- a significand of 24 digits at the exponent e is a number whose highest digit is t
pub exponent_is : (s e n t : ℕ) → 2 ^ 23 ≤ s → s < 2 ^ 24 → s * 2 ^ e ≡ n * 2 ^ 150 → 2 ^ t ≤ n → n < 2 * 2 ^ t
    → e ≡ t + 127
exponent_is s e n t least greatest value low high =
    let s_low : 2 ^ (23 + e) ≤ s * 2 ^ e =
    rw (pow-add 2 23 e) (mul-le (2 ^ 23) (2 ^ e) s (2 ^ e) least (omega arith)) in
    let s_high : s * 2 ^ e < 2 ^ (24 + e) = shl_below s 24 e greatest in
    let n_low : 2 ^ (t + 150) ≤ n * 2 ^ 150 =
    rw (pow-add 2 t 150) (mul-le (2 ^ t) (2 ^ 150) n (2 ^ 150) low (omega arith)) in
    let n_high : n * 2 ^ 150 < 2 ^ (t + 1 + 150) = shl_below n (t + 1) 150 (below_next n t high) in
    let above : 23 + e < t + 1 + 150 = exponents_below (23 + e) (t + 1 + 150) (rw (← value) at n_high) s_low in
    let under : t + 150 < 24 + e = exponents_below (t + 150) (24 + e) (rw value at s_high) n_low in
    omega arith
  where
    exponents_below : (i j : ℕ) {x : ℕ} → x < 2 ^ j → 2 ^ i ≤ x → i < j
    exponents_below i j {x} below above = elim (cases_lt i j) [
      | inl less ↦ less
      | inr more ↦ absurd (omega (arith, pow-le-pow_right {n = 2} (omega arith) more))
    ]

-- the spelling of a number that is not 0, by its digits
abbrev pub digits_spelled : ℕ → ℕ
digits_spelled n = (126 + top_of n) * 2 ^ 23 + n * 2 ^ 23 / 2 ^ top_of n

up_to_181 : (k : ℕ) → k ≤ 181 → 2 ^ k ≤ 2 ^ 181
up_to_181 k small = pow-le-pow_right {n = 2} (omega arith) small

-- a number that some significand of 24 digits gives is below 2 ^ 31
spelled_below : (s e n : ℕ) → s < 2 ^ 24 → e ≤ 157 → s * 2 ^ e ≡ n * 2 ^ 150 → n < 2 ^ 32
spelled_below s e n greatest small value =
    let high : s * 2 ^ e < 2 ^ (24 + e) = shl_below s 24 e greatest in
    let far : 2 ^ (24 + e) ≤ 2 ^ 181 = up_to_181 (24 + e) (omega arith) in
    omega arith

significand_is : (s t n : ℕ) → s * 2 ^ (t + 127) ≡ n * 2 ^ 150 → s ≡ n * 2 ^ 23 / 2 ^ t
significand_is s t n value =
    let parts : s * 2 ^ (t + 127) ≡ s * 2 ^ t * 2 ^ 127 = rw (pow-add 2 t 127) (omega arith) in
    let same : s * 2 ^ t ≡ n * 2 ^ 23 = omega arith in
    sym (shl-shr s t) ∙ ap (λ x. x / 2 ^ t) same

pub one_spelling : (bits n : ℕ) → 0 < n → IsTtl bits n → bits ≡ digits_spelled n
one_spelling bits n some (inl none) = absurd (omega (arith, none.value))
one_spelling bits n some (inr whole) =
    let s = 2 ^ 23 + fraction_of bits in
    let e = exponent_of bits in
    let below : n < 2 ^ 32 = spelled_below s e n (omega arith) whole.greatest whole.value in
    let top = top_digit n some below in
    let at : e ≡ top_of n + 127 = exponent_is s e n (top_of n) (omega arith) (omega arith) whole.value top.1 top.2 in
    let moved : s * 2 ^ (top_of n + 127) ≡ n * 2 ^ 150 = subst (λ (k : ℕ). s * 2 ^ k ≡ n * 2 ^ 150) at whole.value in
    let digits : s ≡ n * 2 ^ 23 / 2 ^ top_of n = significand_is s (top_of n) n moved in
    let made : bits ≡ (126 + top_of n) * 2 ^ 23 + s = omega (arith, whole.sign, at) in
    made ∙ ap (λ x. (126 + top_of n) * 2 ^ 23 + x) digits

-- ---- the seconds by cases

pub seconds_of-zero : (bits : ℕ) → exponent_of bits ≡ 0 → fraction_of bits ≡ 0 → Some 0 ≡ seconds_of bits
unfolding seconds_of
seconds_of-zero bits e f = rw (eq-eqb (exponent_of bits) 0 e, eq-eqb (fraction_of bits) 0 f) refl

not_zero : (e f : ℕ) → (e ≡ 0 → f ≡ 0 → ⊥) → (eqb e 0 && eqb f 0) ≡ false
not_zero e f some =
    false_from_ne_true _
    (λ both. let parts = and_parts (eqb e 0) (eqb f 0) both in some (eqb-true e 0 parts.0) (eqb-true f 0 parts.1))

pub seconds_of-signed : (bits : ℕ) → (exponent_of bits ≡ 0 → fraction_of bits ≡ 0 → ⊥) → sign_of bits ≢ 0
    → None ≡ seconds_of bits
unfolding seconds_of
seconds_of-signed bits some s = rw (not_zero (exponent_of bits) (fraction_of bits) some, ne_eqb (sign_of bits) 0 s) refl

pub seconds_of-tiny : (bits : ℕ) → (exponent_of bits ≡ 0 → fraction_of bits ≡ 0 → ⊥) → sign_of bits ≡ 0
    → exponent_of bits ≡ 0 → None ≡ seconds_of bits
unfolding seconds_of
seconds_of-tiny bits some s e =
    rw (
      not_zero (exponent_of bits) (fraction_of bits) some,
      eq-eqb (sign_of bits) 0 s,
      lt-leb 1 (exponent_of bits) (omega arith),
    )
    refl

pub seconds_of-huge : (bits : ℕ) → sign_of bits ≡ 0 → 157 < exponent_of bits → None ≡ seconds_of bits
unfolding seconds_of
seconds_of-huge bits s e =
    rw (
      not_zero (exponent_of bits) (fraction_of bits) (λ none _. omega arith),
      eq-eqb (sign_of bits) 0 s,
      le-leb 1 (exponent_of bits) (omega arith),
      lt-leb (exponent_of bits) 157 e,
    )
    refl

pub seconds_of-whole : (bits : ℕ) (found : Option ℕ) → sign_of bits ≡ 0 → exponent_of bits ≢ 0 → exponent_of bits ≤ 157
    → SomeIff found (scaled_value bits % 2 ^ 150 ≡ 0) (scaled_value bits / 2 ^ 150) → found ≡ seconds_of bits
unfolding seconds_of
seconds_of-whole bits (Some n) s e small reported =
    rw (
      not_zero (exponent_of bits) (fraction_of bits) (λ none _. e none),
      eq-eqb (sign_of bits) 0 s,
      le-leb 1 (exponent_of bits) (omega arith),
      le-leb (exponent_of bits) 157 small,
      eq-eqb (scaled_value bits % 2 ^ 150) 0 reported.0,
    )
    (ap (λ (x : ℕ). Some x) reported.1)
seconds_of-whole bits None s e small reported =
    rw (
      not_zero (exponent_of bits) (fraction_of bits) (λ none _. e none),
      eq-eqb (sign_of bits) 0 s,
      le-leb 1 (exponent_of bits) (omega arith),
      le-leb (exponent_of bits) 157 small,
      ne_eqb (scaled_value bits % 2 ^ 150) 0 reported,
    )
    refl

-- ---- the seconds are what the equation says

abbrev option_some : ℕ → Option ℕ
option_some x = Some x

abbrev option_none : Option ℕ
option_none = None

pub ttl_from_seconds : (bits n : ℕ) → seconds_of bits ≡ Some n → IsTtl bits n
unfolding seconds_of
ttl_from_seconds bits n found =
    elim (cases_cond_true (eqb (exponent_of bits) 0 && eqb (fraction_of bits) 0) _ _ _ found) [
      | inl zeros ↦ let parts = and_parts _ _ zeros.0 in
          inl (record {
            exponent = eqb-true _ 0 parts.0;
            fraction = eqb-true _ 0 parts.1;
            value = sym (some_same 0 n zeros.1);
          })
      | inr other ↦
          elim (cases_cond_true
          (eqb (sign_of bits) 0 && leb 1 (exponent_of bits) && leb (exponent_of bits) 157
          && eqb (scaled_value bits % 2 ^ 150) 0)
          _ _ _ other.1) [
            | inl whole ↦
                let front =
                and_parts (eqb (sign_of bits) 0 && leb 1 (exponent_of bits) && leb (exponent_of bits) 157)
                (eqb (scaled_value bits % 2 ^ 150) 0) whole.0 in
                let range =
                and_parts (eqb (sign_of bits) 0 && leb 1 (exponent_of bits)) (leb (exponent_of bits) 157) front.0 in
                let start = and_parts (eqb (sign_of bits) 0) (leb 1 (exponent_of bits)) range.0 in
                let even : scaled_value bits % 2 ^ 150 ≡ 0 = eqb-true _ 0 front.1 in
                let half : scaled_value bits / 2 ^ 150 ≡ n = some_same _ n whole.1 in
                inr (record {
                  sign = eqb-true _ 0 start.0;
                  least = leb-true 1 _ start.1;
                  greatest = leb-true _ 157 range.1;
                  value = whole_value (scaled_value bits) n even half;
                })
            | inr none ↦ absurd (none_some none.1)
          ]
    ]
  where
    cases_cond_true : (b : Bool) (x y z : Option ℕ) → cond b x y ≡ z → ((b ≡ true) × (x ≡ z)) ⊎ ((b ≡ false) × (y ≡ z))
    cases_cond_true true x y z e = inl (refl, e)
    cases_cond_true false x y z e = inr (refl, e)

    some_same : (x y : ℕ) → option_some x ≡ option_some y → x ≡ y
    some_same x y e = cc

    none_some : {y : ℕ} → option_none ≡ option_some y → ⊥
    none_some e = cc

    whole_value : (v n : ℕ) → v % 2 ^ 150 ≡ 0 → v / 2 ^ 150 ≡ n → v ≡ n * 2 ^ 150
    whole_value v n even half = omega arith

pub seconds_from_ttl : (bits n : ℕ) → IsTtl bits n → seconds_of bits ≡ Some n
seconds_from_ttl bits n (inl none) =
    sym (seconds_of-zero bits none.exponent none.fraction) ∙ ap (λ (x : ℕ). Some x) (sym none.value)
seconds_from_ttl bits n (inr whole) =
    let even : scaled_value bits % 2 ^ 150 ≡ 0 = ap (λ x. x % 2 ^ 150) whole.value ∙ scaled_none n 150 in
    let half : scaled_value bits / 2 ^ 150 ≡ n = ap (λ x. x / 2 ^ 150) whole.value ∙ shl-shr n 150 in
    sym (seconds_of-whole bits (Some n) whole.sign (λ none. omega (arith, whole.least)) whole.greatest (even, sym half))

pub eight_bits : (bits : ℕ) → bit_and (bits / 2 ^ 23) 255 ≡ bits / 2 ^ 23 % 2 ^ 8
eight_bits bits = and_mask (bits / 2 ^ 23) 8

pub lowest_bits : (bits : ℕ) → bit_and bits 8388607 ≡ bits % 2 ^ 23
lowest_bits bits = and_mask bits 23

pub not_both : (e f : ℕ) → (((e ≡ 0) × (f ≡ 0 → ⊥)) ⊎ (e ≡ 0 → ⊥)) → e ≡ 0 → f ≡ 0 → ⊥
not_both e f (inl (is, other)) none also = other also
not_both e f (inr other) none also = other none

pub bits_of_spells : (n : ℕ) → IsSpellableTtl n → IsTtl (bits_of n) n
unfolding bits_of
bits_of_spells zero found = inl (record { exponent = refl; fraction = refl; value = refl })
bits_of_spells (suc n) (found, reported) =
    subst (λ (bits : ℕ). IsTtl bits (suc n)) (one_spelling found (suc n) (omega arith) reported) reported

pub bits_of_small : (n : ℕ) → IsSpellableTtl n → bits_of n < 2 ^ 32
unfolding bits_of
bits_of_small zero found = omega arith
bits_of_small (suc n) found = small (bits_of (suc n)) (suc n) (omega arith) (bits_of_spells (suc n) found)
  where
    small : (bits m : ℕ) → 0 < m → IsTtl bits m → bits < 2 ^ 32
    small bits m some (inl none) = absurd (omega (arith, none.value))
    small bits m some (inr whole) = omega (arith, whole.sign)

-- ---- each whole number up to 2 ^ 24 can be spelled

-- the digits s of a number whose highest digit is t
digits_spell : (n t s bits : ℕ) → t ≤ 24 → 2 ^ 23 ≤ s → s < 2 ^ 24 → s * 2 ^ t ≡ n * 2 ^ 23
    → bits ≡ (126 + t) * 2 ^ 23 + s → IsWhole bits n
digits_spell n t s bits few least greatest value is =
    let exponent : exponent_of bits ≡ t + 127 = omega arith in
    let fraction : 2 ^ 23 + fraction_of bits ≡ s = omega arith in
    record {
      sign = omega arith;
      least = omega (arith, exponent);
      greatest = omega (arith, exponent);
      value = rw (fraction, exponent, pow-add 2 t 127) (placed s (2 ^ t) n value);
    }
  where
    placed : (s x n : ℕ) → s * x ≡ n * 2 ^ 23 → s * (x * 2 ^ 127) ≡ n * 2 ^ 150
    placed s x n value = omega arith

-- a number of at most 24 digits, shifted so that its highest one is the leading bit
low_digits : (n t : ℕ) → t ≤ 23 → 2 ^ t ≤ n → n < 2 * 2 ^ t
    → (2 ^ 23 ≤ n * 2 ^ (23 - t)) × (n * 2 ^ (23 - t) < 2 ^ 24) × (n * 2 ^ (23 - t) * 2 ^ t ≡ n * 2 ^ 23)
low_digits n t few least greatest =
    let whole : 2 ^ (23 - t) * 2 ^ t ≡ 2 ^ 23 = sym (pow-add 2 (23 - t) t) ∙ ap (λ k. 2 ^ k) (sum few) in
    let turned : 2 ^ t * 2 ^ (23 - t) ≡ 2 ^ 23 = omega (arith, whole) in (
      omega (arith, turned, mul-le (2 ^ t) (2 ^ (23 - t)) n (2 ^ (23 - t)) least (omega arith)),
      (shifted_up n t few least greatest).1,
      regroup n (2 ^ (23 - t)) (2 ^ t) ∙ ap (λ x. n * x) whole,
    )
  where
    sum : t ≤ 23 → (23 - t) + t ≡ 23
    sum few = omega arith

    regroup : (a b c : ℕ) → a * b * c ≡ a * (b * c)
    regroup a b c = omega arith

pub small_spells : (n : ℕ) → n ≤ 2 ^ 24 → IsSpellableTtl n
small_spells zero small = (0, inl (record { exponent = refl; fraction = refl; value = refl }))
small_spells (suc n) small =
    let top = top_digit (suc n) (omega arith) (omega arith) in
    elim (cases_lt (top_of (suc n)) 24) [
      | inl few ↦
          let t = top_of (suc n) in
          let digits = low_digits (suc n) t (omega arith) top.1 top.2 in (
            (126 + t) * 2 ^ 23 + suc n * 2 ^ (23 - t),
            inr (digits_spell (suc n) t (suc n * 2 ^ (23 - t)) _ (omega arith) digits.0 digits.1 digits.2 refl),
          )
      | inr many ↦
          let large : 2 ^ 24 ≤ 2 ^ top_of (suc n) = pow-le-pow_right {n = 2} (omega arith) many in
          let is : suc n ≡ 2 ^ 24 = omega (arith, top.1) in
          subst (λ (m : ℕ). IsSpellableTtl m) (sym is) (
            (126 + 24) * 2 ^ 23 + 2 ^ 23,
            inr (record { sign = refl; least = lit≤ tt; greatest = lit≤ tt; value = refl }),
          )
    ]
