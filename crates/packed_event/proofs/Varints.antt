-- A varint in its shortest spelling is read as its number.
use Rattle.std.proofs.Common.{◌≡◌, ℕ, zero, suc, ◌+◌, ◌*◌, ◌/◌, ◌%◌, ◌^◌, ◌<◌, ◌≤◌, false, eqb, ltb, List, [], ◌∷◌}
use Rattle.std.proofs.Common.{◌++◌, Some, refl, sym, ap, subst, arith, inl, inr}
use Rattle.std.proofs.Math.Nat.{pow-succ'}
use Rattle.std.proofs.lemmas.Bool.{cases_lt, lt-ltb, le-ltb, eqb-true, eq-eqb, ne_eqb, eqb-false}
use Rattle.pb_wire.specs.Varint.{spelled_within, varint}
use Rattle.packed_event.specs.Reading.{digits_within, varint_part}
use Rattle.packed_event.proofs.Parts.{IsBytes, IsBytes-tail, IsPart, bind_some, passed, not_refused, some_is, read_as}

-- the numbers of n + 1 digits, of which the last is at most 1
abbrev Below : ℕ → ℕ → Type 0
Below n value = value < 2 * 128 ^ n

record Spells (n : ℕ) (bytes : List ℕ) (read : ℕ × List ℕ) : Type 0 where
  parts : bytes ≡ spelled_within n read.0 ++ read.1
  some : 0 < read.0
  below : Below n read.0

high_spelled : (n byte more : ℕ) (rest after : List ℕ) → 128 ≤ byte → byte < 256 → 0 < more
    → rest ≡ spelled_within n more ++ after
    → byte ∷ rest ≡ spelled_within (suc n) (byte % 128 + 128 * more) ++ after
unfolding spelled_within
high_spelled n byte more rest after high small some parts =
    let v : ℕ = byte % 128 + 128 * more in
    let large : 128 ≤ v = omega arith in
    let half : v / 128 ≡ more = omega arith in
    let digit : 128 + v % 128 ≡ byte = omega arith in
    rw (le-ltb v 128 large, half, digit) (ap (λ (t : List ℕ). byte ∷ t) parts)

digits_sound : (n : ℕ) (bytes : List ℕ) (read : ℕ × List ℕ) → IsBytes bytes → digits_within n bytes ≡ Some read
    → Spells n bytes read
unfolding digits_within spelled_within
digits_sound zero [] read fits e = absurd cc
digits_sound zero (byte ∷ rest) read fits e =
    let p = passed (eqb byte 1) (Some (1, rest)) read e in
    subst (λ (r : ℕ × List ℕ). Spells zero (byte ∷ rest) r) (some_is (1, rest) read p.1)
    (record { parts = ap (λ (b : ℕ). b ∷ rest) (eqb-true byte 1 p.0); some = omega arith; below = omega arith })
digits_sound (suc n) [] read fits e = absurd cc
digits_sound (suc n) (byte ∷ rest) read fits e =
    elim (cases_lt byte 128) [
      | inl low ↦
          (let p = not_refused (eqb byte 0) (Some (byte, rest)) read (rw (lt-ltb byte 128 low) at e) in
          let some : byte ≡ 0 → ⊥ = eqb-false byte 0 p.0 in
          let power : 128 ^ suc n ≡ 128 * 128 ^ n = pow-succ' 128 n in
          let positive : 0 < 128 ^ n = positive_power n in
          subst (λ (r : ℕ × List ℕ). Spells (suc n) (byte ∷ rest) r) (some_is (byte, rest) read p.1)
          (record { parts = rw (lt-ltb byte 128 low) refl; some = omega arith; below = omega arith }))
      | inr high ↦
          (let b = bind_some (digits_within n rest) (λ (more : ℕ × List ℕ). read_as (byte % 128 + 128 * more.0)
          more.1) read (rw (le-ltb byte 128 high) at e) in
          let h = digits_sound n rest b.0 (IsBytes-tail byte rest fits) b.1 in
          let power : 128 ^ suc n ≡ 128 * 128 ^ n = pow-succ' 128 n in
          subst (λ (r : ℕ × List ℕ). Spells (suc n) (byte ∷ rest) r)
          (some_is (byte % 128 + 128 * b.0.0, b.0.1) read b.2)
          (record {
            parts = high_spelled n byte b.0.0 rest b.0.1 high (fits 0) h.some h.parts;
            some = omega (arith, h.some);
            below = omega (arith, h.below);
          }))
    ]
  where
    positive_power : (n : ℕ) → 0 < 128 ^ n
    positive_power zero = omega arith
    positive_power (suc n) = omega (arith, positive_power n, pow-succ' 128 n)

digits_whole : (n value : ℕ) (rest : List ℕ) → 0 < value → Below n value
    → digits_within n (spelled_within n value ++ rest) ≡ Some (value, rest)
unfolding digits_within spelled_within
digits_whole zero value rest some below =
    let one : value ≡ 1 = omega arith in
    rw (eq-eqb value 1 one) (ap (λ (v : ℕ). read_as v rest) (sym one))
digits_whole (suc n) value rest some below =
    let power : 128 ^ suc n ≡ 128 * 128 ^ n = pow-succ' 128 n in
    elim (cases_lt value 128) [
      | inl low ↦
          (let not_zero : eqb value 0 ≡ false = ne_eqb value 0 (λ e. omega (arith, e, some)) in
          rw (lt-ltb value 128 low, lt-ltb value 128 low, not_zero) refl)
      | inr high ↦
          (let large : ltb (128 + value % 128) 128 ≡ false = le-ltb (128 + value % 128) 128 (omega arith) in
          let again = digits_whole n (value / 128) rest (omega arith) (omega (arith, power, below)) in
          rw (le-ltb value 128 high, large, again) (ap (λ (v : ℕ). read_as v rest) (omega arith)))
    ]

-- ---- whole varints

varint_sound : (bytes : List ℕ) (read : ℕ × List ℕ) → IsBytes bytes → varint_part bytes ≡ Some read
    → (bytes ≡ varint read.0 ++ read.1) × (read.0 < 2 ^ 64)
unfolding varint_part varint spelled_within
varint_sound [] read fits e = absurd cc
varint_sound (byte ∷ rest) read fits e =
    elim (cases_lt byte 128) [
      | inl low ↦
          subst (λ (r : ℕ × List ℕ). (byte ∷ rest ≡ spelled_within 9 r.0 ++ r.1) × (r.0 < 2 ^ 64))
          (some_is (byte, rest) read (rw (lt-ltb byte 128 low) at e)) (rw (lt-ltb byte 128 low) refl, omega arith)
      | inr high ↦
          (let b = bind_some (digits_within 8 rest) (λ (more : ℕ × List ℕ). read_as (byte % 128 + 128 * more.0)
          more.1) read (rw (le-ltb byte 128 high) at e) in
          let h = digits_sound 8 rest b.0 (IsBytes-tail byte rest fits) b.1 in
          subst (λ (r : ℕ × List ℕ). (byte ∷ rest ≡ spelled_within 9 r.0 ++ r.1) × (r.0 < 2 ^ 64))
          (some_is (byte % 128 + 128 * b.0.0, b.0.1) read b.2)
          (high_spelled 8 byte b.0.0 rest b.0.1 high (fits 0) h.some h.parts, omega (arith, h.below)))
    ]

varint_whole : (value : ℕ) (rest : List ℕ) → value < 2 ^ 64 → varint_part (varint value ++ rest) ≡ Some (value, rest)
unfolding varint_part varint spelled_within
varint_whole value rest fits =
    elim (cases_lt value 128) [
      | inl low ↦ rw (lt-ltb value 128 low, lt-ltb value 128 low) refl
      | inr high ↦
          (let large : ltb (128 + value % 128) 128 ≡ false = le-ltb (128 + value % 128) 128 (omega arith) in
          let again = digits_whole 8 (value / 128) rest (omega arith) (omega (arith, fits)) in
          rw (le-ltb value 128 high, large, again) (ap (λ (v : ℕ). read_as v rest) (omega arith)))
    ]

pub varint_is_part : IsPart varint_part varint (λ value. value < 2 ^ 64)
varint_is_part = record { sound = varint_sound; whole = λ value rest fits short. varint_whole value rest fits }
