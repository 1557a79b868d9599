-- Varints of three and of five bytes.
use Rattle.std.proofs.Common.{◌≡◌, ℕ, ◌+◌, ◌*◌, ◌%◌, ◌<◌, ◌≤◌, List, [], ◌∷◌, Some, length, get_or, take, drop}
use Rattle.std.proofs.Common.{ap, arith}
use Rattle.std.proofs.lemmas.Bool.{le-ltb, lt-ltb, ne_eqb}
use Rattle.packed_event.specs.Reading.{digits_within, varint_part}
use Rattle.packed_event.proofs.Parts.{read_as}

three_read : (a b c : ℕ) (rest : List ℕ) → 128 ≤ a → 128 ≤ b → 1 ≤ c → c < 128
    → varint_part (a ∷ b ∷ c ∷ rest) ≡ Some (a % 128 + b % 128 * 128 + c * 16384, rest)
unfolding varint_part digits_within
three_read a b c rest high high' some low =
    rw (le-ltb a 128 high, le-ltb b 128 high', lt-ltb c 128 low, ne_eqb c 0 (λ e. omega (arith, e, some)))
    (ap (λ (n : ℕ). read_as n rest) same)
  where
    same : a % 128 + 128 * (b % 128 + 128 * c) ≡ a % 128 + b % 128 * 128 + c * 16384
    same = omega arith

five_read : (a b c d e : ℕ) (rest : List ℕ) → 128 ≤ a → 128 ≤ b → 128 ≤ c → 128 ≤ d → 1 ≤ e → e < 128
    → varint_part (a ∷ b ∷ c ∷ d ∷ e ∷ rest)
    ≡ Some (a % 128 + b % 128 * 128 + c % 128 * 16384 + d % 128 * 2097152 + e * 268435456, rest)
unfolding varint_part digits_within
five_read a b c d e rest high-a high-b high-c high-d some low =
    rw (
      le-ltb a 128 high-a,
      le-ltb b 128 high-b,
      le-ltb c 128 high-c,
      le-ltb d 128 high-d,
      lt-ltb e 128 low,
      ne_eqb e 0 (λ none. omega (arith, none, some)),
    )
    (ap (λ (n : ℕ). read_as n rest) same)
  where
    same : a % 128 + 128 * (b % 128 + 128 * (c % 128 + 128 * (d % 128 + 128 * e)))
        ≡ a % 128 + b % 128 * 128 + c % 128 * 16384 + d % 128 * 2097152 + e * 268435456
    same = omega arith

-- ---- the same, of the first bytes as one list

pub three_at : (bytes first : List ℕ) → first ≡ take 3 bytes → 3 ≤ length bytes → 128 ≤ get_or first 0 0
    → 128 ≤ get_or first 1 0 → 1 ≤ get_or first 2 0 → get_or first 2 0 < 128
    → varint_part bytes
    ≡ Some (get_or first 0 0 % 128 + get_or first 1 0 % 128 * 128 + get_or first 2 0 * 16384, drop 3 bytes)
three_at [] first is long a b some low = absurd (omega (arith, long))
three_at (x ∷ []) first is long a b some low = absurd (omega (arith, long))
three_at (x ∷ y ∷ []) first is long a b some low = absurd (omega (arith, long))
three_at (x ∷ y ∷ z ∷ rest) first is long a b some low =
    rw is (three_read x y z rest (rw is at a) (rw is at b) (rw is at some) (rw is at low))

pub five_at : (bytes first : List ℕ) → first ≡ take 5 bytes → 5 ≤ length bytes → 128 ≤ get_or first 0 0
    → 128 ≤ get_or first 1 0 → 128 ≤ get_or first 2 0 → 128 ≤ get_or first 3 0 → 1 ≤ get_or first 4 0
    → get_or first 4 0 < 128
    → varint_part bytes
    ≡ Some (
      get_or first 0 0 % 128 + get_or first 1 0 % 128 * 128 + get_or first 2 0 % 128 * 16384
          + get_or first 3 0 % 128 * 2097152 + get_or first 4 0 * 268435456,
      drop 5 bytes,
    )
five_at [] first is long a b c d some low = absurd (omega (arith, long))
five_at (v ∷ []) first is long a b c d some low = absurd (omega (arith, long))
five_at (v ∷ w ∷ []) first is long a b c d some low = absurd (omega (arith, long))
five_at (v ∷ w ∷ x ∷ []) first is long a b c d some low = absurd (omega (arith, long))
five_at (v ∷ w ∷ x ∷ y ∷ []) first is long a b c d some low = absurd (omega (arith, long))
five_at (v ∷ w ∷ x ∷ y ∷ z ∷ rest) first is long a b c d some low =
    rw is (
    five_read v w x y z rest (rw is at a) (rw is at b) (rw is at c) (rw is at d) (rw is at some) (rw is at low)
    )
