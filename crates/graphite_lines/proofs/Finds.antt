-- The first byte that passes a test.
use Rattle.std.proofs.Common.{◌≡◌, ℕ, ◌<◌, ◌≤◌, ◌==◌, Bool, ltb, List, [], ◌∷◌, length, Option, Some, None, refl, sym}
use Rattle.std.proofs.Common.{arith, inl, inr}
use Rattle.std.proofs.lemmas.Bool.{cases_Bool, false_from_ne_true, ltb-true, ltb-false}
use Rattle.std.proofs.lemmas.List.Splits.{slice_split_none}
use Rattle.std.proofs.lemmas.List.Sums.{fails_before_first, position_or_len_is, prefix_len-le-length}
use Rattle.std.specs.List.{position, position_or_len, slice_split}
use Rattle.std.specs.Option.{MatchOption}
use Rattle.memchr.specs.Find.{IsFirstByte, is_byte}

-- r is the first place whose byte passes, if there is one
abbrev pub IsPlace : (ℕ → Bool) → List ℕ → Option ℕ → Type 0
IsPlace p bytes r =
    MatchOption r (position_or_len p bytes ≡ length bytes) (λ at. (at ≡ position_or_len p bytes) × (at < length bytes))

pub first_place : (wanted : ℕ) (bytes : List ℕ) (r : Option ℕ) → IsFirstByte (is_byte wanted) bytes r
    → IsPlace (λ byte. byte == wanted) bytes r
first_place wanted bytes None h =
    position_or_len_is (λ byte. byte == wanted) bytes (length bytes) 0 (omega arith)
    (λ k less. false_from_ne_true _ (h k (omega arith) less)) (λ inside. absurd (omega arith))
first_place wanted bytes (Some at) h =
    let inside = h.0.high in (
      sym (position_or_len_is (λ byte. byte == wanted) bytes at 0 (omega arith)
          (λ k less. false_from_ne_true _ (h.0.before k (omega arith) less)) (λ within. h.1)),
      h.0.high,
    )

pub place_of : (p : ℕ → Bool) (bytes : List ℕ) (r : Option ℕ) → r ≡ position p bytes → IsPlace p bytes r
place_of p bytes r h = elim (cases_Bool (ltb (position_or_len p bytes) (length bytes))) [
  | inl found ↦ let e : r ≡ Some (position_or_len p bytes) = rw found at h in
      rw e (refl, ltb-true (position_or_len p bytes) (length bytes) found)
  | inr passed ↦ let e : r ≡ None = rw passed at h in
      let least = ltb-false (position_or_len p bytes) (length bytes) passed in
      let most : position_or_len p bytes ≤ length bytes = prefix_len-le-length _ bytes in
      let same : position_or_len p bytes ≡ length bytes = omega arith in
      rw e same
]

pub split_nowhere : (p : ℕ → Bool) (bytes : List ℕ) → position_or_len p bytes ≡ length bytes
    → slice_split p bytes ≡ bytes ∷ []
split_nowhere p bytes h = slice_split_none p bytes (λ k d less. fails_before_first p bytes k d (omega arith))
