-- Which words are values and times, and what `parse` gives of them.
use Rattle.std.proofs.Common.{◌≡◌, ◌≢◌, ℕ, ℤ, pos, negsuc, ◌+◌, ◌<◌, ◌≤◌, ◌^◌, Bool, true, false, cond, ◌&&◌, nat_lt}
use Rattle.std.proofs.Common.{nat_le, List, [], ◌∷◌, length, take, drop, get_or, Option, Some, None, Result, Ok, Err}
use Rattle.std.proofs.Common.{refl, sym, subst, ◌∙◌, ap, arith, inl, inr}
use Rattle.std.proofs.lemmas.Bool.{cases_Bool, and_from, and_left, and_parts, and_right, eqb-true, leb-true, le-leb}
use Rattle.std.proofs.lemmas.Bool.{lt-leb, lt-ltb, ltb-true, ne_eqb}
use Rattle.std.proofs.lemmas.Fmt.{IsAscii-from_digits}
use Rattle.std.proofs.lemmas.Str.{IsUtf8-from_ascii, IsUtf8-nil}
use Rattle.std.proofs.lemmas.Str.Ascii.{IsAscii-cons}
use Rattle.std.proofs.lemmas.Str.Parse.{IsNumeralModel, numerals_by_value, tells_all_ascii_digits}
use Rattle.std.specs.Bool.{Decides}
use Rattle.std.specs.Int.{w64}
use Rattle.std.specs.List.{before_first, list_any, position_or_len}
use Rattle.std.specs.Option.{MatchOption}
use Rattle.std.specs.Prelude.{FitsSigned}
use Rattle.std.specs.Result.{OkIff, result_ok}
use Rattle.std.specs.Str.{IsAscii, IsUtf8, all_ascii_digits}
use Rattle.std.specs.Str.Parse.{IsNumeral, ParsesSigned, digits_value, signed_digits_value, starts_with_minus}
use Rattle.std.specs.Str.Parse.{without_leading_sign}
use Rattle.graphite_lines.specs.Words.{are_digits, are_zeros, fits_signed, is_point, is_time, is_value, is_whole}
use Rattle.graphite_lines.specs.Words.{time_of, value_of, without_minus}

-- ---- the test of a whole number decides what `parse` reads

digits_model : IsNumeralModel (λ ds. all_ascii_digits ds ≡ true) (digits_value 10)
digits_model = numerals_by_value _ tells_all_ascii_digits

pub fits_decides : (n : ℤ) → Decides (fits_signed n) (FitsSigned w64 n)
fits_decides (pos n) = (λ h. record { sfits = ltb-true n (2 ^ 63) h }, λ h. lt-ltb n (2 ^ 63) h.sfits)
fits_decides (negsuc n) = (λ h. record { sfits = ltb-true n (2 ^ 63) h }, λ h. lt-ltb n (2 ^ 63) h.sfits)

digits_decide : (word : List ℕ) → length word ≤ 20 → Decides (are_digits 20 word) (IsNumeral 10 word)
digits_decide word few = (
  λ h. let outer = and_parts _ _ h in let inner = and_parts _ _ outer.0 in
      let some : 1 ≤ length word = leb-true 1 (length word) inner.0 in
      (omega arith, digits_model.to word outer.1),
  λ p. and_from _ _
      (and_from _ _ (le-leb 1 (length word) (let some = p.0 in omega arith)) (le-leb (length word) 20 few))
      (digits_model.from word p.1),
)

-- no `+` begins the word
sign_is : (word : List ℕ) → get_or word 0 0 ≢ 43 → without_leading_sign word ≡ without_minus word
sign_is word plus = elim (cases_Bool (starts_with_minus word)) [
  | inl minus ↦ rw minus refl
  | inr none ↦ rw (none, ne_eqb (get_or word 0 0) 43 plus) refl
]

abbrev pub GivesWhole : List ℕ → Option ℤ → Type 0
GivesWhole word r =
    MatchOption r (is_whole word ≡ false) (λ number. (is_whole word ≡ true) × (number ≡ signed_digits_value 10 word))

whole_decides : (word : List ℕ) → length (without_minus word) ≤ 20 → get_or word 0 0 ≢ 43
    → Decides (is_whole word) (IsNumeral 10 (without_leading_sign word) × FitsSigned w64 (signed_digits_value 10 word))
unfolding is_whole
whole_decides word few plus =
    let digits = digits_decide (without_minus word) few in let fits = fits_decides (signed_digits_value 10 word) in
    let P : List ℕ → Type 0 = λ ds. IsNumeral 10 ds in let same = sign_is word plus in (
      λ h. let parts = and_parts _ _ h in (subst P (sym same) (digits.0 parts.0), fits.0 parts.1),
      λ p. and_from _ _ (digits.1 (subst P same p.0)) (fits.1 p.1),
    )

by_test : {E : Type 0} (word : List ℕ) (r : Result ℤ E) (P : Type 0) (t : Bool) → is_whole word ≡ t
    → OkIff r P (signed_digits_value 10 word) → Decides t P
    → GivesWhole word (result_ok r)
by_test word (Ok x) P true e h d = (e, h.1)
by_test word (Ok x) P false e h d = let no : false ≡ true = d.1 h.0 in cc
by_test word (Err x) P true e h d = absurd (h (d.0 refl))
by_test word (Err x) P false e h d = e

pub parsed_whole : {E : Type 0} (word : List ℕ) (r : Result ℤ E) → ParsesSigned w64 10 word r
    → length (without_minus word) ≤ 20 → get_or word 0 0 ≢ 43
    → GivesWhole word (result_ok r)
parsed_whole word r h few plus = by_test word r _ (is_whole word) refl h (whole_decides word few plus)

-- ---- other words are no whole numbers

no_digits : (word : List ℕ) → all_ascii_digits (without_minus word) ≡ false → is_whole word ≡ false
unfolding is_whole
no_digits word h = and_left _ (fits_signed (signed_digits_value 10 word)) (and_right _ _ h)

digits_are_utf8 : (word : List ℕ) → all_ascii_digits word ≡ true → IsAscii word
digits_are_utf8 word digits = IsAscii-from_digits word (digits_model.to word digits)

signed_is_utf8 : (word : List ℕ) (minus : Bool) → starts_with_minus word ≡ minus
    → all_ascii_digits (drop (cond minus 1 0) word) ≡ true → IsUtf8 word
signed_is_utf8 [] minus e digits = IsUtf8-nil
signed_is_utf8 (byte ∷ bytes) true e digits =
    let is : byte ≡ 45 = eqb-true byte 45 e in
    IsUtf8-from_ascii (byte ∷ bytes) (IsAscii-cons byte bytes (omega arith) (digits_are_utf8 bytes digits))
signed_is_utf8 (byte ∷ bytes) false e digits = IsUtf8-from_ascii (byte ∷ bytes) (digits_are_utf8 (byte ∷ bytes) digits)

pub whole_is_utf8 : (word : List ℕ) → (IsUtf8 word → ⊥) → is_whole word ≡ false
whole_is_utf8 word h = elim (cases_Bool (all_ascii_digits (without_minus word))) [
  | inl digits ↦ absurd (h (signed_is_utf8 word (starts_with_minus word) refl digits))
  | inr none ↦ no_digits word none
]

pub whole_with_plus : (word : List ℕ) → get_or word 0 0 ≡ 43 → is_whole word ≡ false
whole_with_plus [] h = absurd (omega arith)
whole_with_plus (byte ∷ bytes) h = no_digits (byte ∷ bytes) (rw h refl)

pub whole_of_many : (word : List ℕ) → 20 < length (without_minus word) → is_whole word ≡ false
unfolding is_whole
whole_of_many word h =
    and_left _ (fits_signed (signed_digits_value 10 word))
    (and_left _ (all_ascii_digits (without_minus word))
    (and_right (nat_le 1 (length (without_minus word))) _ (lt-leb (length (without_minus word)) 20 h)))

-- ---- values

point_among : (word : List ℕ) → position_or_len is_point word < length word → list_any is_point word ≡ true
point_among [] h = absurd (omega arith)
point_among (byte ∷ bytes) h = elim (cases_Bool (is_point byte)) [
  | inl found ↦ rw found refl
  | inr passed ↦
      let more : 1 + position_or_len is_point bytes < length (byte ∷ bytes) = rw passed at h in
      rw passed (point_among bytes (omega arith))
]

no_point : (word : List ℕ) → length word ≤ position_or_len is_point word → list_any is_point word ≡ false
no_point [] h = refl
no_point (byte ∷ bytes) h = elim (cases_Bool (is_point byte)) [
  | inl found ↦ let none : length (byte ∷ bytes) ≤ 0 = rw found at h in absurd (omega arith)
  | inr passed ↦
      let more : length (byte ∷ bytes) ≤ 1 + position_or_len is_point bytes = rw passed at h in
      rw passed (no_point bytes (omega arith))
]

pub value_at_point : (word : List ℕ) (point : ℕ) → point ≡ position_or_len is_point word → point < length word
    → is_value word ≡ (is_whole (take point word) && are_zeros (drop (point + 1) word))
unfolding is_value
value_at_point word point is inside =
    let before : position_or_len is_point word < length word = omega arith in
    rw (is, point_among word before) refl

take_whole : (bytes : List ℕ) → take (length bytes) bytes ≡ bytes
take_whole [] = refl
take_whole (byte ∷ bytes) = ap (λ bs. byte ∷ bs) (take_whole bytes)

whole_before : (word : List ℕ) → position_or_len is_point word ≡ length word → before_first is_point word ≡ word
whole_before word h = ap (λ n. take n word) h ∙ take_whole word

and_true : (b : Bool) → (b && true) ≡ b
and_true true = refl
and_true false = refl

pub value_alone : (word : List ℕ) → position_or_len is_point word ≡ length word → is_value word ≡ is_whole word
unfolding is_value
value_alone word h =
    rw (no_point word (omega arith), whole_before word h) (and_true (is_whole word))

abbrev pub GivesValue : List ℕ → Option ℤ → Type 0
GivesValue word r = MatchOption r (is_value word ≡ false) (λ number. (is_value word ≡ true) × (number ≡ value_of word))

pub read_alone : (word : List ℕ) (r : Option ℤ) → position_or_len is_point word ≡ length word → GivesWhole word r
    → GivesValue word r
read_alone word None h g = value_alone word h ∙ g
read_alone word (Some number) h g =
    (value_alone word h ∙ g.0, g.1 ∙ sym (ap (signed_digits_value 10) (whole_before word h)))

pub read_before : (word : List ℕ) (point : ℕ) (r : Option ℤ) → point ≡ position_or_len is_point word
    → point < length word
    → are_zeros (drop (point + 1) word) ≡ true → GivesWhole (take point word) r → GivesValue word r
read_before word point None is inside zeros g =
    value_at_point word point is inside ∙ and_left _ (are_zeros (drop (point + 1) word)) g
read_before word point (Some number) is inside zeros g = (
  value_at_point word point is inside ∙ and_from _ _ g.0 zeros,
  g.1 ∙ ap (λ n. signed_digits_value 10 (take n word)) is,
)

pub no_zeros : (word : List ℕ) (point : ℕ) → point ≡ position_or_len is_point word → point < length word
    → are_zeros (drop (point + 1) word) ≡ false → is_value word ≡ false
no_zeros word point is inside zeros =
    value_at_point word point is inside ∙ and_right (is_whole (take point word)) _ zeros

-- ---- times

abbrev pub GivesTime : List ℕ → Option ℤ → Type 0
GivesTime word r = MatchOption r (is_time word ≡ false) (λ number. (is_time word ≡ true) × (number ≡ time_of word))

time_digits : (word : List ℕ) → length word ≤ 19 → get_or word 0 0 ≢ 45 → get_or word 0 0 ≢ 43
    → is_time word ≡ is_whole word
unfolding is_time is_whole
time_digits word few minus plus =
    rw (
      ne_eqb (get_or word 0 0) 45 minus,
      ne_eqb (get_or word 0 0) 43 plus,
      le-leb (length word) 19 few,
      le-leb (length word) 20 (omega arith),
    )
    refl

time_is : (word : List ℕ) → get_or word 0 0 ≢ 45 → get_or word 0 0 ≢ 43 → signed_digits_value 10 word ≡ time_of word
time_is word minus plus = rw (ne_eqb (get_or word 0 0) 45 minus, ne_eqb (get_or word 0 0) 43 plus) refl

pub read_as_time : (word : List ℕ) (r : Option ℤ) → length word ≤ 19 → get_or word 0 0 ≢ 45 → get_or word 0 0 ≢ 43
    → GivesWhole word r → GivesTime word r
read_as_time word None few minus plus g = time_digits word few minus plus ∙ g
read_as_time word (Some number) few minus plus g =
    (time_digits word few minus plus ∙ g.0, g.1 ∙ time_is word minus plus)

time_no_digits : (word : List ℕ) → all_ascii_digits word ≡ false → is_time word ≡ false
unfolding is_time
time_no_digits word h = and_left _ (nat_lt (digits_value 10 word) (2 ^ 63)) (and_right _ _ h)

pub time_with_plus : (word : List ℕ) → get_or word 0 0 ≡ 43 → is_time word ≡ false
time_with_plus [] h = absurd (omega arith)
time_with_plus (byte ∷ bytes) h = time_no_digits (byte ∷ bytes) (rw h refl)

pub time_with_minus : (word : List ℕ) → get_or word 0 0 ≡ 45 → is_time word ≡ false
time_with_minus [] h = absurd (omega arith)
time_with_minus (byte ∷ bytes) h = time_no_digits (byte ∷ bytes) (rw h refl)

pub time_of_many : (word : List ℕ) → 19 < length word → is_time word ≡ false
unfolding is_time
time_of_many word h =
    and_left _ (nat_lt (digits_value 10 word) (2 ^ 63))
    (and_left _ (all_ascii_digits word) (and_right (nat_le 1 (length word)) _ (lt-leb (length word) 19 h)))
