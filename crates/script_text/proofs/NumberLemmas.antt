-- What is parsed as a number of 64 bits.
use Rattle.std.proofs.Common.{◌≡◌, ℕ, ◌<◌, ◌≤◌, ◌^◌, Bool, true, false, cond, nat_lt, nat_le, ◌&&◌, ◌≢◌, List, [], ◌∷◌}
use Rattle.std.proofs.Common.{length, get_or, Some, None, Result, Ok, Err, refl, ap, arith, inl, inr}
use Rattle.std.proofs.lemmas.Fmt.{IsAscii-from_digits}
use Rattle.std.proofs.lemmas.Bool.{cond-false, and_left, and_right, and_parts, and_from, cases_Bool, leb-true, le-leb}
use Rattle.std.proofs.lemmas.Bool.{lt-ltb, ltb-true}
use Rattle.std.proofs.lemmas.Str.{IsUtf8-from_ascii}
use Rattle.std.proofs.lemmas.Str.Parse.{IsNumeralModel, numerals_by_value, tells_all_ascii_digits, parse_plain}
use Rattle.std.specs.Bool.{Decides}
use Rattle.std.specs.Result.{OkIff, result_ok}
use Rattle.std.specs.Str.{IsUtf8, all_ascii_digits}
use Rattle.std.specs.Str.Parse.{ParsesUnsigned, digits_value}
use Rattle.script_text.specs.Words.{is_number, number_of}

pub digits_model : IsNumeralModel (λ ds. all_ascii_digits ds ≡ true) (digits_value 10)
digits_model = numerals_by_value _ tells_all_ascii_digits

abbrev IsNumber : List ℕ → Type 0
IsNumber word = (all_ascii_digits word ≡ true) × (0 < length word) × (digits_value 10 word < 2 ^ 64)

number_decides : (word : List ℕ) → length word ≤ 20 → Decides (is_number word) (IsNumber word)
number_decides word few = (
  λ h. let outer = and_parts _ _ h in let inner = and_parts _ _ outer.0 in let first = and_parts _ _ inner.0 in
      let some : 1 ≤ length word = leb-true 1 (length word) first.0 in
      (inner.1, omega arith, ltb-true (digits_value 10 word) (2 ^ 64) outer.1),
  λ p. and_from _ _ (and_from _ _
      (and_from _ _ (le-leb 1 (length word) (let some = p.1 in omega arith)) (le-leb (length word) 20 few)) p.0)
      (lt-ltb (digits_value 10 word) (2 ^ 64) p.2),
)

by_test : {E : Type 0} (r : Result ℕ E) (P : Type 0) (n : ℕ) (t : Bool) → OkIff r P n → Decides t P
    → result_ok r ≡ cond t (Some n) None
by_test (Ok x) P n true h d = ap Some h.1
by_test (Ok x) P n false h d = let e : false ≡ true = d.1 h.0 in cc
by_test (Err e) P n true h d = absurd (h (d.0 refl))
by_test (Err e) P n false h d = refl

pub parsed_number : {E : Type 0} (word : List ℕ) (r : Result ℕ E) → ParsesUnsigned 64 10 word r → length word ≤ 20
    → get_or word 0 0 ≢ 43 → result_ok r ≡ number_of word
unfolding number_of
parsed_number word r h few plus =
    by_test r (IsNumber word) (digits_value 10 word) (is_number word) (parse_plain digits_model 64 word r h plus)
    (number_decides word few)

no_digits : (word : List ℕ) → all_ascii_digits word ≡ false → number_of word ≡ None
unfolding number_of
no_digits word e =
    cond-false _ _ None (and_left _ (nat_lt (digits_value 10 word) (2 ^ 64))
    (and_right (nat_le 1 (length word) && nat_le (length word) 20) _ e))

pub number_is_utf8 : (word : List ℕ) → (IsUtf8 word → ⊥) → number_of word ≡ None
number_is_utf8 word h = elim (cases_Bool (all_ascii_digits word)) [
  | inl digits ↦ absurd (h (IsUtf8-from_ascii word (IsAscii-from_digits word (digits_model.to word digits))))
  | inr none ↦ no_digits word none
]

pub number_with_plus : (word : List ℕ) → 0 < length word → get_or word 0 0 ≡ 43 → number_of word ≡ None
number_with_plus [] some h = absurd (omega arith)
number_with_plus (byte ∷ bytes) some h = rw h (no_digits (43 ∷ bytes) refl)

pub number_of_none : (word : List ℕ) → length word ≡ 0 → number_of word ≡ None
unfolding number_of
number_of_none [] h = refl
number_of_none (byte ∷ bytes) h = absurd (omega arith)

pub number_of_many : (word : List ℕ) → 20 < length word → number_of word ≡ None
unfolding number_of
number_of_many word h = elim (cases_Bool (nat_le (length word) 20)) [
  | inl few ↦ absurd (let small : length word ≤ 20 = leb-true (length word) 20 few in omega arith)
  | inr many ↦
      cond-false _ _ None (and_left _ (nat_lt (digits_value 10 word) (2 ^ 64))
      (and_left _ (all_ascii_digits word) (and_right (nat_le 1 (length word)) _ many)))
]
