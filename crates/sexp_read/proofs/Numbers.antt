-- What is parsed as a number of 64 signed bits.
use Rattle.std.proofs.Common.{◌≡◌, ℕ, ◌<◌, ◌≤◌, ◌^◌, ◌-◌, Bool, true, false, cond, nat_eq, nat_lt, nat_le, ◌&&◌, ◌≢◌}
use Rattle.std.proofs.Common.{List, [], ◌∷◌, length, get_or, ℤ, pos, neg_ℤ, Some, None, Result, Ok, Err, refl, ap}
use Rattle.std.proofs.Common.{arith, w64, inl, inr}
use Rattle.std.proofs.lemmas.Fmt.{IsAscii-from_digits}
use Rattle.std.proofs.lemmas.Bool.{cond-false, and_left, and_right, and_parts, and_from, cases_Bool, leb-true, le-leb}
use Rattle.std.proofs.lemmas.Bool.{lt-ltb, ltb-true, eqb-true, eqb-false}
use Rattle.std.proofs.lemmas.Str.{IsUtf8-from_ascii}
use Rattle.std.proofs.lemmas.Str.Ascii.{IsAscii-cons}
use Rattle.std.proofs.lemmas.Str.Parse.{IsNumeralModel, numerals_by_value, tells_all_ascii_digits, parse_signed_minus}
use Rattle.std.proofs.lemmas.Str.Parse.{parse_signed_plain}
use Rattle.std.specs.Bool.{Decides}
use Rattle.std.specs.Result.{OkIff, result_ok}
use Rattle.std.specs.Str.{IsUtf8, all_ascii_digits}
use Rattle.std.specs.Str.Parse.{ParsesSigned, digits_value}
use Rattle.sexp_read.specs.Bytes.{number_of, magnitude, signed}

pub digits_model : IsNumeralModel (λ ds. all_ascii_digits ds ≡ true) (digits_value 10)
digits_model = numerals_by_value _ tells_all_ascii_digits

abbrev in_range : List ℕ → ℕ → Bool
in_range ds most = nat_lt 0 (length ds) && all_ascii_digits ds && nat_le (digits_value 10 ds) most

in_range_decides : (ds : List ℕ) (most : ℕ)
    → Decides (in_range ds most) ((all_ascii_digits ds ≡ true) × (0 < length ds) × (digits_value 10 ds ≤ most))
in_range_decides ds most = (
  λ h. let outer = and_parts _ _ h in let inner = and_parts _ _ outer.0 in
      (inner.1, ltb-true 0 (length ds) inner.0, leb-true (digits_value 10 ds) most outer.1),
  λ p. and_from _ _ (and_from _ _ (lt-ltb 0 (length ds) p.1) p.0) (le-leb (digits_value 10 ds) most p.2),
)

with_minus : {E : Type 0} (r : Result ℤ E) (P : Type 0) (n : ℕ) (t : Bool) → OkIff r P (neg_ℤ (pos n)) → Decides t P
    → result_ok r ≡ signed true (cond t (Some n) None)
with_minus (Ok x) P n true h d = ap Some h.1
with_minus (Ok x) P n false h d = let e : false ≡ true = d.1 h.0 in cc
with_minus (Err e) P n true h d = absurd (h (d.0 refl))
with_minus (Err e) P n false h d = refl

without_minus : {E : Type 0} (r : Result ℤ E) (P : Type 0) (n : ℕ) (t : Bool) → OkIff r P (pos n) → Decides t P
    → result_ok r ≡ signed false (cond t (Some n) None)
without_minus (Ok x) P n true h d = ap Some h.1
without_minus (Ok x) P n false h d = let e : false ≡ true = d.1 h.0 in cc
without_minus (Err e) P n true h d = absurd (h (d.0 refl))
without_minus (Err e) P n false h d = refl

plain_decides : (ds : List ℕ)
    → Decides (in_range ds (2 ^ 63 - 1))
    ((all_ascii_digits ds ≡ true) × (0 < length ds) × (digits_value 10 ds < 2 ^ 63))
plain_decides ds = let d = in_range_decides ds (2 ^ 63 - 1) in
    (λ h. let p = d.0 h in (p.0, p.1, omega arith), λ p. d.1 (p.0, p.1, omega arith))

pub parsed_number : {E : Type 0} (run : List ℕ) (r : Result ℤ E) → ParsesSigned w64 10 run r → get_or run 0 0 ≢ 43
    → result_ok r ≡ number_of run
unfolding number_of
parsed_number [] (Ok x) h plus = let p : 0 < 0 = h.0.0.0 in absurd (omega arith)
parsed_number [] (Err e) h plus = refl
parsed_number (b ∷ bytes) r h plus = elim (cases_Bool (nat_eq b 45)) [
  | inl e ↦ rw e (with_minus r _ (digits_value 10 bytes) (in_range bytes (2 ^ 63))
      (parse_signed_minus digits_model w64 (b ∷ bytes) r h (eqb-true b 45 e)) (in_range_decides bytes (2 ^ 63)))
  | inr e ↦ rw e (without_minus r _ (digits_value 10 (b ∷ bytes)) (in_range (b ∷ bytes) (2 ^ 63 - 1))
      (parse_signed_plain digits_model w64 (b ∷ bytes) r h plus (eqb-false b 45 e)) (plain_decides (b ∷ bytes)))
]

no_digits : (ds : List ℕ) (most : ℕ) → all_ascii_digits ds ≡ false → magnitude ds most ≡ None
no_digits ds most e =
    cond-false _ _ None (and_left _ (nat_le (digits_value 10 ds) most) (and_right (nat_lt 0 (length ds)) _ e))

pub number_with_plus : (run : List ℕ) → (0 < length run → get_or run 0 0 ≡ 43) → number_of run ≡ None
unfolding number_of
number_with_plus [] h = refl
number_with_plus (b ∷ bytes) h =
    let plus : b ≡ 43 = h (omega arith) in
    rw plus (ap (signed false) (no_digits (43 ∷ bytes) (2 ^ 63 - 1) refl))

pub number_is_utf8 : (run : List ℕ) → (IsUtf8 run → ⊥) → number_of run ≡ None
unfolding number_of
number_is_utf8 [] h = refl
number_is_utf8 (b ∷ bytes) h = elim (cases_Bool (nat_eq b 45)) [
  | inl minus ↦ elim (cases_Bool (all_ascii_digits bytes)) [
    | inl digits ↦
        absurd (h (IsUtf8-from_ascii (b ∷ bytes)
        (IsAscii-cons b bytes (let e : b ≡ 45 = eqb-true b 45 minus in omega arith)
        (IsAscii-from_digits bytes (digits_model.to bytes digits)))))
    | inr none ↦ rw minus (ap (signed true) (no_digits bytes (2 ^ 63) none))
  ]
  | inr plain ↦ elim (cases_Bool (all_ascii_digits (b ∷ bytes))) [
    | inl digits ↦
        absurd
        (h (IsUtf8-from_ascii (b ∷ bytes) (IsAscii-from_digits (b ∷ bytes) (digits_model.to (b ∷ bytes) digits))))
    | inr none ↦ rw plain (ap (signed false) (no_digits (b ∷ bytes) (2 ^ 63 - 1) none))
  ]
]
