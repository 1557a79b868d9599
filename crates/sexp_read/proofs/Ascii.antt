-- The bytes of names and symbols are ASCII, so they are UTF-8.
use Rattle.std.proofs.Common.{◌≡◌, ℕ, ◌<◌, Bool, true, nat_lt, List, [], ◌∷◌, length, take, refl, subst, sym, arith}
use Rattle.std.proofs.Common.{◌||◌, codes, nat_eq, drop, ◌-◌, inl, inr}
use Rattle.std.proofs.Math.Seq.{take-length}
use Rattle.std.proofs.lemmas.Bool.{and_parts, or_cases, ltb-true}
use Rattle.std.proofs.lemmas.List.{take_all}
use Rattle.std.proofs.lemmas.Bool.Decides.{nat_tests}
use Rattle.std.proofs.lemmas.Slice.Eq.{bytes_eq-Decides}
use Rattle.std.proofs.lemmas.Str.{IsUtf8-from_ascii}
use Rattle.std.proofs.lemmas.Str.Ascii.{IsAscii-nil, IsAscii-cons}
use Rattle.std.specs.List.{list_all}
use Rattle.std.specs.Str.{IsUtf8, IsAscii, IsValidUpTo, bytes_eq}
use Rattle.sexp_read.specs.Bytes.{is_letter, is_name_byte, is_symbol_byte, is_name, is_word, is_comparison, is_symbol}
use Rattle.sexp_read.specs.Bytes.{is_keyword}

pub not_utf8 : (bytes : List ℕ) (place : ℕ) → IsValidUpTo bytes place → IsUtf8 bytes → ⊥
not_utf8 bytes place h u =
    h.longest (length bytes) h.short (subst (λ (text : List ℕ). IsUtf8 text) (sym (take-length bytes)) u)

name_byte_small : (b : ℕ) → is_name_byte b ≡ true → b < 128
name_byte_small b h = grind (arith, nat_tests)

symbol_byte_small : (b : ℕ) → is_symbol_byte b ≡ true → b < 128
symbol_byte_small b h = grind (arith, nat_tests)

name_head_small : (b : ℕ) → (is_letter b || nat_eq b 95) ≡ true → b < 128
name_head_small b h = grind (arith, nat_tests)

all_small : (p : ℕ → Bool) → ((b : ℕ) → p b ≡ true → b < 128) → (bytes : List ℕ) → list_all p bytes ≡ true
    → IsAscii bytes
all_small p small [] h = IsAscii-nil
all_small p small (b ∷ bytes) h =
    let parts = and_parts (p b) (list_all p bytes) h in
    IsAscii-cons b bytes (small b parts.0) (all_small p small bytes parts.1)

name_is_ascii : (bytes : List ℕ) → is_name bytes ≡ true → IsAscii bytes
name_is_ascii [] h = IsAscii-nil
name_is_ascii (b ∷ bytes) h =
    let parts = and_parts _ (list_all is_name_byte bytes) h in
    IsAscii-cons b bytes (name_head_small b parts.0) (all_small is_name_byte name_byte_small bytes parts.1)

pub keyword_is_utf8 : (run : List ℕ) → is_keyword run ≡ true → IsUtf8 (drop 1 run)
keyword_is_utf8 [] h = IsUtf8-from_ascii [] IsAscii-nil
keyword_is_utf8 (b ∷ bytes) h = IsUtf8-from_ascii bytes (name_is_ascii bytes (and_parts _ (is_name bytes) h).1)

pub keyword_name_is_utf8 : (run : List ℕ) → is_keyword run ≡ true → IsUtf8 (take (length run - 1) (drop 1 run))
keyword_name_is_utf8 [] h = IsUtf8-from_ascii [] IsAscii-nil
keyword_name_is_utf8 (b ∷ bytes) h =
    let all : take (length (b ∷ bytes) - 1) bytes ≡ bytes = take_all _ bytes (omega arith) in
    subst (λ (text : List ℕ). IsUtf8 text) (sym all) (keyword_is_utf8 (b ∷ bytes) h)

word_is_ascii : (bytes : List ℕ) → is_word bytes ≡ true → IsAscii bytes
word_is_ascii [] h = IsAscii-nil
word_is_ascii (b ∷ bytes) h =
    let parts = and_parts _ (list_all is_symbol_byte bytes) h in
    IsAscii-cons b bytes (name_head_small b parts.0) (all_small is_symbol_byte symbol_byte_small bytes parts.1)

abbrev small : ℕ → Bool
small b = nat_lt b 128

same_is_ascii : (run word : List ℕ) → IsAscii word → bytes_eq run word ≡ true → IsAscii run
same_is_ascii run word known h = subst (λ (text : List ℕ). IsAscii text) (sym ((bytes_eq-Decides run word).0 h)) known

comparison_is_ascii : (run : List ℕ) → is_comparison run ≡ true → IsAscii run
comparison_is_ascii run h =
    let word_small : (word : List ℕ) → list_all small word ≡ true → IsAscii word =
    λ word e. all_small small (λ b low. ltb-true b 128 low) word e in
    elim (or_cases _ (bytes_eq run (codes ">=")) h) [
      | inr e ↦ same_is_ascii run (codes ">=") (word_small (codes ">=") refl) e
      | inl h ↦ elim (or_cases _ (bytes_eq run (codes ">")) h) [
        | inr e ↦ same_is_ascii run (codes ">") (word_small (codes ">") refl) e
        | inl h ↦ elim (or_cases _ (bytes_eq run (codes "<=")) h) [
          | inr e ↦ same_is_ascii run (codes "<=") (word_small (codes "<=") refl) e
          | inl h ↦ elim (or_cases _ (bytes_eq run (codes "<")) h) [
            | inr e ↦ same_is_ascii run (codes "<") (word_small (codes "<") refl) e
            | inl h ↦ elim (or_cases (bytes_eq run (codes "=")) (bytes_eq run (codes "not=")) h) [
              | inl e ↦ same_is_ascii run (codes "=") (word_small (codes "=") refl) e
              | inr e ↦ same_is_ascii run (codes "not=") (word_small (codes "not=") refl) e
            ]
          ]
        ]
      ]
    ]

pub symbol_is_utf8 : (run : List ℕ) → is_symbol run ≡ true → IsUtf8 run
symbol_is_utf8 run h =
    IsUtf8-from_ascii run
    (elim (or_cases (is_word run) (is_comparison run) h)
    [ inl e ↦ word_is_ascii run e | inr e ↦ comparison_is_ascii run e ])
