-- Reading tokens from the front of bytes.
use Rattle.std.proofs.Common.{◌≡◌, ℕ, zero, suc, ◌+◌, ◌-◌, ◌<◌, ◌≤◌, ◌^◌, Bool, true, false, cond, eqb, leb, ltb, List}
use Rattle.std.proofs.Common.{[], ◌∷◌, ◌++◌, length, get_or, take, drop, ◌&&◌, inl, inr, Option, Some, None, Result, Ok}
use Rattle.std.proofs.Common.{Err, ℤ, refl, ap, sym, ◌∙◌, subst, arith, append_assoc, length-drop}
use Rattle.std.proofs.Math.Seq.{take-length}
use Rattle.std.proofs.lemmas.Bool.{false_from_ne_true, ne_eqb}
use Rattle.std.proofs.lemmas.Bool.Decides.{nat_tests, eqb_tells}
use Rattle.std.proofs.Math.Numerals.{one-add}
use Rattle.std.proofs.lemmas.Str.{IsUtf8-from_is_utf8, is_utf8-from_IsUtf8, IsUtf8-from_ascii}
use Rattle.std.specs.Char.{is_ascii_digit}
use Rattle.std.specs.List.{prefix_len}
use Rattle.std.specs.Option.{option_map, option_and_then}
use Rattle.std.specs.Result.{OkIff, result_ok}
use Rattle.std.specs.Int.{w64, IsInRange}
use Rattle.std.proofs.lemmas.Fmt.{IsAscii-from_digits}
use Rattle.std.specs.Str.Parse.{AllDigits, digits_value, ParsesSigned}
use Rattle.std.proofs.lemmas.Str.Parse.{IsNumeralModel, numerals_by_value, tells_digits, parse_signed_minus}
use Rattle.std.proofs.lemmas.Str.Parse.{parse_signed_plain}
use Rattle.std.specs.Str.{IsUtf8, IsValidUpTo, is_utf8}
use Rattle.ev_types.specs.declared.text.TextFault.TheVariants.{Utf8}
use Rattle.ev_types.specs.Text.{IsNoText}
use Rattle.query_lang.specs.declared.token.Token.{Token}
use Rattle.query_lang.specs.declared.token.Token.TheVariants.{Number, Quoted}
use Rattle.string_literals.specs.Literals.{escaped}
use Rattle.query_lang.specs.Tokens.{is_blank, is_name_byte, is_name_start, is_number_start, IsLiteral, past_blanks}
use Rattle.query_lang.specs.Tokens.{goes_on, number_of, quoted, unescape, with_prefix, name_at, number_at, string_at}
use Rattle.query_lang.specs.Tokens.{symbol_at, or_short, long_symbol, short_symbol, token_at}

-- UTF-8

pub read_utf8 : (bytes : List ℕ) → IsUtf8 bytes → is_utf8 bytes ≡ true
read_utf8 bytes h = is_utf8-from_IsUtf8 bytes h

pub no_utf8 : (bytes : List ℕ) (place : ℕ) → IsValidUpTo bytes place → is_utf8 bytes ≡ false
no_utf8 bytes place h =
    false_from_ne_true (is_utf8 bytes)
    (λ e. h.longest (length bytes) h.short
    (subst (λ (text : List ℕ). IsUtf8 text) (sym (take-length bytes)) (IsUtf8-from_is_utf8 bytes e)))

pub no_text : (bytes : List ℕ) (place : ℕ) → IsNoText bytes (Utf8 place) → cond (is_utf8 bytes) (Some bytes) None ≡ None
no_text bytes place h = rw (no_utf8 bytes place h) refl

-- every byte passes the test
abbrev pub AllPassing : (ℕ → Bool) → List ℕ → Type 0
AllPassing p [] = Unit {0}
AllPassing p (b ∷ bytes) = (p b ≡ true) × AllPassing p bytes

pub ascii_passing : (p : ℕ → Bool) → ((b : ℕ) → p b ≡ true → b < 128) → (bytes : List ℕ) → AllPassing p bytes → (i : ℕ)
    → get_or bytes i 0 < 128
ascii_passing p low [] h i = omega arith
ascii_passing p low (b ∷ bytes) h zero = low b h.0
ascii_passing p low (b ∷ bytes) h (suc i) = ascii_passing p low bytes h.1 i

run_passes_first : (p : ℕ → Bool) (b : ℕ) (bytes : List ℕ) (passes : Bool) → p b ≡ passes
    → AllPassing p (take (prefix_len p bytes) bytes)
    → AllPassing p (take (cond passes (1 + prefix_len p bytes) 0) (b ∷ bytes))
run_passes_first p b bytes true is rest = rw one-add (is, rest)
run_passes_first p b bytes false is rest = tt

pub run_passes : (p : ℕ → Bool) (bytes : List ℕ) → AllPassing p (take (prefix_len p bytes) bytes)
run_passes p [] = tt
run_passes p (b ∷ bytes) = run_passes_first p b bytes (p b) refl (run_passes p bytes)

name_byte_small : (b : ℕ) → is_name_byte b ≡ true → b < 128
name_byte_small b h = grind (arith, nat_tests)

pub names_are_utf8 : (bytes : List ℕ) → is_utf8 (take (prefix_len is_name_byte bytes) bytes) ≡ true
names_are_utf8 bytes =
    is_utf8-from_IsUtf8 _
    (IsUtf8-from_ascii _ (ascii_passing is_name_byte name_byte_small _ (run_passes is_name_byte bytes)))

-- strings

-- with the bytes of the string that were read before
abbrev pub following : List ℕ → Option (List ℕ × List ℕ) → Option (List ℕ × List ℕ)
following front = option_map (λ found. (front ++ found.0, found.1))

pub following_more : (front : List ℕ) (b : ℕ) (found : Option (List ℕ × List ℕ))
    → following (front ++ b ∷ []) found ≡ following front (with_prefix b found)
following_more front b None = refl
following_more front b (Some found) = ap (λ (text : List ℕ). Some (text, found.1)) (append_assoc front (b ∷ []) found.0)

pub following_none : (found : Option (List ℕ × List ℕ)) → following [] found ≡ found
following_none None = refl
following_none (Some found) = refl

-- where a byte is not a quote, it is read with the one after it as `unescape` says

abbrev Found : Type 0
Found = ℕ × List ℕ

some_same : {x y : Found} → Some x ≡ Some y → x ≡ y
some_same e = cc

abbrev on_found : Found → Option (List ℕ × List ℕ)
on_found found = with_prefix found.0 (quoted found.1)

abbrev letter : List ℕ → Option ℕ → Option Found
letter bytes = option_map (λ meant. (meant, bytes))

no_letter : (bytes : List ℕ) (meant : Option ℕ) → letter bytes meant ≡ None
    → option_and_then (λ m. with_prefix m (quoted bytes)) meant ≡ None
no_letter bytes None e = refl
no_letter bytes (Some m) e = cc

no_slash : (v : Bool) (b c : ℕ) (bytes : List ℕ)
    → ◌≡◌ {A = Option Found} (cond v (letter bytes (escaped c)) (Some (b, c ∷ bytes))) None
    → cond v (option_and_then (λ m. with_prefix m (quoted bytes)) (escaped c)) (with_prefix b (quoted (c ∷ bytes)))
    ≡ None
no_slash true b c bytes e = no_letter bytes (escaped c) e
no_slash false b c bytes e = cc

pub quoted_stops : (b : ℕ) (after : List ℕ) → eqb b 34 ≡ false → unescape b after ≡ None → quoted (b ∷ after) ≡ None
quoted_stops b [] other none = rw other refl
quoted_stops b (c ∷ bytes) other none = rw other (no_slash (eqb b 92) b c bytes none)

some_letter : (bytes : List ℕ) (meant : Option ℕ) (m : ℕ) (rest : List ℕ) → letter bytes meant ≡ Some (m, rest)
    → option_and_then (λ m. with_prefix m (quoted bytes)) meant ≡ with_prefix m (quoted rest)
some_letter bytes None m rest e = cc
some_letter bytes (Some found) m rest e = ap on_found (some_same e)

some_slash : (v : Bool) (b c : ℕ) (bytes : List ℕ) (m : ℕ) (rest : List ℕ)
    → ◌≡◌ {A = Option Found} (cond v (letter bytes (escaped c)) (Some (b, c ∷ bytes))) (Some (m, rest))
    → cond v (option_and_then (λ m. with_prefix m (quoted bytes)) (escaped c)) (with_prefix b (quoted (c ∷ bytes)))
    ≡ with_prefix m (quoted rest)
some_slash true b c bytes m rest e = some_letter bytes (escaped c) m rest e
some_slash false b c bytes m rest e = ap on_found (some_same e)

last_byte : (v : Bool) (b m : ℕ) (rest : List ℕ) → ◌≡◌ {A = Option Found} (cond v None (Some (b, []))) (Some (m, rest))
    → None ≡ with_prefix m (quoted rest)
last_byte true b m rest e = cc
last_byte false b m rest e = ap on_found (some_same e)

pub quoted_more : (b : ℕ) (after : List ℕ) (m : ℕ) (rest : List ℕ) → eqb b 34 ≡ false
    → unescape b after ≡ Some (m, rest) → quoted (b ∷ after) ≡ with_prefix m (quoted rest)
quoted_more b [] m rest other some = rw other (last_byte (eqb b 92) b m rest some)
quoted_more b (c ∷ bytes) m rest other some = rw other (some_slash (eqb b 92) b c bytes m rest some)

pub quoted_step : (front all after rest : List ℕ) (b m : ℕ) (found : Option (List ℕ × List ℕ))
    → following front (quoted all) ≡ found → all ≡ b ∷ after → (b ≡ 34 → ⊥)
    → Some (m, rest) ≡ unescape b after → following (front ++ m ∷ []) (quoted rest) ≡ found
quoted_step front all after rest b m found before is other read =
    let opened : quoted all ≡ with_prefix m (quoted rest) =
    subst (λ (bytes : List ℕ). quoted bytes ≡ with_prefix m (quoted rest)) (sym is)
    (quoted_more b after m rest (ne_eqb b 34 other) (sym read)) in
    following_more front m (quoted rest) ∙ sym (ap (following front) opened) ∙ before

-- numbers

own : IsNumeralModel (AllDigits 10) (digits_value 10)
own = numerals_by_value (AllDigits 10) tells_digits

ok_as_test : {E : Type 0} (r : Result ℤ E) (P : Type 0) (v : ℤ) (test : Bool) → OkIff r P v → (P → test ≡ true)
    → (test ≡ true → P) → result_ok r ≡ cond test (Some v) None
ok_as_test (Ok x) P v test h to from = rw (to h.0) (ap (λ (z : ℤ). Some z) h.1)
ok_as_test (Err e) P v test h to from = rw (false_from_ne_true test (λ is. h (from is))) refl

plain_digit : (b : ℕ) → is_number_start b ≡ true → eqb b 45 ≡ false → is_ascii_digit b ≡ true
plain_digit b is plain = rw plain at is

start_small : (b : ℕ) → is_number_start b ≡ true → b < 128
start_small b is = grind (arith, nat_tests)

digit_range : (b : ℕ) → is_ascii_digit b ≡ true → IsInRange 48 57 b
digit_range b is = grind (arith, nat_tests)

digit_apart : (b c : ℕ) → is_ascii_digit b ≡ true → c < 48 → b ≡ c → ⊥
digit_apart b c is below same = let range : IsInRange 48 57 b = digit_range b is in omega arith

digits_more : (b : ℕ) (digits : List ℕ) → is_ascii_digit b ≡ true → AllDigits 10 digits → AllDigits 10 (b ∷ digits)
digits_more b digits is rest = tells_digits.more b digits (digit_range b is) rest

pub number_read : {E : Type 0} (bytes : List ℕ) (r : Result ℤ E) → IsLiteral bytes → ParsesSigned w64 10 bytes r
    → result_ok r ≡ number_of bytes
unfolding number_of
number_read [] r is h = absurd is
number_read (b ∷ digits) r is h = elim (eqb_tells b 45) [
  | inl minus ↦ rw minus.0 (ok_as_test r _ _ (ltb 0 (length digits) && leb (digits_value 10 digits) (2 ^ 63))
      (parse_signed_minus own w64 (b ∷ digits) r h minus.1) (λ p. grind (arith, nat_tests))
      (λ e. (is.1, grind (arith, nat_tests), grind (arith, nat_tests))))
  | inr plain ↦
      let digit : is_ascii_digit b ≡ true = plain_digit b is.0 plain.0 in
      let all : AllDigits 10 (b ∷ digits) = digits_more b digits digit is.1 in
      rw plain.0 (ok_as_test r _ _ (ltb (digits_value 10 (b ∷ digits)) (2 ^ 63))
      (parse_signed_plain own w64 (b ∷ digits) r h (λ e. digit_apart b 43 digit (omega arith) e) plain.1)
      (λ p. grind (arith, nat_tests)) (λ e. (all, omega arith, grind (arith, nat_tests))))
]

pub literal_small : (bytes : List ℕ) → IsLiteral bytes → (i : ℕ) → get_or bytes i 0 < 128
literal_small [] is i = absurd is
literal_small (b ∷ digits) is zero = start_small b is.0
literal_small (b ∷ digits) is (suc i) = IsAscii-from_digits digits is.1 i

pub literal_utf8 : (bytes : List ℕ) → IsLiteral bytes → IsUtf8 bytes
literal_utf8 bytes is = IsUtf8-from_ascii bytes (literal_small bytes is)

digits_of_run : (digits : List ℕ) → AllPassing is_ascii_digit digits → AllDigits 10 digits
digits_of_run [] h = tt
digits_of_run (b ∷ digits) h = digits_more b digits h.0 (digits_of_run digits h.1)

-- the first byte and the run of digits after it are a literal
pub literal_at : (bytes : List ℕ) → IsLiteral (take 1 bytes)
    → IsLiteral (take (1 + prefix_len is_ascii_digit (drop 1 bytes)) bytes)
literal_at [] is = absurd is
literal_at (b ∷ bytes) is = rw one-add (is.0, digits_of_run _ (run_passes is_ascii_digit bytes))

rest_whole : (bytes : List ℕ) → take (length bytes - 1) (drop 1 bytes) ≡ drop 1 bytes
rest_whole [] = refl
rest_whole (b ∷ bytes) =
    let count : length (b ∷ bytes) - 1 ≡ length bytes = omega arith in
    ap (λ (n : ℕ). take n bytes) count ∙ take-length bytes

pub literal_taken : (bytes literal : List ℕ) (size : ℕ) → IsLiteral (take 1 bytes)
    → size ≡ prefix_len is_ascii_digit (take (length bytes - 1) (drop 1 bytes))
    → literal ≡ take (1 + size) bytes → IsLiteral literal
literal_taken bytes literal size is run front =
    let same = run ∙ ap (prefix_len is_ascii_digit) (rest_whole bytes) in
    subst (λ (text : List ℕ). IsLiteral text) (sym (front ∙ ap (λ (n : ℕ). take (1 + n) bytes) same))
    (literal_at bytes is)

-- What is after a token is shorter than what began with it.

abbrev Shorter : {X : Type 0} → ℕ → Option (X × List ℕ) → Type 0
Shorter size None = Unit {0}
Shorter size (Some found) = length found.1 < size

shorter_if : {X : Type 0} (size : ℕ) (test : Bool) (x y : Option (X × List ℕ)) → (test ≡ true → Shorter size x)
    → Shorter size y → Shorter size (cond test x y)
shorter_if size true x y first second = first refl
shorter_if size false x y first second = second

shorter_than : {X : Type 0} (small size : ℕ) (found : Option (X × List ℕ)) → small ≤ size → Shorter small found
    → Shorter size found
shorter_than small size None le h = tt
shorter_than small size (Some found) le h = omega arith

shorter_front : (size b : ℕ) (found : Option (List ℕ × List ℕ)) → Shorter size found
    → Shorter size (with_prefix b found)
shorter_front size b None h = tt
shorter_front size b (Some found) h = h

shorter_escape : (size : ℕ) (meant : Option ℕ) (found : Option (List ℕ × List ℕ)) → Shorter size found
    → Shorter size (option_and_then (λ m. with_prefix m found) meant)
shorter_escape size None found h = tt
shorter_escape size (Some m) found h = shorter_front size m found h

quoted_shorter : (bytes : List ℕ) → Shorter (length bytes) (quoted bytes)
quoted_shorter [] = tt
quoted_shorter (b ∷ []) = shorter_if 1 (eqb b 34) (Some ([], [])) None (λ _. omega arith) tt
quoted_shorter (b ∷ c ∷ bytes) =
    let size = length (b ∷ c ∷ bytes) in
    let following_escape = shorter_than (length bytes) size (quoted bytes) (omega arith) (quoted_shorter bytes) in
    let following_byte =
    shorter_than (length (c ∷ bytes)) size (quoted (c ∷ bytes)) (omega arith) (quoted_shorter (c ∷ bytes)) in
    shorter_if size (eqb b 34) (Some ([], c ∷ bytes)) _ (λ _. omega arith)
    (shorter_if size (eqb b 92) _ _ (λ _. shorter_escape size (escaped c) (quoted bytes) following_escape)
    (shorter_front size b (quoted (c ∷ bytes)) following_byte))

shorter_text : (size : ℕ) (found : Option (List ℕ × List ℕ)) → Shorter size found
    → Shorter size (option_and_then (λ found. cond (is_utf8 found.0) (Some (Quoted found.0, found.1)) None) found)
shorter_text size None h = tt
shorter_text size (Some found) h = shorter_if size (is_utf8 found.0) _ _ (λ _. h) tt

shorter_number : (size : ℕ) (rest : List ℕ) (number : Option ℤ) → length rest < size
    → Shorter size (option_map (λ number. (Number number, rest)) number)
shorter_number size rest None h = tt
shorter_number size rest (Some number) h = h

shorter_token : (size : ℕ) (rest : List ℕ) (token : Option Token) → length rest < size
    → Shorter size (option_map (λ token. (token, rest)) token)
shorter_token size rest None h = tt
shorter_token size rest (Some token) h = h

shorter_symbol : (b c : ℕ) (bytes : List ℕ) (token : Option Token)
    → Shorter (length (b ∷ c ∷ bytes)) (or_short b (c ∷ bytes) (option_map (λ token. (token, bytes)) token))
shorter_symbol b c bytes None = shorter_token (length (b ∷ c ∷ bytes)) (c ∷ bytes) (short_symbol b) (omega arith)
shorter_symbol b c bytes (Some token) = omega arith

symbol_shorter : (bytes : List ℕ) → Shorter (length bytes) (symbol_at bytes)
symbol_shorter [] = tt
symbol_shorter (b ∷ []) = shorter_token 1 [] (short_symbol b) (omega arith)
symbol_shorter (b ∷ c ∷ bytes) = shorter_symbol b c bytes (long_symbol b c)

pub start_is_name_byte : (b : ℕ) → is_name_start b ≡ true → is_name_byte b ≡ true
start_is_name_byte b h = grind (arith, nat_tests)

drop_shorter : (b : ℕ) (bytes : List ℕ) (n : ℕ) → length (drop (1 + n) (b ∷ bytes)) < length (b ∷ bytes)
drop_shorter b bytes n = let size = length-drop (1 + n) (b ∷ bytes) in omega arith

name_shorter : (b : ℕ) (bytes : List ℕ) → is_name_start b ≡ true → length (name_at (b ∷ bytes)).1 < length (b ∷ bytes)
unfolding name_at
name_shorter b bytes is = rw (start_is_name_byte b is) (drop_shorter b bytes (prefix_len is_name_byte bytes))

pub token_shorter : (bytes : List ℕ) → Shorter (length bytes) (token_at bytes)
unfolding token_at number_at string_at
token_shorter [] = tt
token_shorter (b ∷ bytes) =
    let size = length (b ∷ bytes) in
    let digits = drop (1 + prefix_len is_ascii_digit bytes) (b ∷ bytes) in
    shorter_if size (is_name_start b) _ _ (λ is. name_shorter b bytes is)
    (shorter_if size (is_number_start b) _ _
    (λ _. shorter_if size (goes_on digits) None _ (λ _. tt)
    (shorter_number size digits _ (drop_shorter b bytes (prefix_len is_ascii_digit bytes))))
    (shorter_if size (eqb b 34) _ _
    (λ _. shorter_text size (quoted bytes)
    (shorter_than (length bytes) size (quoted bytes) (omega arith) (quoted_shorter bytes)))
    (symbol_shorter (b ∷ bytes))))

pub after_shorter : (bytes : List ℕ) (token : Token) (after : List ℕ) → token_at bytes ≡ Some (token, after)
    → length after < length bytes
after_shorter bytes token after read =
    subst (λ (found : Option (Token × List ℕ)). Shorter (length bytes) found) read (token_shorter bytes)

blanks_shorter_if : (test : Bool) (b : ℕ) (bytes rest : List ℕ) → length rest ≤ length bytes
    → length (cond test rest (b ∷ bytes)) ≤ length (b ∷ bytes)
blanks_shorter_if true b bytes rest le = omega arith
blanks_shorter_if false b bytes rest le = omega arith

pub blanks_shorter : (bytes : List ℕ) → length (past_blanks bytes) ≤ length bytes
blanks_shorter [] = omega arith
blanks_shorter (b ∷ bytes) = blanks_shorter_if (is_blank b) b bytes (past_blanks bytes) (blanks_shorter bytes)
