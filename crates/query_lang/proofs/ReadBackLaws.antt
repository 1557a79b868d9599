-- What is written is read again.
use Rattle.std.proofs.Common.{◌≡◌, ℕ, suc, ◌+◌, ◌<◌, ◌≤◌, ◌^◌, Bool, true, false, cond, eqb, ltb, leb, List, [], ◌∷◌}
use Rattle.std.proofs.Common.{◌++◌, length, take, drop, Option, Some, None, ℤ, pos, negsuc, refl, ap, sym, ◌∙◌, subst}
use Rattle.std.proofs.Common.{arith, append_assoc, one-add, ⊎_elim}
use Rattle.std.specs.Char.{is_ascii_digit, digit_value}
use Rattle.std.proofs.lemmas.Str.Parse.{digit_from_value, numerals_by_value, tells_digits, IsNumeralModel}
use Rattle.std.proofs.lemmas.Fmt.{digits_decimal, digits_value-decimal, decimal_nonempty}
use Rattle.std.specs.Fmt.{decimal, signed_decimal}
use Rattle.std.specs.List.{prefix_len, flat_map}
use Rattle.std.specs.Option.{option_map, option_and_then}
use Rattle.std.specs.Str.{is_utf8}
use Rattle.std.specs.Str.Parse.{AllDigits, digits_value}
use Rattle.std.proofs.lemmas.Bool.Decides.{nat_tests, eqb_tells}
use Rattle.query_lang.specs.declared.token.Token.{Token}
use Rattle.query_lang.specs.declared.token.Token.TheVariants as token
use Rattle.query_lang.specs.Tokens.{is_blank, is_name_byte, is_name_start, is_number_start, past_blanks, word_of}
use Rattle.query_lang.specs.Tokens.{name_at, number_at, number_of, goes_on, unescape, with_prefix, quoted, string_at}
use Rattle.query_lang.specs.Tokens.{token_at}
use Rattle.query_lang.specs.Queries.{Begins}
use Rattle.string_literals.specs.Literals.{escape, string_literal}
use Rattle.query_lang.proofs.ScanLaws.{AllPassing, quoted_more}

pub begins_blank : (bytes : List ℕ) (tokens : List Token) (last : List ℕ) → Begins bytes tokens last
    → Begins (32 ∷ bytes) tokens last
begins_blank bytes [] last begins = begins
begins_blank bytes (t ∷ tokens) last begins = begins

-- a token ends here
abbrev pub Separated : List ℕ → Type 0
Separated [] = Unit {0}
Separated (b ∷ bytes) = b ≡ 32

-- runs of bytes

run_whole : (p : ℕ → Bool) (run rest : List ℕ) → AllPassing p run → prefix_len p rest ≡ 0
    → prefix_len p (run ++ rest) ≡ length run
run_whole p [] rest all stops = stops
run_whole p (b ∷ run) rest all stops = rw all.0 (rw one-add (ap suc (run_whole p run rest all.1 stops)))

take_run : (run rest : List ℕ) → take (length run) (run ++ rest) ≡ run
take_run [] rest = refl
take_run (b ∷ run) rest = ap (λ (bytes : List ℕ). b ∷ bytes) (take_run run rest)

drop_run : (run rest : List ℕ) → drop (length run) (run ++ rest) ≡ rest
drop_run [] rest = refl
drop_run (b ∷ run) rest = drop_run run rest

no_name_byte : (rest : List ℕ) → Separated rest → prefix_len is_name_byte rest ≡ 0
no_name_byte [] ends = refl
no_name_byte (b ∷ rest) ends = subst (λ (b : ℕ). prefix_len is_name_byte (b ∷ rest) ≡ 0) (sym ends) refl

no_digit : (rest : List ℕ) → Separated rest → prefix_len is_ascii_digit rest ≡ 0
no_digit [] ends = refl
no_digit (b ∷ rest) ends = subst (λ (b : ℕ). prefix_len is_ascii_digit (b ∷ rest) ≡ 0) (sym ends) refl

not_on : (rest : List ℕ) → Separated rest → goes_on rest ≡ false
not_on [] ends = refl
not_on (b ∷ rest) ends = subst (λ (b : ℕ). goes_on (b ∷ rest) ≡ false) (sym ends) refl

-- no token begins with a blank
not_blank : (b : ℕ) (bytes : List ℕ) → is_blank b ≡ false → past_blanks (b ∷ bytes) ≡ b ∷ bytes
not_blank b bytes is = rw is refl

-- a name
pub record IsName (name : List ℕ) : Type 0 where
  pub first : ℕ
  pub more : List ℕ
  pub name_is : name ≡ first ∷ more
  pub starts : is_name_start first ≡ true
  pub passes : AllPassing is_name_byte name
  pub plain : word_of name ≡ None

start_not_blank : (b : ℕ) → is_name_start b ≡ true → is_blank b ≡ false
start_not_blank b is = grind (arith, nat_tests)

name_read : (name rest : List ℕ) → IsName name → Separated rest → name_at (name ++ rest) ≡ (token.Name name, rest)
unfolding name_at
name_read name rest is ends =
    let size = run_whole is_name_byte name rest is.passes (no_name_byte rest ends) in
    let front : take (prefix_len is_name_byte (name ++ rest)) (name ++ rest) ≡ name =
    ap (λ (n : ℕ). take n (name ++ rest)) size ∙ take_run name rest in
    let back : drop (prefix_len is_name_byte (name ++ rest)) (name ++ rest) ≡ rest =
    ap (λ (n : ℕ). drop n (name ++ rest)) size ∙ drop_run name rest in
    rw (front, back, is.plain) refl

name_token : (b : ℕ) (bytes : List ℕ) → is_name_start b ≡ true → token_at (b ∷ bytes) ≡ Some (name_at (b ∷ bytes))
unfolding token_at
name_token b bytes is = rw is refl

name_first : (b : ℕ) (more rest : List ℕ) → is_name_start b ≡ true
    → token_at (past_blanks ((b ∷ more) ++ rest)) ≡ Some (name_at ((b ∷ more) ++ rest))
name_first b more rest is =
    ap token_at (not_blank b (more ++ rest) (start_not_blank b is)) ∙ name_token b (more ++ rest) is

pub begins_name : (name rest : List ℕ) → IsName name → Separated rest
    → token_at (past_blanks (name ++ rest)) ≡ Some (token.Name name, rest)
begins_name name rest is ends =
    let first : token_at (past_blanks (name ++ rest)) ≡ Some (name_at (name ++ rest)) =
    subst (λ (text : List ℕ). token_at (past_blanks (text ++ rest)) ≡ Some (name_at (text ++ rest))) (sym is.name_is)
    (name_first is.first is.more rest is.starts) in
    first ∙ ap (λ (found : Token × List ℕ). Some found) (name_read name rest is ends)

-- a string

escape_plain : (b : ℕ) → eqb b 34 ≡ false → eqb b 92 ≡ false → eqb b 10 ≡ false → eqb b 13 ≡ false → eqb b 9 ≡ false
    → escape b ≡ b ∷ []
escape_plain b quote slash line return tab = rw (quote, slash, line, return, tab) refl

unescape_plain : (b : ℕ) (rest : List ℕ) → eqb b 92 ≡ false → unescape b rest ≡ Some (b, rest)
unescape_plain b [] slash = rw slash refl
unescape_plain b (c ∷ rest) slash = rw slash refl

abbrev Escapes : List ℕ → ℕ → Type 0
Escapes rest b = quoted (escape b ++ rest) ≡ with_prefix b (quoted rest)

same_escape : (rest : List ℕ) (b c : ℕ) → Escapes rest c → b ≡ c → Escapes rest b
same_escape rest b c is same = subst (λ (b : ℕ). Escapes rest b) (sym same) is

plain_escape : (rest : List ℕ) (b : ℕ) → eqb b 34 ≡ false → eqb b 92 ≡ false → eqb b 10 ≡ false → eqb b 13 ≡ false
    → eqb b 9 ≡ false → Escapes rest b
plain_escape rest b quote slash line return tab =
    subst (λ (text : List ℕ). quoted (text ++ rest) ≡ with_prefix b (quoted rest))
    (sym (escape_plain b quote slash line return tab))
    (quoted_more b rest b rest quote (unescape_plain b rest slash))

quoted_escape : (rest : List ℕ) (b : ℕ) → Escapes rest b
quoted_escape rest b =
    ⊎_elim (λ same. same_escape rest b 34 refl same.1) (λ quote.
    ⊎_elim (λ same. same_escape rest b 92 refl same.1) (λ slash.
    ⊎_elim (λ same. same_escape rest b 10 refl same.1) (λ line.
    ⊎_elim (λ same. same_escape rest b 13 refl same.1) (λ return.
    ⊎_elim (λ same. same_escape rest b 9 refl same.1) (λ tab. plain_escape rest b quote.0 slash.0 line.0 return.0 tab.0)
    (eqb_tells b 9)) (eqb_tells b 13)) (eqb_tells b 10)) (eqb_tells b 92)) (eqb_tells b 34)

quoted_end : (rest : List ℕ) → quoted (34 ∷ rest) ≡ Some ([], rest)
quoted_end [] = refl
quoted_end (c ∷ rest) = refl

quoted_content : (text rest : List ℕ) → quoted (flat_map escape text ++ 34 ∷ rest) ≡ Some (text, rest)
quoted_content [] rest = quoted_end rest
quoted_content (b ∷ text) rest =
    ap quoted (append_assoc (escape b) (flat_map escape text) (34 ∷ rest))
    ∙ quoted_escape (flat_map escape text ++ 34 ∷ rest) b ∙ ap (with_prefix b) (quoted_content text rest)

string_token : (bytes : List ℕ) → token_at (34 ∷ bytes) ≡ string_at bytes
unfolding token_at
string_token bytes = refl

string_read : (text rest : List ℕ) → is_utf8 text ≡ true
    → string_at (flat_map escape text ++ 34 ∷ rest) ≡ Some (token.Quoted text, rest)
unfolding string_at
string_read text rest utf8 =
    ap (option_and_then (λ found. cond (is_utf8 found.0) (Some (token.Quoted found.0, found.1)) None))
    (quoted_content text rest)
    ∙ ap (λ (test : Bool). cond test (Some (token.Quoted text, rest)) None) utf8

pub begins_string : (text rest : List ℕ) → is_utf8 text ≡ true
    → token_at (past_blanks (string_literal text ++ rest)) ≡ Some (token.Quoted text, rest)
begins_string text rest utf8 =
    string_token ((flat_map escape text ++ 34 ∷ []) ++ rest)
    ∙ ap string_at (append_assoc (flat_map escape text) (34 ∷ []) rest) ∙ string_read text rest utf8

-- a number

abbrev pub Fits64 : ℤ → Type 0
Fits64 (pos n) = n < 2 ^ 63
Fits64 (negsuc n) = n < 2 ^ 63

digit_of : (b : ℕ) → digit_value b < 10 → is_ascii_digit b ≡ true
digit_of b small = let range = digit_from_value b small in grind (arith, nat_tests)

digits_pass : (digits : List ℕ) → AllDigits 10 digits → AllPassing is_ascii_digit digits
digits_pass [] all = tt
digits_pass (b ∷ digits) all = (digit_of b all.0, digits_pass digits all.1)

abbrev literal_found : List ℕ → ℕ → Option (Token × List ℕ)
literal_found bytes size =
    cond (goes_on (drop size bytes)) None
    (option_map (λ number. (token.Number number, drop size bytes)) (number_of (take size bytes)))

literal_read : (b : ℕ) (digits rest : List ℕ) → AllPassing is_ascii_digit digits → Separated rest
    → number_at ((b ∷ digits) ++ rest) ≡ option_map (λ number. (token.Number number, rest)) (number_of (b ∷ digits))
unfolding number_at
literal_read b digits rest all ends =
    let size : 1 + prefix_len is_ascii_digit (digits ++ rest) ≡ suc (length digits) =
    ap (λ (n : ℕ). 1 + n) (run_whole is_ascii_digit digits rest all (no_digit rest ends)) ∙ one-add (length digits) in
    let front : take (length digits) (digits ++ rest) ≡ digits = take_run digits rest in
    let back : drop (length digits) (digits ++ rest) ≡ rest = drop_run digits rest in
    ap (literal_found (b ∷ (digits ++ rest))) size ∙ rw (front, back, not_on rest ends) refl

number_token : (b : ℕ) (bytes : List ℕ) → is_name_start b ≡ false → is_number_start b ≡ true
    → token_at (b ∷ bytes) ≡ number_at (b ∷ bytes)
unfolding token_at
number_token b bytes name number = rw (name, number) refl

own : IsNumeralModel (AllDigits 10) (digits_value 10)
own = numerals_by_value (AllDigits 10) tells_digits

lt_tests : (m n : ℕ) → m < n → ltb m n ≡ true
lt_tests m n h = grind (arith, nat_tests)

le_tests : (m n : ℕ) → m ≤ n → leb m n ≡ true
le_tests m n h = grind (arith, nat_tests)

digit_starts : (b : ℕ) → is_ascii_digit b ≡ true
    → (is_name_start b ≡ false) × (is_number_start b ≡ true) × (is_blank b ≡ false) × (eqb b 45 ≡ false)
digit_starts b is =
    (grind (arith, nat_tests), grind (arith, nat_tests), grind (arith, nat_tests), grind (arith, nat_tests))

positive_read : (b : ℕ) (digits : List ℕ) (n : ℕ) → eqb b 45 ≡ false → digits_value 10 (b ∷ digits) ≡ n → n < 2 ^ 63
    → number_of (b ∷ digits) ≡ Some (pos n)
unfolding number_of
positive_read b digits n plain value small =
    let test : ltb (digits_value 10 (b ∷ digits)) (2 ^ 63) ≡ true = lt_tests _ _ (omega arith) in
    rw (plain, test, value) refl

negative_read : (digits : List ℕ) (n : ℕ) → 0 < length digits → digits_value 10 digits ≡ suc n → n < 2 ^ 63
    → number_of (45 ∷ digits) ≡ Some (negsuc n)
unfolding number_of
negative_read digits n some value small =
    let test : ltb 0 (length digits) ≡ true = lt_tests _ _ some in
    let fits : leb (digits_value 10 digits) (2 ^ 63) ≡ true = le_tests _ _ (omega arith) in
    rw (test, fits, value) refl

begins_positive : (digits rest : List ℕ) (n : ℕ) → AllDigits 10 digits → 0 < length digits → digits_value 10 digits ≡ n
    → n < 2 ^ 63 → Separated rest
    → token_at (past_blanks (digits ++ rest)) ≡ Some (token.Number (pos n), rest)
begins_positive [] rest n all some value small ends = absurd (omega arith)
begins_positive (b ∷ digits) rest n all some value small ends =
    let starts = digit_starts b (digit_of b all.0) in
    ap token_at (not_blank b (digits ++ rest) starts.2) ∙ number_token b (digits ++ rest) starts.0 starts.1
    ∙ literal_read b digits rest (digits_pass digits all.1) ends
    ∙ ap (option_map (λ number. (token.Number number, rest))) (positive_read b digits n starts.3 value small)

begins_negative : (digits rest : List ℕ) (n : ℕ) → AllDigits 10 digits → 0 < length digits
    → digits_value 10 digits ≡ suc n → n < 2 ^ 63 → Separated rest
    → token_at (past_blanks ((45 ∷ digits) ++ rest)) ≡ Some (token.Number (negsuc n), rest)
begins_negative digits rest n all some value small ends =
    number_token 45 (digits ++ rest) refl refl ∙ literal_read 45 digits rest (digits_pass digits all) ends
    ∙ ap (option_map (λ number. (token.Number number, rest))) (negative_read digits n some value small)

pub begins_number : (number : ℤ) (rest : List ℕ) → Fits64 number → Separated rest
    → token_at (past_blanks (signed_decimal number ++ rest)) ≡ Some (token.Number number, rest)
begins_number (pos n) rest small ends =
    begins_positive (decimal n) rest n (digits_decimal own n (omega arith)) (decimal_nonempty n (omega arith))
    (digits_value-decimal own n (omega arith)) small ends
begins_number (negsuc n) rest small ends =
    begins_negative (decimal (suc n)) rest n (digits_decimal own (suc n) (omega arith))
    (decimal_nonempty (suc n) (omega arith)) (digits_value-decimal own (suc n) (omega arith)) small ends
