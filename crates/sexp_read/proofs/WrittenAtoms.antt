-- What is written of an atom is a piece of its text.
use Rattle.std.proofs.Common.{◌≡◌, ◌≢◌, ℕ, ℤ, pos, negsuc, suc, ◌+◌, ◌-◌, ◌<◌, ◌≤◌, ◌^◌, Bool, true, false, nat_eq}
use Rattle.std.proofs.Common.{◌||◌, codes, List, [], ◌∷◌, ◌++◌, length, take, drop, Some, Ok, refl, ap, sym, ◌∙◌, subst}
use Rattle.std.proofs.Common.{arith, append_assoc, one-add, inl, inr, ⊎_elim, length-append}
use Rattle.std.proofs.Math.Seq.{drop-append_seam, take-append_seam}
use Rattle.std.proofs.lemmas.Bool.{and_parts, and_from, or_cases, lt-ltb, le-leb, le-ltb, ne_eqb}
use Rattle.std.proofs.lemmas.Bool.Decides.{nat_tests, eqb_tells}
use Rattle.std.proofs.lemmas.Fmt.{digits_decimal, digits_value-decimal, decimal_nonempty}
use Rattle.std.proofs.lemmas.Slice.Eq.{bytes_eq-Decides}
use Rattle.std.specs.Char.{is_ascii_digit}
use Rattle.std.specs.Fmt.{decimal, signed_decimal}
use Rattle.std.specs.List.{list_all, prefix_len, flat_map}
use Rattle.std.specs.Str.{all_ascii_digits, bytes_eq}
use Rattle.std.specs.Str.Parse.{digits_value}
use Rattle.sexp_read.specs.declared.piece.Class.TheVariants.{Run}
use Rattle.sexp_read.specs.declared.piece.Piece.{Piece}
use Rattle.sexp_read.specs.declared.piece.Piece.TheVariants.{Whole}
use Rattle.sexp_read.specs.declared.piece.Quoted.TheVariants.{Text as in_text, Pattern as in_pattern}
use Rattle.sexp_read.specs.Tree.{Atom, Text, Pattern, Number, Keyword, Symbol}
use Rattle.sexp_read.specs.Bytes.{class_of, runs_on, run_of, is_digit, is_letter, is_name_byte, is_name, is_keyword}
use Rattle.sexp_read.specs.Bytes.{is_symbol_byte, is_word, is_comparison, is_symbol, begins_number, number_of, atom_of}
use Rattle.sexp_read.specs.Bytes.{magnitude, signed}
use Rattle.sexp_read.specs.Tokens.{Token, Stood, lexed_from, with_tokens, tokens_in, piece_at, run_at, quoted_at}
use Rattle.sexp_read.specs.Tokens.{quoted_from, quoted_piece, with_prefix}
use Rattle.string_literals.specs.Literals.{escape as byte_text}
use Rattle.sexp_read.specs.Written.{atom_text, is_pattern, IsWithin64, IsWritable}
use Rattle.sexp_read.proofs.Lexing.{skipped}
use Rattle.sexp_read.proofs.Numbers.{digits_model}
use Rattle.sexp_read.proofs.QuotedLaws.{plain_byte, closing_quote}

-- a run ends here
abbrev pub Ends : List ℕ → Type 0
Ends [] = Unit {0}
Ends (b ∷ bytes) = runs_on (class_of b) ≡ false

-- these tokens come first, and others come after the bytes
pub record ReadsBack (place : ℕ) (text rest : List ℕ) (tokens : List Token) : Type 0 where
  pub is : lexed_from place place (text ++ rest)
      ≡ with_tokens tokens (lexed_from (place + length text) (place + length text) rest)

-- a piece at the front
pub piece_read : (place b : ℕ) (more rest : List ℕ) (piece : Piece)
    → piece_at place b (more ++ rest) ≡ Ok (piece, place + length (b ∷ more))
    → ReadsBack place (b ∷ more) rest (tokens_in place piece (place + length (b ∷ more)))
unfolding lexed_from
piece_read place b more rest piece e =
    let last = place + length (b ∷ more) in
    let size : last - (place + 1) ≡ length more = omega arith in
    let following : lexed_from last (place + 1) (more ++ rest) ≡ lexed_from last last rest =
    skipped last (place + 1) (more ++ rest) (omega arith)
    ∙ ap (λ (n : ℕ). lexed_from last last (drop n (more ++ rest))) size
    ∙ ap (λ (bytes : List ℕ). lexed_from last last bytes) (drop-append_seam more rest) in
    record { is = rw (le-ltb place place (omega arith), e) (ap (with_tokens (tokens_in place piece last)) following) }

-- runs

abbrev goes_on : ℕ → Bool
goes_on b = runs_on (class_of b)

prefix_stops : (rest : List ℕ) → Ends rest → prefix_len goes_on rest ≡ 0
prefix_stops [] ends = refl
prefix_stops (b ∷ rest) ends = rw ends refl

prefix_whole : (run rest : List ℕ) → list_all goes_on run ≡ true → Ends rest
    → prefix_len goes_on (run ++ rest) ≡ length run
prefix_whole [] rest all ends = prefix_stops rest ends
prefix_whole (b ∷ run) rest all ends =
    let parts = and_parts (goes_on b) (list_all goes_on run) all in
    rw parts.0 (rw one-add (ap suc (prefix_whole run rest parts.1 ends)))

run_is : (run rest : List ℕ) → list_all goes_on run ≡ true → Ends rest → run_of (run ++ rest) ≡ run
run_is run rest all ends =
    ap (λ (n : ℕ). take n (run ++ rest)) (prefix_whole run rest all ends) ∙ take-append_seam run rest

-- a run that is an atom
record IsRun (run : List ℕ) (atom : Atom) : Type 0 where
  first : ℕ
  more : List ℕ
  run_as : run ≡ first ∷ more
  begins : class_of first ≡ Run
  goes : list_all goes_on run ≡ true
  is : atom_of run ≡ Ok atom

run_piece_is : (place first : ℕ) (more rest : List ℕ) (atom : Atom) → class_of first ≡ Run
    → list_all goes_on (first ∷ more) ≡ true → atom_of (first ∷ more) ≡ Ok atom → Ends rest
    → piece_at place first (more ++ rest) ≡ Ok (Whole atom, place + length (first ∷ more))
unfolding piece_at run_at
run_piece_is place first more rest atom begins goes is ends = rw (begins, run_is (first ∷ more) rest goes ends, is) refl

run_read : (run : List ℕ) (atom : Atom) → IsRun run atom → (place : ℕ) (rest : List ℕ) → Ends rest
    → ReadsBack place run rest (Stood atom place (place + length run) ∷ [])
run_read run atom h place rest ends =
    let goes = subst (λ (text : List ℕ). list_all goes_on text ≡ true) h.run_as h.goes in
    let is = subst (λ (text : List ℕ). atom_of text ≡ Ok atom) h.run_as h.is in
    subst (λ (text : List ℕ). ReadsBack place text rest (Stood atom place (place + length text) ∷ [])) (sym h.run_as)
    (piece_read place h.first h.more rest (Whole atom)
    (run_piece_is place h.first h.more rest atom h.begins goes is ends))

all_go : (p : ℕ → Bool) → ((b : ℕ) → p b ≡ true → goes_on b ≡ true) → (bytes : List ℕ) → list_all p bytes ≡ true
    → list_all goes_on bytes ≡ true
all_go p each [] h = refl
all_go p each (b ∷ bytes) h =
    let parts = and_parts (p b) (list_all p bytes) h in
    and_from (goes_on b) (list_all goes_on bytes) (each b parts.0) (all_go p each bytes parts.1)

name_byte_goes : (b : ℕ) → is_name_byte b ≡ true → goes_on b ≡ true
name_byte_goes b h = grind (arith, nat_tests)

symbol_byte_goes : (b : ℕ) → is_symbol_byte b ≡ true → goes_on b ≡ true
symbol_byte_goes b h = grind (arith, nat_tests)

name_head_goes : (b : ℕ) → (is_letter b || nat_eq b 95) ≡ true → goes_on b ≡ true
name_head_goes b h = grind (arith, nat_tests)

name_head_class : (b : ℕ) → (is_letter b || nat_eq b 95) ≡ true → class_of b ≡ Run
name_head_class b h = grind (arith, nat_tests)

digit_class : (b : ℕ) → is_digit b ≡ true → class_of b ≡ Run
digit_class b h = grind (arith, nat_tests)

digit_goes : (b : ℕ) → is_ascii_digit b ≡ true → goes_on b ≡ true
digit_goes b h = grind (arith, nat_tests)

-- keywords

name_goes : (name : List ℕ) → is_name name ≡ true → list_all goes_on name ≡ true
name_goes [] h = refl
name_goes (b ∷ name) h =
    let parts = and_parts (is_letter b || nat_eq b 95) (list_all is_name_byte name) h in
    and_from (goes_on b) (list_all goes_on name) (name_head_goes b parts.0)
    (all_go is_name_byte name_byte_goes name parts.1)

keyword_atom : (name : List ℕ) → is_name name ≡ true → atom_of (58 ∷ name) ≡ Ok (Keyword name)
unfolding atom_of
keyword_atom name h = rw h refl

keyword_run : (name : List ℕ) → is_name name ≡ true → IsRun (58 ∷ name) (Keyword name)
keyword_run name h =
    record { first = 58; more = name; run_as = refl; begins = refl; goes = name_goes name h; is = keyword_atom name h }

-- symbols

word_no_number : (b : ℕ) (bytes : List ℕ) → (is_letter b || nat_eq b 95) ≡ true → begins_number (b ∷ bytes) ≡ false
word_no_number b [] h = grind (arith, nat_tests)
word_no_number b (c ∷ bytes) h = grind (arith, nat_tests)

word_no_keyword : (b : ℕ) (bytes : List ℕ) → (is_letter b || nat_eq b 95) ≡ true → is_keyword (b ∷ bytes) ≡ false
word_no_keyword b bytes h = let other : nat_eq b 58 ≡ false = grind (arith, nat_tests) in rw other refl

symbol_atom : (run : List ℕ) → begins_number run ≡ false → is_keyword run ≡ false → is_symbol run ≡ true
    → atom_of run ≡ Ok (Symbol run)
unfolding atom_of
symbol_atom run number keyword symbol = rw (number, keyword, symbol) refl

word_run : (run : List ℕ) → is_word run ≡ true → is_symbol run ≡ true → IsRun run (Symbol run)
word_run [] h symbol = cc
word_run (b ∷ bytes) h symbol =
    let parts = and_parts (is_letter b || nat_eq b 95) (list_all is_symbol_byte bytes) h in
    let goes : goes_on b ≡ true = name_head_goes b parts.0 in
    record {
      first = b;
      more = bytes;
      run_as = refl;
      begins = name_head_class b parts.0;
      goes = and_from (goes_on b) (list_all goes_on bytes) goes (all_go is_symbol_byte symbol_byte_goes bytes parts.1);
      is = symbol_atom (b ∷ bytes) (word_no_number b bytes parts.0) (word_no_keyword b bytes parts.0) symbol;
    }

same_run : (run word : List ℕ) → bytes_eq run word ≡ true → IsRun word (Symbol word) → IsRun run (Symbol run)
same_run run word h known =
    subst (λ (text : List ℕ). IsRun text (Symbol text)) (sym ((bytes_eq-Decides run word).0 h)) known

comparison_run : (run : List ℕ) → is_comparison run ≡ true → IsRun run (Symbol run)
unfolding atom_of
comparison_run run h =
    elim (or_cases _ (bytes_eq run (codes ">=")) h) [
      | inr e ↦
          same_run run (codes ">=") e
          (record { first = 62; more = 61 ∷ []; run_as = refl; begins = refl; goes = refl; is = refl })
      | inl h ↦ elim (or_cases _ (bytes_eq run (codes ">")) h) [
        | inr e ↦
            same_run run (codes ">") e
            (record { first = 62; more = []; run_as = refl; begins = refl; goes = refl; is = refl })
        | inl h ↦ elim (or_cases _ (bytes_eq run (codes "<=")) h) [
          | inr e ↦
              same_run run (codes "<=") e
              (record { first = 60; more = 61 ∷ []; run_as = refl; begins = refl; goes = refl; is = refl })
          | inl h ↦ elim (or_cases _ (bytes_eq run (codes "<")) h) [
            | inr e ↦
                same_run run (codes "<") e
                (record { first = 60; more = []; run_as = refl; begins = refl; goes = refl; is = refl })
            | inl h ↦ elim (or_cases (bytes_eq run (codes "=")) (bytes_eq run (codes "not=")) h) [
              | inl e ↦
                  same_run run (codes "=") e
                  (record { first = 61; more = []; run_as = refl; begins = refl; goes = refl; is = refl })
              | inr e ↦
                  same_run run (codes "not=") e
                  (record {
                    first = 110;
                    more = 111 ∷ 116 ∷ 61 ∷ [];
                    run_as = refl;
                    begins = refl;
                    goes = refl;
                    is = refl;
                  })
            ]
          ]
        ]
      ]
    ]

symbol_run : (run : List ℕ) → is_symbol run ≡ true → IsRun run (Symbol run)
symbol_run run h =
    elim (or_cases (is_word run) (is_comparison run) h)
    [ inl word ↦ word_run run word h | inr comparison ↦ comparison_run run comparison ]

-- numbers

digits_go : (digits : List ℕ) → all_ascii_digits digits ≡ true → list_all goes_on digits ≡ true
digits_go [] h = refl
digits_go (b ∷ digits) h =
    let parts = and_parts (is_ascii_digit b) (all_ascii_digits digits) h in
    and_from (goes_on b) (list_all goes_on digits) (digit_goes b parts.0) (digits_go digits parts.1)

magnitude_is : (digits : List ℕ) (most n : ℕ) → 0 < length digits → all_ascii_digits digits ≡ true
    → digits_value 10 digits ≡ n → n ≤ most → magnitude digits most ≡ Some n
magnitude_is digits most n some all value fits = rw (lt-ltb 0 (length digits) some, all, value, le-leb n most fits) refl

number_atom_is : (run : List ℕ) (number : ℤ) → begins_number run ≡ true → number_of run ≡ Some number
    → atom_of run ≡ Ok (Number number)
unfolding atom_of
number_atom_is run number begins is = rw (begins, is) refl

digit_begins : (b : ℕ) (digits : List ℕ) → is_digit b ≡ true → begins_number (b ∷ digits) ≡ true
digit_begins b digits h = rw h refl

minus_begins : (b : ℕ) (digits : List ℕ) → is_digit b ≡ true → begins_number (45 ∷ b ∷ digits) ≡ true
minus_begins b digits h = h

digit_plain : (b : ℕ) → is_digit b ≡ true → nat_eq b 45 ≡ false
digit_plain b h = grind (arith, nat_tests)

positive_number : (b : ℕ) (digits : List ℕ) (n : ℕ) → nat_eq b 45 ≡ false → magnitude (b ∷ digits) (2 ^ 63 - 1) ≡ Some n
    → number_of (b ∷ digits) ≡ Some (pos n)
unfolding number_of
positive_number b digits n plain is = rw plain (ap (signed false) is)

negative_number : (digits : List ℕ) (n : ℕ) → magnitude digits (2 ^ 63) ≡ Some (suc n)
    → number_of (45 ∷ digits) ≡ Some (negsuc n)
unfolding number_of
negative_number digits n is = ap (signed true) is

positive_atom : (b : ℕ) (digits : List ℕ) (n : ℕ) → all_ascii_digits (b ∷ digits) ≡ true
    → digits_value 10 (b ∷ digits) ≡ n → n < 2 ^ 63 → atom_of (b ∷ digits) ≡ Ok (Number (pos n))
positive_atom b digits n all value fits =
    let digit : is_digit b ≡ true = (and_parts (is_ascii_digit b) (all_ascii_digits digits) all).0 in
    number_atom_is (b ∷ digits) (pos n) (digit_begins b digits digit)
    (positive_number b digits n (digit_plain b digit)
    (magnitude_is (b ∷ digits) (2 ^ 63 - 1) n (omega arith) all value (omega arith)))

positive_run : (digits : List ℕ) (n : ℕ) → 0 < length digits → all_ascii_digits digits ≡ true
    → digits_value 10 digits ≡ n → n < 2 ^ 63 → IsRun digits (Number (pos n))
positive_run [] n some all value fits = absurd (omega arith)
positive_run (b ∷ digits) n some all value fits =
    let parts = and_parts (is_ascii_digit b) (all_ascii_digits digits) all in
    record {
      first = b;
      more = digits;
      run_as = refl;
      begins = digit_class b parts.0;
      goes = digits_go (b ∷ digits) all;
      is = positive_atom b digits n all value fits;
    }

negative_atom : (digits : List ℕ) (n : ℕ) → 0 < length digits → all_ascii_digits digits ≡ true
    → digits_value 10 digits ≡ suc n → n < 2 ^ 63 → atom_of (45 ∷ digits) ≡ Ok (Number (negsuc n))
negative_atom [] n some all value fits = absurd (omega arith)
negative_atom (b ∷ digits) n some all value fits =
    let digit : is_digit b ≡ true = (and_parts (is_ascii_digit b) (all_ascii_digits digits) all).0 in
    number_atom_is (45 ∷ b ∷ digits) (negsuc n) (minus_begins b digits digit)
    (negative_number (b ∷ digits) n (magnitude_is (b ∷ digits) (2 ^ 63) (suc n) some all value (omega arith)))

negative_run : (digits : List ℕ) (n : ℕ) → 0 < length digits → all_ascii_digits digits ≡ true
    → digits_value 10 digits ≡ suc n → n < 2 ^ 63 → IsRun (45 ∷ digits) (Number (negsuc n))
negative_run digits n some all value fits =
    record {
      first = 45;
      more = digits;
      run_as = refl;
      begins = refl;
      goes = digits_go digits all;
      is = negative_atom digits n some all value fits;
    }

number_run : (number : ℤ) → IsWithin64 number → IsRun (signed_decimal number) (Number number)
number_run (pos n) fits =
    positive_run (decimal n) n (decimal_nonempty n (omega arith)) (digits_decimal digits_model n (omega arith))
    (digits_value-decimal digits_model n (omega arith)) fits
number_run (negsuc n) fits =
    negative_run (decimal (suc n)) n (decimal_nonempty (suc n) (omega arith))
    (digits_decimal digits_model (suc n) (omega arith)) (digits_value-decimal digits_model (suc n) (omega arith)) fits

-- texts

abbrev Escapes : ℕ → ℕ → List ℕ → ℕ → Type 0
Escapes start place rest b =
    quoted_from in_text start place (byte_text b ++ rest)
    ≡ with_prefix (b ∷ []) (quoted_from in_text start (place + length (byte_text b)) rest)

same_escape : (start place : ℕ) (rest : List ℕ) (b c : ℕ) → Escapes start place rest c → b ≡ c
    → Escapes start place rest b
same_escape start place rest b c is same = subst (λ (b : ℕ). Escapes start place rest b) (sym same) is

byte_plain : (b : ℕ) → nat_eq b 34 ≡ false → nat_eq b 92 ≡ false → nat_eq b 10 ≡ false → nat_eq b 13 ≡ false
    → nat_eq b 9 ≡ false → byte_text b ≡ b ∷ []
byte_plain b quote slash line return tab = rw (quote, slash, line, return, tab) refl

plain_escape : (start place : ℕ) (rest : List ℕ) (b : ℕ) → b ≢ 34 → b ≢ 92 → b ≢ 10 → b ≢ 13 → b ≢ 9
    → Escapes start place rest b
plain_escape start place rest b quote slash line return tab =
    subst (λ (text : List ℕ). quoted_from in_text start place (text ++ rest)
    ≡ with_prefix (b ∷ []) (quoted_from in_text start (place + length text) rest))
    (sym
    (byte_plain b (ne_eqb b 34 quote) (ne_eqb b 92 slash) (ne_eqb b 10 line) (ne_eqb b 13 return) (ne_eqb b 9 tab)))
    (plain_byte in_text start place b rest quote slash)

text_byte : (start place : ℕ) (rest : List ℕ) (b : ℕ) → Escapes start place rest b
text_byte start place rest b =
    ⊎_elim (λ same. same_escape start place rest b 34 refl same.1) (λ quote.
    ⊎_elim (λ same. same_escape start place rest b 92 refl same.1) (λ slash.
    ⊎_elim (λ same. same_escape start place rest b 10 refl same.1) (λ line.
    ⊎_elim (λ same. same_escape start place rest b 13 refl same.1) (λ return.
    ⊎_elim (λ same. same_escape start place rest b 9 refl same.1)
    (λ tab. plain_escape start place rest b quote.1 slash.1 line.1 return.1 tab.1)
    (eqb_tells b 9)) (eqb_tells b 13)) (eqb_tells b 10)) (eqb_tells b 92)) (eqb_tells b 34)

fronted : (front text : List ℕ) (last next : ℕ) → last ≡ next
    → with_prefix front (Ok (text, last)) ≡ Ok (front ++ text, next)
fronted front text last next e = ap (λ (n : ℕ). Ok (front ++ text, n)) e

text_content : (text rest : List ℕ) (start place : ℕ)
    → quoted_from in_text start place (flat_map byte_text text ++ 34 ∷ rest)
    ≡ Ok (text, place + length (flat_map byte_text text) + 1)
text_content [] rest start place = closing_quote in_text start place rest ∙ ap (λ (n : ℕ). Ok ([], n)) (omega arith)
text_content (b ∷ text) rest start place =
    ap (quoted_from in_text start place) (append_assoc (byte_text b) (flat_map byte_text text) (34 ∷ rest))
    ∙ text_byte start place (flat_map byte_text text ++ 34 ∷ rest) b
    ∙ ap (with_prefix (b ∷ [])) (text_content text rest start (place + length (byte_text b)))
    ∙ fronted (b ∷ []) text _ _ (omega (arith, length-append (byte_text b) (flat_map byte_text text)))

text_piece : (text rest : List ℕ) (place : ℕ)
    → piece_at place 34 ((flat_map byte_text text ++ 34 ∷ []) ++ rest)
    ≡ Ok (Whole (Text text), place + length (atom_text (Text text)))
unfolding piece_at quoted_at
text_piece text rest place =
    ap (λ (bytes : List ℕ). quoted_piece in_text (quoted_from in_text place (place + 1) bytes))
    (append_assoc (flat_map byte_text text) (34 ∷ []) rest)
    ∙ ap (quoted_piece in_text) (text_content text rest place (place + 1))
    ∙ ap (λ (n : ℕ). Ok (Whole (Text text), n)) (omega (arith, length-append (flat_map byte_text text) (34 ∷ [])))

-- patterns

pattern_content : (text rest : List ℕ) (start place : ℕ) → is_pattern text ≡ true
    → quoted_from in_pattern start place (text ++ 34 ∷ rest) ≡ Ok (text, place + length text + 1)
pattern_content [] rest start place h =
    closing_quote in_pattern start place rest ∙ ap (λ (n : ℕ). Ok ([], n)) (omega arith)
pattern_content (b ∷ []) rest start place h = elim (eqb_tells b 34) [
  | inl quote ↦ let h' = rw quote.0 at h in cc
  | inr quote ↦ elim (eqb_tells b 92) [
    | inl slash ↦ let h' = rw (quote.0, slash.0) at h in cc
    | inr slash ↦
        plain_byte in_pattern start place b (34 ∷ rest) quote.1 slash.1
        ∙ ap (with_prefix (b ∷ [])) (closing_quote in_pattern start (place + 1) rest)
        ∙ fronted (b ∷ []) [] _ _ (omega arith)
  ]
]
pattern_content (b ∷ c ∷ text) rest start place h = elim (eqb_tells b 34) [
  | inl quote ↦ let h' = rw quote.0 at h in cc
  | inr quote ↦ elim (eqb_tells b 92) [
    | inl slash ↦ let h' = rw (quote.0, slash.0) at h in
        let is : quoted_from in_pattern start place (92 ∷ c ∷ (text ++ 34 ∷ rest))
        ≡ Ok (92 ∷ c ∷ text, place + length (b ∷ c ∷ text) + 1) =
        ap (with_prefix (92 ∷ c ∷ [])) (pattern_content text rest start (place + 2) h')
        ∙ fronted (92 ∷ c ∷ []) text _ _ (omega arith) in
        subst
        (λ (x : ℕ). quoted_from in_pattern start place (x ∷ c ∷ (text ++ 34 ∷ rest))
        ≡ Ok (x ∷ c ∷ text, place + length (b ∷ c ∷ text) + 1))
        (sym slash.1) is
    | inr slash ↦ let h' = rw (quote.0, slash.0) at h in
        plain_byte in_pattern start place b (c ∷ (text ++ 34 ∷ rest)) quote.1 slash.1
        ∙ ap (with_prefix (b ∷ [])) (pattern_content (c ∷ text) rest start (place + 1) h')
        ∙ fronted (b ∷ []) (c ∷ text) _ _ (omega arith)
  ]
]

pattern_piece : (text rest : List ℕ) (place : ℕ) → is_pattern text ≡ true
    → piece_at place 35 ((34 ∷ (text ++ 34 ∷ [])) ++ rest)
    ≡ Ok (Whole (Pattern text), place + length (atom_text (Pattern text)))
unfolding piece_at quoted_at
pattern_piece text rest place h =
    ap (λ (bytes : List ℕ). quoted_piece in_pattern (quoted_from in_pattern place (place + 2) bytes))
    (append_assoc text (34 ∷ []) rest)
    ∙ ap (quoted_piece in_pattern) (pattern_content text rest place (place + 2) h)
    ∙ ap (λ (n : ℕ). Ok (Whole (Pattern text), n)) (omega (arith, length-append text (34 ∷ [])))

-- any atom
pub atom_read : (atom : Atom) → IsWritable atom → (place : ℕ) (rest : List ℕ) → Ends rest
    → ReadsBack place (atom_text atom) rest (Stood atom place (place + length (atom_text atom)) ∷ [])
atom_read (Text text) w place rest ends =
    piece_read place 34 (flat_map byte_text text ++ 34 ∷ []) rest (Whole (Text text)) (text_piece text rest place)
atom_read (Pattern text) w place rest ends =
    piece_read place 35 (34 ∷ (text ++ 34 ∷ [])) rest (Whole (Pattern text)) (pattern_piece text rest place w.1)
atom_read (Number number) w place rest ends =
    run_read (signed_decimal number) (Number number) (number_run number w) place rest ends
atom_read (Keyword name) w place rest ends = run_read (58 ∷ name) (Keyword name) (keyword_run name w) place rest ends
atom_read (Symbol name) w place rest ends = run_read name (Symbol name) (symbol_run name w) place rest ends
