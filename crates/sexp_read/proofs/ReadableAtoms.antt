-- What was read can be written.
use Rattle.std.proofs.Common.{◌≡◌, ℕ, ℤ, pos, neg_ℤ, zero, suc, ◌+◌, ◌<◌, ◌≤◌, ◌^◌, ◌-◌, Bool, true, false, cond}
use Rattle.std.proofs.Common.{nat_eq, nat_lt, nat_le, ◌&&◌, List, [], ◌∷◌, ◌++◌, length, drop, Option, Some, None}
use Rattle.std.proofs.Common.{Result, Ok, Err, refl, ap, sym, ◌∙◌, subst, arith, append_assoc, inl, inr}
use Rattle.std.proofs.lemmas.Bool.{cases_Bool, and_parts, leb-true, eqb-true}
use Rattle.std.specs.Str.{IsUtf8, all_ascii_digits}
use Rattle.std.specs.Str.Parse.{digits_value}
use Rattle.sexp_read.specs.declared.fault.SexpWhy.{SexpWhy}
use Rattle.sexp_read.specs.declared.piece.Class.{Class}
use Rattle.sexp_read.specs.declared.piece.Class.TheVariants.{Separator, Comment, Opens, Closes, Quote, Hash, Run}
use Rattle.sexp_read.specs.declared.piece.Piece.{Piece}
use Rattle.sexp_read.specs.declared.piece.Piece.TheVariants.{Blank, Opening, Closing, Whole}
use Rattle.sexp_read.specs.declared.piece.Quoted.{Quoted}
use Rattle.sexp_read.specs.declared.piece.Quoted.TheVariants.{Text as in_text, Pattern as in_pattern}
use Rattle.sexp_read.specs.Tree.{Atom, FormTree, FormTrees, Single, Group, none, also}
use Rattle.sexp_read.specs.Bytes.{class_of, run_of, is_name, is_keyword, is_symbol, begins_number, magnitude, signed}
use Rattle.sexp_read.specs.Bytes.{number_of, number_atom, atom_of, escape_of}
use Rattle.sexp_read.specs.Tokens.{Fault, Token, Opened, Closed, Stood, Lexed, lexed_from, lexed, tokens_in, and_then}
use Rattle.sexp_read.specs.Tokens.{piece_at, piece_by, run_at, run_piece, placed, quoted_at, quoted_piece, quoted_from}
use Rattle.sexp_read.specs.Grammar.{form_spelling, spelling, deepest, IsForms}
use Rattle.sexp_read.specs.Written.{bare_tree, bare_trees, bare_depth, is_pattern, IsWithin64, IsWritable}
use Rattle.sexp_read.specs.Written.{IsWritableTree, AreWritable}
use Rattle.sexp_read.proofs.Pieces.{quote_is_ascii}
use Rattle.sexp_read.proofs.QuotedText.{following_ascii, ok_parts, fronted, escaped, quoted_is_utf8}
use Rattle.sexp_read.proofs.WrittenTrees.{depth_is}

-- atoms

abbrev GoodAtom : Result Atom SexpWhy → Type 0
GoodAtom (Ok atom) = IsWritable atom
GoodAtom (Err why) = Unit {0}

abbrev GoodNumber : Option ℤ → Type 0
GoodNumber (Some number) = IsWithin64 number
GoodNumber None = Unit {0}

abbrev AtMost : ℕ → Option ℕ → Type 0
AtMost most (Some n) = n ≤ most
AtMost most None = Unit {0}

atom_if : (test : Bool) (x y : Result Atom SexpWhy) → (test ≡ true → GoodAtom x) → GoodAtom y → GoodAtom (cond test x y)
atom_if true x y first second = first refl
atom_if false x y first second = second

number_if : (test : Bool) (x y : Option ℤ) → GoodNumber x → GoodNumber y → GoodNumber (cond test x y)
number_if true x y first second = first
number_if false x y first second = second

most_if : (most n : ℕ) (test : Bool) → (test ≡ true → n ≤ most) → AtMost most (cond test (Some n) None)
most_if most n true h = h refl
most_if most n false h = tt

magnitude_fits : (digits : List ℕ) (most : ℕ) → AtMost most (magnitude digits most)
magnitude_fits digits most =
    most_if most (digits_value 10 digits) _
    (λ e. leb-true (digits_value 10 digits) most
    (and_parts (nat_lt 0 (length digits) && all_ascii_digits digits) (nat_le (digits_value 10 digits) most) e).1)

negative_fits : (n : ℕ) → n ≤ 2 ^ 63 → IsWithin64 (neg_ℤ (pos n))
negative_fits zero le = omega arith
negative_fits (suc n) le = omega arith

negative_good : (size : Option ℕ) → AtMost (2 ^ 63) size → GoodNumber (signed true size)
negative_good (Some n) fits = negative_fits n fits
negative_good None fits = tt

positive_good : (size : Option ℕ) → AtMost (2 ^ 63 - 1) size → GoodNumber (signed false size)
positive_good (Some n) fits = omega arith
positive_good None fits = tt

number_good : (run : List ℕ) → GoodNumber (number_of run)
unfolding number_of
number_good [] = tt
number_good (b ∷ bytes) =
    number_if (nat_eq b 45) _ _ (negative_good (magnitude bytes (2 ^ 63)) (magnitude_fits bytes (2 ^ 63)))
    (positive_good (magnitude (b ∷ bytes) (2 ^ 63 - 1)) (magnitude_fits (b ∷ bytes) (2 ^ 63 - 1)))

number_atom_good : (number : Option ℤ) → GoodNumber number → GoodAtom (number_atom number)
number_atom_good (Some number) good = good
number_atom_good None good = tt

keyword_good : (run : List ℕ) → is_keyword run ≡ true → is_name (drop 1 run) ≡ true
keyword_good [] h = cc
keyword_good (b ∷ bytes) h = (and_parts (nat_eq b 58) (is_name bytes) h).1

atom_good : (run : List ℕ) → GoodAtom (atom_of run)
unfolding atom_of
atom_good run =
    atom_if (begins_number run) _ _ (λ _. number_atom_good (number_of run) (number_good run))
    (atom_if (is_keyword run) _ _ (λ e. keyword_good run e)
    (atom_if (is_symbol run) _ _ (λ e. e) tt))

-- pieces

abbrev GoodPiece : Piece → Type 0
GoodPiece (Whole atom) = IsWritable atom
GoodPiece Blank = Unit {0}
GoodPiece (Opening bracket) = Unit {0}
GoodPiece (Closing bracket) = Unit {0}

abbrev GoodRead : Result (Piece × ℕ) Fault → Type 0
GoodRead (Ok read) = GoodPiece read.0
GoodRead (Err fault) = Unit {0}

run_piece_good : (place last : ℕ) (atom : Result Atom SexpWhy) → GoodAtom atom
    → GoodRead (run_piece last (placed place atom))
run_piece_good place last (Ok atom) good = good
run_piece_good place last (Err why) good = tt

run_good : (place : ℕ) (bytes : List ℕ) → GoodRead (run_at place bytes)
unfolding run_at
run_good place bytes = run_piece_good place _ (atom_of (run_of bytes)) (atom_good (run_of bytes))

plain_pattern : (b : ℕ) (bytes : List ℕ) → nat_eq b 34 ≡ false → nat_eq b 92 ≡ false → is_pattern bytes ≡ true
    → is_pattern (b ∷ bytes) ≡ true
plain_pattern b [] quote slash h = rw (quote, slash) refl
plain_pattern b (c ∷ bytes) quote slash h = rw (quote, slash) h

pattern_good : (start place : ℕ) (bytes text : List ℕ) (last : ℕ)
    → quoted_from in_pattern start place bytes ≡ Ok (text, last) → is_pattern text ≡ true
pattern_good start place [] text last h = cc
pattern_good start place (b ∷ []) text last h = elim (cases_Bool (nat_eq b 34)) [
  | inl q ↦ let h' = rw q at h in let empty : text ≡ [] = (ok_parts ([], place + 1) (text, last) h').0 in rw empty refl
  | inr q ↦ let h' = rw q at h in cc
]
pattern_good start place (b ∷ c ∷ bytes) text last h = elim (cases_Bool (nat_eq b 34)) [
  | inl q ↦ let h' = rw q at h in let empty : text ≡ [] = (ok_parts ([], place + 1) (text, last) h').0 in rw empty refl
  | inr q ↦ let h' = rw q at h in elim (cases_Bool (nat_eq b 92)) [
    | inl s ↦
        let h'' = rw s at h' in
        let known =
        escaped place text last (escape_of in_pattern c) (quoted_from in_pattern start (place + 2) bytes) h'' in
        let two : known.more ≡ 92 ∷ c ∷ [] = let e = known.some in cc in
        let whole : text ≡ 92 ∷ c ∷ known.front.rest =
        known.front.whole ∙ ap (λ (front : List ℕ). front ++ known.front.rest) two in
        rw whole (pattern_good start (place + 2) bytes known.front.rest last known.front.is)
    | inr s ↦
        let h'' = rw s at h' in
        let known = fronted (b ∷ []) text last (quoted_from in_pattern start (place + 1) (c ∷ bytes)) h'' in
        rw known.whole
        (plain_pattern b known.rest q s (pattern_good start (place + 1) (c ∷ bytes) known.rest last known.is))
  ]
]

quoted_piece_good : (kind : Quoted) (start place : ℕ) (bytes : List ℕ) (read : Result (List ℕ × ℕ) Fault) → IsUtf8 bytes
    → quoted_from kind start place bytes ≡ read → GoodRead (quoted_piece kind read)
quoted_piece_good in_text start place bytes (Ok read) u h = quoted_is_utf8 in_text start place bytes read.0 read.1 u h
quoted_piece_good in_pattern start place bytes (Ok read) u h =
    (quoted_is_utf8 in_pattern start place bytes read.0 read.1 u h, pattern_good start place bytes read.0 read.1 h)
quoted_piece_good kind start place bytes (Err fault) u h = tt

quoted_good : (kind : Quoted) (start place : ℕ) (bytes : List ℕ) → IsUtf8 bytes
    → GoodRead (quoted_at kind start place bytes)
unfolding quoted_at
quoted_good kind start place bytes u =
    quoted_piece_good kind start place bytes (quoted_from kind start place bytes) u refl

hash_good : (place b : ℕ) (front bytes : List ℕ) → IsUtf8 (front ++ b ∷ bytes) → GoodRead (piece_by Hash place b bytes)
hash_good place b front [] u = run_good place (b ∷ [])
hash_good place b front (c ∷ bytes) u = elim (cases_Bool (nat_eq c 34)) [
  | inl q ↦
      let moved = subst (λ (text : List ℕ). IsUtf8 text) (sym (append_assoc front (b ∷ []) (c ∷ bytes))) u in
      let low : c < 128 = (let e = eqb-true c 34 q in omega arith) in
      rw q (quoted_good in_pattern place (place + 2) bytes (following_ascii (front ++ b ∷ []) bytes c moved low))
  | inr q ↦ rw q (run_good place (b ∷ c ∷ bytes))
]

class_good : (class : Class) (place b : ℕ) (front bytes : List ℕ) → IsUtf8 (front ++ b ∷ bytes) → class_of b ≡ class
    → GoodRead (piece_by class place b bytes)
class_good Separator place b front bytes u h = tt
class_good Comment place b front bytes u h = tt
class_good (Opens bracket) place b front bytes u h = tt
class_good (Closes bracket) place b front bytes u h = tt
class_good Quote place b front bytes u h =
    quoted_good in_text place (place + 1) bytes (following_ascii front bytes b u (quote_is_ascii b h))
class_good Hash place b front bytes u h = hash_good place b front bytes u
class_good Run place b front bytes u h = run_good place (b ∷ bytes)

piece_good : (place b : ℕ) (front bytes : List ℕ) → IsUtf8 (front ++ b ∷ bytes) → GoodRead (piece_at place b bytes)
unfolding piece_at
piece_good place b front bytes u = class_good (class_of b) place b front bytes u refl

-- tokens

abbrev GoodToken : Token → Type 0
GoodToken (Opened bracket place) = Unit {0}
GoodToken (Closed bracket last) = Unit {0}
GoodToken (Stood atom start last) = IsWritable atom

abbrev AllGood : List Token → Type 0
AllGood [] = Unit {0}
AllGood (token ∷ tokens) = GoodToken token × AllGood tokens

good_both : (a b : List Token) → AllGood a → AllGood b → AllGood (a ++ b)
good_both [] b first second = second
good_both (token ∷ a) b first second = (first.0, good_both a b first.1 second)

good_front : (a b : List Token) → AllGood (a ++ b) → AllGood a
good_front [] b good = tt
good_front (token ∷ a) b good = (good.0, good_front a b good.1)

good_rest : (a b : List Token) → AllGood (a ++ b) → AllGood b
good_rest [] b good = good
good_rest (token ∷ a) b good = good_rest a b good.1

piece_tokens_good : (start last : ℕ) (piece : Piece) → GoodPiece piece → AllGood (tokens_in start piece last)
piece_tokens_good start last Blank good = tt
piece_tokens_good start last (Opening bracket) good = (tt, tt)
piece_tokens_good start last (Closing bracket) good = (tt, tt)
piece_tokens_good start last (Whole atom) good = (good, tt)

then_good : (place : ℕ) (read : Result (Piece × ℕ) Fault) (more : ℕ → Lexed) → GoodRead read
    → ((last : ℕ) → AllGood (more last).tokens) → AllGood (and_then place read more).tokens
then_good place (Ok read) more good others =
    good_both (tokens_in place read.0 read.1) (more read.1).tokens (piece_tokens_good place read.1 read.0 good)
    (others read.1)
then_good place (Err fault) more good others = tt

lexed_good : (next place : ℕ) (front bytes : List ℕ) → IsUtf8 (front ++ bytes)
    → AllGood (lexed_from next place bytes).tokens
unfolding lexed_from
lexed_good next place front [] u = tt
lexed_good next place front (b ∷ bytes) u =
    let moved = subst (λ (text : List ℕ). IsUtf8 text) (sym (append_assoc front (b ∷ []) bytes)) u in
    elim (cases_Bool (nat_lt place next)) [
      | inl less ↦ rw less (lexed_good next (place + 1) (front ++ b ∷ []) bytes moved)
      | inr more ↦
          rw more (then_good place (piece_at place b bytes) _ (piece_good place b front bytes u)
          (λ last. lexed_good last (place + 1) (front ++ b ∷ []) bytes moved))
    ]

text_good : (text : List ℕ) → IsUtf8 text → AllGood (lexed text).tokens
unfolding lexed
text_good text u = lexed_good 0 0 [] text u

-- forms

mutual
  form_good : (form : FormTree) → AllGood (form_spelling form) → IsWritableTree (bare_tree form)
  form_good (Single atom start last) good = good.0
  form_good (Group bracket forms start last) good =
      forms_good forms (good_front (spelling forms) (Closed bracket last ∷ []) good.1)

  forms_good : (forms : FormTrees) → AllGood (spelling forms) → AreWritable (bare_trees forms)
  forms_good none good = tt
  forms_good (also form forms) good = (
    form_good form (good_front (form_spelling form) (spelling forms) good),
    forms_good forms (good_rest (form_spelling form) (spelling forms) good),
  )

pub read_writable : (text : List ℕ) (forms : FormTrees) → IsForms text forms
    → AreWritable (bare_trees forms) × (bare_depth (bare_trees forms) ≤ deepest)
read_writable text forms h = (
  forms_good forms (subst (λ (tokens : List Token). AllGood tokens) h.read.spelled (text_good text h.utf8)),
  let same = depth_is forms in let shallow = h.shallow in omega arith,
)
