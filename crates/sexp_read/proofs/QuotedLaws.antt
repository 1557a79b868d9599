-- What is quoted, byte by byte.
use Rattle.std.proofs.Common.{◌≡◌, ℕ, ◌+◌, ◌<◌, ◌≤◌, ◌≢◌, List, [], ◌∷◌, ◌++◌, length, drop, get_or, Option, Some, None}
use Rattle.std.proofs.Common.{Result, Ok, Err, refl, ap, sym, ◌∙◌, arith, append_assoc, drop-cons, add-one}
use Rattle.std.proofs.lemmas.Bool.{ne_eqb}
use Rattle.std.proofs.lemmas.List.{drop_all}
use Rattle.std.specs.Option.{option_map}
use Rattle.sexp_read.specs.declared.fault.SexpWhy.TheVariants.{Open}
use Rattle.sexp_read.specs.declared.piece.Quoted.{Quoted}
use Rattle.sexp_read.specs.Bytes.{escape_of}
use Rattle.sexp_read.specs.Tokens.{Fault, quoted_from, with_prefix, with_escape}

pub with_fronts : (a b : List ℕ) (read : Result (List ℕ × ℕ) Fault)
    → with_prefix a (with_prefix b read) ≡ with_prefix (a ++ b) read
with_fronts a b (Ok read) = ap (λ text. Ok (text, read.1)) (sym (append_assoc a b read.0))
with_fronts a b (Err fault) = refl

pub plain_byte : (kind : Quoted) (start place b : ℕ) (bytes : List ℕ) → b ≢ 34 → b ≢ 92
    → quoted_from kind start place (b ∷ bytes) ≡ with_prefix (b ∷ []) (quoted_from kind start (place + 1) bytes)
plain_byte kind start place b [] q s = rw (ne_eqb b 34 q) refl
plain_byte kind start place b (c ∷ bytes) q s = rw (ne_eqb b 34 q, ne_eqb b 92 s) refl

pub closing_quote : (kind : Quoted) (start place : ℕ) (bytes : List ℕ)
    → quoted_from kind start place (34 ∷ bytes) ≡ Ok ([], place + 1)
closing_quote kind start place [] = refl
closing_quote kind start place (c ∷ bytes) = refl

byte_at : (text : List ℕ) (place b : ℕ) → place < length text → get_or text place 0 ≡ b
    → drop place text ≡ b ∷ drop (place + 1) text
byte_at text place b h e = drop-cons text place 0 h ∙ rw (e, add-one) refl

pub quoted_ends : (kind : Quoted) (text : List ℕ) (start place : ℕ) → length text ≤ place
    → quoted_from kind start place (drop place text) ≡ Err (start, Open)
quoted_ends kind text start place h = rw (drop_all place text h) refl

pub quoted_closes : (kind : Quoted) (text : List ℕ) (start place : ℕ) → place < length text → get_or text place 0 ≡ 34
    → quoted_from kind start place (drop place text) ≡ Ok ([], place + 1)
quoted_closes kind text start place h e = rw (byte_at text place 34 h e) (closing_quote kind start place _)

pub quoted_byte : (kind : Quoted) (text : List ℕ) (start place : ℕ) → place < length text → get_or text place 0 ≢ 34
    → get_or text place 0 ≢ 92
    → quoted_from kind start place (drop place text)
    ≡ with_prefix (get_or text place 0 ∷ []) (quoted_from kind start (place + 1) (drop (place + 1) text))
quoted_byte kind text start place h q s = rw (byte_at text place _ h refl) (plain_byte kind start place _ _ q s)

pub quoted_last : (kind : Quoted) (text : List ℕ) (start place : ℕ) → place + 1 ≡ length text → get_or text place 0 ≡ 92
    → quoted_from kind start place (drop place text) ≡ Err (start, Open)
quoted_last kind text start place h e =
    rw (byte_at text place 92 (omega arith) e, drop_all (place + 1) text (omega arith)) refl

pub quoted_escape : (kind : Quoted) (text : List ℕ) (start place : ℕ) → place + 1 < length text
    → get_or text place 0 ≡ 92
    → quoted_from kind start place (drop place text)
    ≡ with_escape place (escape_of kind (get_or text (place + 1) 0))
    (quoted_from kind start (place + 2) (drop (place + 2) text))
quoted_escape kind text start place h e =
    let second : drop (place + 1) text ≡ get_or text (place + 1) 0 ∷ drop (place + 1 + 1) text =
    byte_at text (place + 1) _ h refl in
    let two : place + 1 + 1 ≡ place + 2 = omega arith in
    rw (byte_at text place 92 (omega arith) e, second)
    (ap
    (λ n.
    with_escape place (escape_of kind (get_or text (place + 1) 0)) (quoted_from kind start (place + 2) (drop n text)))
    two)

pub byte_taken : (kind : Quoted) (text old new : List ℕ) (start place b : ℕ) → place < length text
    → get_or text place 0 ≢ 34 → get_or text place 0 ≢ 92
    → new ≡ old ++ get_or text place 0 ∷ []
    → with_prefix old (quoted_from kind start place (drop place text))
    ≡ with_prefix new (quoted_from kind start (place + 1) (drop (place + 1) text))
byte_taken kind text old new start place b h q s e = ap (with_prefix old) (quoted_byte kind text start place h q s)
    ∙ with_fronts old (get_or text place 0 ∷ []) (quoted_from kind start (place + 1) (drop (place + 1) text))
    ∙ ap (λ bytes. with_prefix bytes (quoted_from kind start (place + 1) (drop (place + 1) text))) (sym e)

escaped : (old new : List ℕ) (escape : Option (List ℕ)) (place : ℕ) (read : Result (List ℕ × ℕ) Fault)
    → option_map (λ front. old ++ front) escape ≡ Some new
    → with_prefix old (with_escape place escape read) ≡ with_prefix new read
escaped old new (Some front) place read e =
    let same : old ++ front ≡ new = cc in with_fronts old front read ∙ ap (λ bytes. with_prefix bytes read) same
escaped old new None place read e = cc

pub escape_taken : (kind : Quoted) (text old new : List ℕ) (start place : ℕ) → place + 1 < length text
    → get_or text place 0 ≡ 92
    → option_map (λ front. old ++ front) (escape_of kind (get_or text (place + 1) 0)) ≡ Some new
    → with_prefix old (quoted_from kind start place (drop place text))
    ≡ with_prefix new (quoted_from kind start (place + 2) (drop (place + 2) text))
escape_taken kind text old new start place h b e = ap (with_prefix old) (quoted_escape kind text start place h b)
    ∙ escaped old new (escape_of kind (get_or text (place + 1) 0)) place _ e

pub ruleset quoted_steps = (quoted_ends, quoted_closes, quoted_byte, quoted_last, quoted_escape)
