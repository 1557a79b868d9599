-- What is quoted in UTF-8 is UTF-8.
use Rattle.std.proofs.Common.{◌≡◌, ℕ, ◌+◌, ◌<◌, nat_eq, List, [], ◌∷◌, ◌++◌, length, get_or, Option, Some, None, Result}
use Rattle.std.proofs.Common.{Ok, Err, refl, ap, sym, arith, append_assoc, subst, inl, inr, length-append}
use Rattle.std.proofs.Math.Seq.{drop-append-add}
use Rattle.std.proofs.lemmas.Bool.{cases_Bool, eqb-true}
use Rattle.std.proofs.lemmas.Bool.Decides.{nat_tests}
use Rattle.std.proofs.lemmas.List.{append-nil, take_at}
use Rattle.std.proofs.lemmas.Str.{IsUtf8-append, IsUtf8-take, IsUtf8-drop, IsUtf8-from_ascii}
use Rattle.std.proofs.lemmas.Str.{IsCharBoundary-before_ascii, IsCharBoundary-after_ascii}
use Rattle.std.proofs.lemmas.Str.Ascii.{IsAscii-nil, IsAscii-cons}
use Rattle.std.specs.Option.{option_map}
use Rattle.std.specs.Str.{IsUtf8}
use Rattle.sexp_read.specs.declared.piece.Quoted.{Quoted}
use Rattle.sexp_read.specs.declared.piece.Quoted.TheVariants.{Text as in_text, Pattern as in_pattern}
use Rattle.string_literals.specs.Literals.{escaped as escaped_byte}
use Rattle.sexp_read.specs.Bytes.{escape_of}
use Rattle.sexp_read.specs.Tokens.{Fault, quoted_from, with_prefix, with_escape}

at_seam : (front bytes : List ℕ) (b : ℕ) → get_or (front ++ b ∷ bytes) (length front) 0 ≡ b
at_seam [] bytes b = refl
at_seam (x ∷ front) bytes b = at_seam front bytes b

shorter : (front bytes : List ℕ) (b : ℕ) → length front < length (front ++ b ∷ bytes)
shorter front bytes b = omega (arith, length-append front (b ∷ bytes))

pub before_ascii : (front bytes : List ℕ) (b : ℕ) → IsUtf8 (front ++ b ∷ bytes) → b < 128 → IsUtf8 front
before_ascii front bytes b u low =
    let cut = IsUtf8-take (front ++ b ∷ bytes) (length front) u
    (IsCharBoundary-before_ascii (front ++ b ∷ bytes) (length front) (shorter front bytes b)
    (omega (arith, at_seam front bytes b))) in
    subst (λ (text : List ℕ). IsUtf8 text) (take_at front (b ∷ bytes) (length front) refl) cut

pub following_ascii : (front bytes : List ℕ) (b : ℕ) → IsUtf8 (front ++ b ∷ bytes) → b < 128 → IsUtf8 bytes
following_ascii front bytes b u low =
    let cut = IsUtf8-drop (front ++ b ∷ bytes) (length front + 1) u
    (IsCharBoundary-after_ascii (front ++ b ∷ bytes) (length front) u (shorter front bytes b)
    (omega (arith, at_seam front bytes b))) in
    subst (λ (text : List ℕ). IsUtf8 text) (drop-append-add front (b ∷ bytes) 1) cut

escape_small : (c e : ℕ) → escaped_byte c ≡ Some e → (c < 128) × (e < 128)
escape_small c e h = (grind (arith, nat_tests), grind (arith, nat_tests))

text_escape_keeps : (c : ℕ) (front bytes more : List ℕ) (o : Option ℕ) → ((e : ℕ) → o ≡ Some e → (c < 128) × (e < 128))
    → option_map (λ e. e ∷ []) o ≡ Some more → IsUtf8 (front ++ 92 ∷ c ∷ bytes) → IsUtf8 ((front ++ more) ++ bytes)
text_escape_keeps c front bytes more None low h u = cc
text_escape_keeps c front bytes more (Some e) low h u =
    let small = low e refl in
    let one : more ≡ e ∷ [] = cc in
    let before = before_ascii front (c ∷ bytes) 92 u (omega arith) in
    let moved : IsUtf8 ((front ++ 92 ∷ []) ++ c ∷ bytes) =
    subst (λ (text : List ℕ). IsUtf8 text) (sym (append_assoc front (92 ∷ []) (c ∷ bytes))) u in
    let after = following_ascii (front ++ 92 ∷ []) bytes c moved small.0 in
    rw one (IsUtf8-append (front ++ e ∷ []) bytes
    (IsUtf8-append front (e ∷ []) before (IsUtf8-from_ascii (e ∷ []) (IsAscii-cons e [] small.1 IsAscii-nil))) after)

escape_keeps : (kind : Quoted) (c : ℕ) (front bytes more : List ℕ) → escape_of kind c ≡ Some more
    → IsUtf8 (front ++ 92 ∷ c ∷ bytes) → IsUtf8 ((front ++ more) ++ bytes)
escape_keeps in_text c front bytes more h u = text_escape_keeps c front bytes more (escaped_byte c) (escape_small c) h u
escape_keeps in_pattern c front bytes more h u =
    let two : more ≡ 92 ∷ c ∷ [] = cc in
    rw two (subst (λ (text : List ℕ). IsUtf8 text) (sym (append_assoc front (92 ∷ c ∷ []) bytes)) u)

pub ok_parts : (x y : List ℕ × ℕ)
    → let read : Result (List ℕ × ℕ) Fault = Ok x in read ≡ Ok y → (y.0 ≡ x.0) × (y.1 ≡ x.1)
ok_parts x y h = let same : y ≡ x = cc in (ap (λ p. p.0) same, ap (λ p. p.1) same)

pub record Fronted (front text : List ℕ) (last : ℕ) (read : Result (List ℕ × ℕ) Fault) : Type 0 where
  pub rest : List ℕ
  pub is : read ≡ Ok (rest, last)
  pub whole : text ≡ front ++ rest

pub fronted : (front text : List ℕ) (last : ℕ) (read : Result (List ℕ × ℕ) Fault)
    → with_prefix front read ≡ Ok (text, last) → Fronted front text last read
fronted front text last (Ok read) h =
    let parts = ok_parts (front ++ read.0, read.1) (text, last) h in
    record { rest = read.0; is = ap (λ place. Ok (read.0, place)) (sym parts.1); whole = parts.0 }
fronted front text last (Err fault) h = cc

pub record Escaped (text : List ℕ) (last : ℕ) (escape : Option (List ℕ))
    (read : Result (List ℕ × ℕ) Fault) : Type 0 where
  pub more : List ℕ
  pub some : escape ≡ Some more
  pub front : Fronted more text last read

pub escaped : (place : ℕ) (text : List ℕ) (last : ℕ) (escape : Option (List ℕ)) (read : Result (List ℕ × ℕ) Fault)
    → with_escape place escape read ≡ Ok (text, last) → Escaped text last escape read
escaped place text last (Some more) read h = record { more = more; some = refl; front = fronted more text last read h }
escaped place text last None read h = cc

joined : (front more rest text : List ℕ) → text ≡ more ++ rest → IsUtf8 ((front ++ more) ++ rest)
    → IsUtf8 (front ++ text)
joined front more rest text e u = rw e (subst (λ (bytes : List ℕ). IsUtf8 bytes) (append_assoc front more rest) u)

quoted_utf8 : (kind : Quoted) (start place : ℕ) (front bytes text : List ℕ) (last : ℕ) → IsUtf8 (front ++ bytes)
    → quoted_from kind start place bytes ≡ Ok (text, last) → IsUtf8 (front ++ text)
quoted_utf8 kind start place front [] text last u h = cc
quoted_utf8 kind start place front (b ∷ []) text last u h = elim (cases_Bool (nat_eq b 34)) [
  | inl q ↦ let h' = rw q at h in let empty : text ≡ [] = (ok_parts ([], place + 1) (text, last) h').0 in
      rw (empty, append-nil front) (before_ascii front [] b u (let e : b ≡ 34 = eqb-true b 34 q in omega arith))
  | inr q ↦ let h' = rw q at h in cc
]
quoted_utf8 kind start place front (b ∷ c ∷ bytes) text last u h = elim (cases_Bool (nat_eq b 34)) [
  | inl q ↦ let h' = rw q at h in let empty : text ≡ [] = (ok_parts ([], place + 1) (text, last) h').0 in
      rw (empty, append-nil front)
      (before_ascii front (c ∷ bytes) b u (let e : b ≡ 34 = eqb-true b 34 q in omega arith))
  | inr q ↦ let h' = rw q at h in elim (cases_Bool (nat_eq b 92)) [
    | inl s ↦ let e : b ≡ 92 = eqb-true b 92 s in
        let h'' = rw s at h' in
        let known = escaped place text last (escape_of kind c) (quoted_from kind start (place + 2) bytes) h'' in
        joined front known.more known.front.rest text known.front.whole
        (quoted_utf8 kind start (place + 2) (front ++ known.more) bytes known.front.rest last
        (escape_keeps kind c front bytes known.more known.some (subst (λ (x : ℕ). IsUtf8 (front ++ x ∷ c ∷ bytes)) e u))
        known.front.is)
    | inr s ↦
        let h'' = rw s at h' in
        let known = fronted (b ∷ []) text last (quoted_from kind start (place + 1) (c ∷ bytes)) h'' in
        joined front (b ∷ []) known.rest text known.whole
        (quoted_utf8 kind start (place + 1) (front ++ b ∷ []) (c ∷ bytes) known.rest last
        (subst (λ (x : List ℕ). IsUtf8 x) (sym (append_assoc front (b ∷ []) (c ∷ bytes))) u) known.is)
  ]
]

pub quoted_is_utf8 : (kind : Quoted) (start place : ℕ) (bytes text : List ℕ) (last : ℕ) → IsUtf8 bytes
    → quoted_from kind start place bytes ≡ Ok (text, last) → IsUtf8 text
quoted_is_utf8 kind start place bytes text last u h = quoted_utf8 kind start place [] bytes text last u h
