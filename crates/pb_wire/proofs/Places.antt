-- Texts at a place of the bytes.
use Rattle.std.proofs.Common.{◌≡◌, ℕ, ◌+◌, ◌-◌, ◌≤◌, List, ◌++◌, length, take, drop, refl, sym, ap, ◌∙◌, arith}
use Rattle.std.proofs.Common.{append_assoc, length-append, length-drop}
use Rattle.std.proofs.Math.Seq.{take-append-add}
use Rattle.std.proofs.lemmas.List.{take_at, drop_at, drop-drop, length-take-le, take-append-drop}
use Rattle.std.specs.List.{slice_range}

-- the bytes have the text at the place
pub record At (bytes : List ℕ) (place : ℕ) (text : List ℕ) : Type 0 where
  pub within : place ≤ length bytes
  pub rest : List ℕ
  pub is : drop place bytes ≡ text ++ rest

pub at_end : (bytes : List ℕ) (place : ℕ) (text : List ℕ) → At bytes place text → place + length text ≤ length bytes
at_end bytes place text at =
    let within = at.within in
    omega (arith, length-drop place bytes, ap (length {A = ℕ}) at.is, length-append text at.rest)

pub at_first : (bytes : List ℕ) (place : ℕ) (a b : List ℕ) → At bytes place (a ++ b) → At bytes place a
at_first bytes place a b at = record { within = at.within; rest = b ++ at.rest; is = at.is ∙ append_assoc a b at.rest }

pub at_next : (bytes : List ℕ) (place : ℕ) (a b : List ℕ) → At bytes place (a ++ b) → At bytes (place + length a) b
at_next bytes place a b at = record {
  within = at_end bytes place a (at_first bytes place a b at);
  rest = at.rest;
  is =
      sym (drop-drop (length a) place bytes) ∙ ap (drop (length a)) (at.is ∙ append_assoc a b at.rest)
      ∙ drop_at a (b ++ at.rest) (length a) refl;
}

pub at_slice : (bytes : List ℕ) (place : ℕ) (text : List ℕ) → At bytes place text
    → slice_range bytes place (place + length text) ≡ text
at_slice bytes place text at =
    let size : place + length text - place ≡ length text = omega arith in
    ap (λ (n : ℕ). take n (drop place bytes)) size ∙ ap (take (length text)) at.is
    ∙ take_at text at.rest (length text) refl

pub at_between : (bytes : List ℕ) (from past : ℕ) → from ≤ past → past ≤ length bytes
    → At bytes from (slice_range bytes from past)
at_between bytes from past order within = record {
  within = omega arith;
  rest = drop (past - from) (drop from bytes);
  is = sym (take-append-drop (past - from) (drop from bytes));
}

pub length_slice : (bytes : List ℕ) (from past : ℕ) → past ≤ length bytes
    → length (slice_range bytes from past) ≡ past - from
length_slice bytes from past within =
    length-take-le (past - from) (drop from bytes) (omega (arith, length-drop from bytes))

pub slice_split : (bytes : List ℕ) (from middle past : ℕ) → from ≤ middle → middle ≤ past → past ≤ length bytes
    → slice_range bytes from past ≡ slice_range bytes from middle ++ slice_range bytes middle past
unfolding at_between
slice_split bytes from middle past h k within =
    let front = at_between bytes from middle h (omega arith) in
    let size = length_slice bytes from middle (omega arith) in
    let rest : drop middle bytes ≡ front.rest =
    ap (λ (n : ℕ). drop n bytes) {x = middle} {y = from + (middle - from)} (omega arith)
    ∙ sym (drop-drop (middle - from) from bytes) in
    let whole : past - from ≡ length (slice_range bytes from middle) + (past - middle) = omega arith in
    ap (λ (n : ℕ). take n (drop from bytes)) whole
    ∙ ap (take (length (slice_range bytes from middle) + (past - middle))) front.is
    ∙ take-append-add (slice_range bytes from middle) front.rest (past - middle)
    ∙ ap (λ (more : List ℕ). slice_range bytes from middle ++ take (past - middle) more) (sym rest)
