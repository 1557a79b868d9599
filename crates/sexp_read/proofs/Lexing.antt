-- The tokens from a place on, piece by piece.
use Rattle.std.proofs.Common.{◌≡◌, ℕ, ◌+◌, ◌-◌, ◌<◌, ◌≤◌, nat_lt, List, [], ◌∷◌, length, drop, get_or, Some, None, Ok}
use Rattle.std.proofs.Common.{Err, refl, ap, ◌∙◌, arith, inl, inr, drop-cons, add-one}
use Rattle.std.proofs.Math.Seq.{drop-nil}
use Rattle.std.proofs.lemmas.Bool.{cases_Bool, ltb-true, ltb-false, le-ltb}
use Rattle.std.proofs.lemmas.List.{drop_all, drop-drop}
use Rattle.sexp_read.specs.declared.piece.Piece.{Piece}
use Rattle.sexp_read.specs.Tokens.{Fault, Lexed, lexed_from, lexed, with_tokens, tokens_in, and_then, piece_at}

-- the tokens from a place of the text on
abbrev pub rest : List ℕ → ℕ → Lexed
rest text place = lexed_from place place (drop place text)

drop_suc : (b : ℕ) (bytes : List ℕ) (n k : ℕ) → n ≡ k + 1 → drop n (b ∷ bytes) ≡ drop k bytes
drop_suc b bytes n k e = rw (e, add-one) refl

pub skipped : (next place : ℕ) (bytes : List ℕ) → place ≤ next
    → lexed_from next place bytes ≡ lexed_from next next (drop (next - place) bytes)
unfolding lexed_from
skipped next place [] h = rw (drop-nil {A = ℕ} (next - place)) refl
skipped next place (b ∷ bytes) h = elim (cases_Bool (nat_lt place next)) [
  | inl less ↦ let below : place < next = ltb-true place next less in
      rw (less, drop_suc b bytes (next - place) (next - (place + 1)) (omega arith))
      (skipped next (place + 1) bytes (omega arith))
  | inr equal ↦ let same : place ≡ next = (let above : next ≤ place = ltb-false place next equal in omega arith) in
      let none : next - place ≡ 0 = omega arith in
      rw (none, same) refl
]

byte_following : (text : List ℕ) (place : ℕ) → place < length text
    → drop place text ≡ get_or text place 0 ∷ drop (place + 1) text
byte_following text place h = drop-cons text place 0 h ∙ rw add-one refl

one_step : (text : List ℕ) (place : ℕ) → place < length text
    → rest text place
    ≡ and_then place (piece_at place (get_or text place 0) (drop (place + 1) text))
    (λ last. lexed_from last (place + 1) (drop (place + 1) text))
unfolding lexed_from
one_step text place h = rw (byte_following text place h, le-ltb place place (omega arith)) refl

jumped : (text : List ℕ) (place last : ℕ) → place < last
    → lexed_from last (place + 1) (drop (place + 1) text) ≡ rest text last
jumped text place last h =
    let sum : place + 1 + (last - (place + 1)) ≡ last = omega arith in
    skipped last (place + 1) (drop (place + 1) text) (omega arith)
    ∙ ap (λ bytes. lexed_from last last bytes)
    (drop-drop (last - (place + 1)) (place + 1) text ∙ ap (λ n. drop n text) sum)

pub rest_more : (text : List ℕ) (place last : ℕ) (piece : Piece) → place < length text → place < last
    → piece_at place (get_or text place 0) (drop (place + 1) text) ≡ Ok (piece, last)
    → rest text place ≡ with_tokens (tokens_in place piece last) (rest text last)
rest_more text place last piece h more e =
    one_step text place h ∙ rw e (ap (with_tokens (tokens_in place piece last)) (jumped text place last more))

pub rest_fault : (text : List ℕ) (place : ℕ) (fault : Fault) → place < length text
    → piece_at place (get_or text place 0) (drop (place + 1) text) ≡ Err fault
    → rest text place ≡ record { tokens = []; fault = Some fault }
rest_fault text place fault h e = one_step text place h ∙ rw e refl

pub rest_none : (text : List ℕ) (place : ℕ) → length text ≤ place
    → rest text place ≡ record { tokens = []; fault = None }
unfolding lexed_from
rest_none text place h = rw (drop_all place text h) refl

pub rest_all : (text : List ℕ) → lexed text ≡ rest text 0
unfolding lexed
rest_all text = refl
