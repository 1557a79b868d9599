-- A text has no more tokens than bytes.
use Rattle.std.proofs.Common.{ℕ, suc, ◌+◌, ◌≤◌, Bool, true, false, cond, nat_lt, List, [], ◌∷◌, length, Result, Ok, Err}
use Rattle.std.proofs.Common.{arith}
use Rattle.sexp_read.specs.declared.piece.Piece.{Piece}
use Rattle.sexp_read.specs.declared.piece.Piece.TheVariants.{Blank, Opening, Closing, Whole}
use Rattle.sexp_read.specs.Tokens.{Fault, Lexed, and_then, piece_at, lexed_from, lexed}

one_of : (test : Bool) (n : ℕ) (x y : Lexed) → length x.tokens ≤ n → length y.tokens ≤ n
    → length (cond test x y).tokens ≤ n
one_of true n x y first second = first
one_of false n x y first second = second

one_more : (place n : ℕ) (read : Result (Piece × ℕ) Fault) (more : ℕ → Lexed)
    → ((last : ℕ) → length (more last).tokens ≤ n) → length (and_then place read more).tokens ≤ suc n
one_more place n (Err fault) more each = omega arith
one_more place n (Ok (Blank, last)) more each = omega (arith, each last)
one_more place n (Ok (Opening bracket, last)) more each = omega (arith, each last)
one_more place n (Ok (Closing bracket, last)) more each = omega (arith, each last)
one_more place n (Ok (Whole atom, last)) more each = omega (arith, each last)

few_from : (next place : ℕ) (bytes : List ℕ) → length (lexed_from next place bytes).tokens ≤ length bytes
unfolding lexed_from
few_from next place [] = omega arith
few_from next place (b ∷ bytes) =
    one_of (nat_lt place next) (suc (length bytes)) (lexed_from next (place + 1) bytes)
    (and_then place (piece_at place b bytes) (λ last. lexed_from last (place + 1) bytes))
    (omega (arith, few_from next (place + 1) bytes))
    (one_more place (length bytes) (piece_at place b bytes) (λ last. lexed_from last (place + 1) bytes)
    (λ last. few_from last (place + 1) bytes))

pub tokens_few : (text : List ℕ) → length (lexed text).tokens ≤ length text
unfolding lexed
tokens_few text = few_from 0 0 text
