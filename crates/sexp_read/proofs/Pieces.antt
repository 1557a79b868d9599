-- Where a piece ends.
use Rattle.std.proofs.Common.{◌≡◌, ℕ, ◌+◌, ◌<◌, ◌≤◌, List, [], ◌∷◌, length, drop, get_or, Ok, arith, subst, inl, inr}
use Rattle.std.proofs.lemmas.Bool.{cases_lt}
use Rattle.std.proofs.lemmas.Bool.Decides.{nat_tests}
use Rattle.std.proofs.lemmas.Str.{IsUtf8-drop, IsCharBoundary-after_ascii}
use Rattle.std.specs.Str.{IsUtf8}
use Rattle.sexp_read.specs.declared.piece.Class.TheVariants.{Quote, Run}
use Rattle.sexp_read.specs.Tree.{Atom}
use Rattle.sexp_read.specs.Bytes.{class_of, atom_of}
use Rattle.sexp_read.specs.Tokens.{placed}

class_of_large : (b : ℕ) → 128 ≤ b → class_of b ≡ Run
class_of_large b h = grind (arith, nat_tests)

pub quote_is_ascii : (b : ℕ) → class_of b ≡ Quote → b < 128
quote_is_ascii b h = elim (cases_lt b 128) [ inl small ↦ small | inr large ↦ let run = class_of_large b large in cc ]

pub following_quote : (text : List ℕ) (place : ℕ) → IsUtf8 text → place < length text
    → class_of (get_or text place 0) ≡ Quote → IsUtf8 (drop (place + 1) text)
following_quote text place u h e =
    IsUtf8-drop text (place + 1) u (IsCharBoundary-after_ascii text place u h (quote_is_ascii _ e))

pub following_second_quote : (text : List ℕ) (place : ℕ) → IsUtf8 text → place + 1 < length text
    → get_or text (place + 1) 0 ≡ 34 → IsUtf8 (drop (place + 2) text)
following_second_quote text place u h e =
    let two : place + 1 + 1 ≡ place + 2 = omega arith in
    subst (λ (n : ℕ). IsUtf8 (drop n text)) two
    (IsUtf8-drop text (place + 1 + 1) u (IsCharBoundary-after_ascii text (place + 1) u h (omega arith)))

pub run_is_some : (run : List ℕ) (start : ℕ) (atom : Atom) → placed start (atom_of run) ≡ Ok atom → 0 < length run
unfolding atom_of
run_is_some [] start atom h = cc
run_is_some (b ∷ run) start atom h = omega arith
