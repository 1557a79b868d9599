-- The words of a line.
use Rattle.std.proofs.Common.{◌≡◌, ℕ, ◌<◌, ◌==◌, List, [], ◌∷◌, length, None, refl, ◌∙◌, ap, arith}
use Rattle.std.proofs.lemmas.List.Splits.{length-slice_split}
use Rattle.std.specs.List.{slice_split}
use Rattle.script_text.specs.Lines.{line_of_words}

abbrev pub parts : List ℕ → List (List ℕ)
parts line = slice_split (λ byte. byte == 32) line

-- more than four words
many_words : (a b c d : List ℕ) (tail : List (List ℕ)) → 0 < length tail
    → line_of_words (a ∷ b ∷ c ∷ d ∷ tail) ≡ None
many_words a b c d [] h = absurd (omega arith)
many_words a b c d (e ∷ tail) h = refl

some_parts : (line : List ℕ) → 0 < length (parts line)
some_parts line = let e = length-slice_split (λ byte. byte == 32) line in omega arith

pub of_more : (line a line₂ b line₃ c line₄ d line₅ : List ℕ) → parts line ≡ a ∷ parts line₂
    → parts line₂ ≡ b ∷ parts line₃ → parts line₃ ≡ c ∷ parts line₄ → parts line₄ ≡ d ∷ parts line₅
    → line_of_words (parts line) ≡ None
of_more line a line₂ b line₃ c line₄ d line₅ h i j k =
    ap line_of_words (h ∙ ap (λ tail. a ∷ tail) (i ∙ ap (λ tail. b ∷ tail) (j ∙ ap (λ tail. c ∷ tail) k)))
    ∙ many_words a b c d (parts line₅) (some_parts line₅)
