-- A list of two to five items is those items.
use Rattle.std.proofs.Common.{◌≡◌, ◌<◌, ◌≤◌, List, [], ◌∷◌, length, arith}
use Rattle.std.specs.Prelude.{slice_index_or}

pub two_words : {A : Type 0} (words : List A) (a b : A) → 2 ≤ length words → length words < 3
    → a ≡ slice_index_or words 0 a → b ≡ slice_index_or words 1 b
    → words ≡ a ∷ (b ∷ [])
two_words [] a b least most first second = absurd (omega arith)
two_words (x ∷ []) a b least most first second = absurd (omega arith)
two_words (x ∷ (y ∷ [])) a b least most first second = cc
two_words (x ∷ (y ∷ (z ∷ more))) a b least most first second = absurd (omega arith)

pub three_words : {A : Type 0} (words : List A) (a b c : A) → 3 ≤ length words → length words < 4
    → a ≡ slice_index_or words 0 a → b ≡ slice_index_or words 1 b
    → c ≡ slice_index_or words 2 c → words ≡ a ∷ (b ∷ (c ∷ []))
three_words [] a b c least most first second third = absurd (omega arith)
three_words (v ∷ []) a b c least most first second third = absurd (omega arith)
three_words (v ∷ (w ∷ [])) a b c least most first second third = absurd (omega arith)
three_words (v ∷ (w ∷ (x ∷ []))) a b c least most first second third = cc
three_words (v ∷ (w ∷ (x ∷ (y ∷ more)))) a b c least most first second third = absurd (omega arith)

pub four_words : {A : Type 0} (words : List A) (a b c d : A) → 4 ≤ length words → length words < 5
    → a ≡ slice_index_or words 0 a → b ≡ slice_index_or words 1 b
    → c ≡ slice_index_or words 2 c → d ≡ slice_index_or words 3 d → words ≡ a ∷ (b ∷ (c ∷ (d ∷ [])))
four_words [] a b c d least most first second third fourth = absurd (omega arith)
four_words (v ∷ []) a b c d least most first second third fourth = absurd (omega arith)
four_words (v ∷ (w ∷ [])) a b c d least most first second third fourth = absurd (omega arith)
four_words (v ∷ (w ∷ (x ∷ []))) a b c d least most first second third fourth = absurd (omega arith)
four_words (v ∷ (w ∷ (x ∷ (y ∷ [])))) a b c d least most first second third fourth = cc
four_words (v ∷ (w ∷ (x ∷ (y ∷ (z ∷ more))))) a b c d least most first second third fourth = absurd (omega arith)

pub five_words : {A : Type 0} (words : List A) (a b c d e : A) → 5 ≤ length words → length words < 6
    → a ≡ slice_index_or words 0 a → b ≡ slice_index_or words 1 b
    → c ≡ slice_index_or words 2 c → d ≡ slice_index_or words 3 d → e ≡ slice_index_or words 4 e
    → words ≡ a ∷ (b ∷ (c ∷ (d ∷ (e ∷ []))))
five_words [] a b c d e least most first second third fourth fifth = absurd (omega arith)
five_words (v ∷ []) a b c d e least most first second third fourth fifth = absurd (omega arith)
five_words (v ∷ (w ∷ [])) a b c d e least most first second third fourth fifth = absurd (omega arith)
five_words (v ∷ (w ∷ (x ∷ []))) a b c d e least most first second third fourth fifth = absurd (omega arith)
five_words (v ∷ (w ∷ (x ∷ (y ∷ [])))) a b c d e least most first second third fourth fifth = absurd (omega arith)
five_words (v ∷ (w ∷ (x ∷ (y ∷ (z ∷ []))))) a b c d e least most first second third fourth fifth = cc
five_words (v ∷ (w ∷ (x ∷ (y ∷ (z ∷ (u ∷ more)))))) a b c d e least most first second third fourth fifth =
    absurd (omega arith)
