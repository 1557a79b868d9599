-- What is unsent, in two buffers.
use Rattle.std.proofs.Common.{◌≡◌, ℕ, zero, suc, ◌-◌, ◌≤◌, List, [], ◌∷◌, ◌++◌, length, drop, ap, sym}
use Rattle.std.proofs.Common.{◌∙◌, arith, append-nil, length-drop}

drop_past : (front later : List ℕ) (count : ℕ) → length front ≤ count
    → drop count (front ++ later) ≡ drop (count - length front) later
drop_past [] later count all = ap (λ n. drop n later) (let same : count ≡ count - 0 = omega arith in same)
drop_past (byte ∷ front) later zero all = absurd (omega arith)
drop_past (byte ∷ front) later (suc count) all =
    drop_past front later count (omega arith)
    ∙ ap (λ n. drop n later) (let same : count - length front ≡ suc count - length (byte ∷ front) = omega arith in same)

-- the later buffer takes the place of the first one, of which all was taken
pub later_after : (count taken rest : ℕ) (first later first' later' : List ℕ) → rest ≡ length first - taken
    → rest ≤ count → first' ≡ later → later' ≡ []
    → drop (count - rest) first' ++ later' ≡ drop count (drop taken first ++ later)
later_after count taken rest first later first' later' is all moved emptied =
    let len : length (drop taken first) ≡ rest = length-drop taken first ∙ sym is in
    ap (λ bytes. drop (count - rest) first' ++ bytes) emptied ∙ append-nil (drop (count - rest) first')
    ∙ ap (drop (count - rest)) moved
    ∙ ap (λ n. drop (count - n) later) (sym len) ∙ sym (drop_past (drop taken first) later count (omega (arith, len)))
