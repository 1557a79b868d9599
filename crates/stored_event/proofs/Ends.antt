-- Lists that are decided by their ends.
use Rattle.std.proofs.Common.{◌≡◌, ℕ, ◌+◌, ◌-◌, ◌*◌, ◌≤◌, List, ◌++◌, length, take, drop, ap, sym, ◌∙◌, arith}
use Rattle.std.proofs.lemmas.List.{take-append-drop, drop-drop}

-- lists that are the same from one place on are the same from a later one on
same_later : (a b : List ℕ) (n k : ℕ) → k ≤ n → drop k a ≡ drop k b → drop n a ≡ drop n b
same_later a b n k below same =
    let sum : k + (n - k) ≡ n = omega arith in
    ap (λ m. drop m a) (sym sum) ∙ sym (drop-drop (n - k) k a) ∙ ap (λ l. drop (n - k) l) same
    ∙ drop-drop (n - k) k b ∙ ap (λ m. drop m b) sum

-- a list of at most 2 n items is decided by the first n and the last n
pub ends_decide : (a b : List ℕ) (n : ℕ) → length a ≡ length b → n ≤ length a → length a ≤ 2 * n →
    take n a ≡ take n b → drop (length a - n) a ≡ drop (length b - n) b → a ≡ b
ends_decide a b n long least most first last =
    let rest : drop n a ≡ drop n b =
    same_later a b n (length a - n) (omega arith) (last ∙ ap (λ m. drop (m - n) b) (sym long)) in
    sym (take-append-drop n a) ∙ ap (λ l. l ++ drop n a) first ∙ ap (λ l. take n b ++ l) rest
    ∙ take-append-drop n b
