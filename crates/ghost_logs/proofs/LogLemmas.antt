-- How the logs grow.
use Rattle.std.proofs.Common.{◌≡◌, ℕ, ◌+◌, ◌<◌, ◌≤◌, List, [], ◌∷◌, ◌++◌, length, take, get_or, sym, ◌∙◌, ap}
use Rattle.std.proofs.Common.{append_assoc, append-nil}
use Rattle.std.proofs.lemmas.List.{map-append, take_all, take_more}
use Rattle.ghost_logs.specs.Logs.{first_of_each}

pub one_more : {A : Type 0} → (items : List (A × ℕ)) (item : A) (n : ℕ)
    → first_of_each (items ++ (item, n) ∷ []) ≡ first_of_each items ++ item ∷ []
one_more {A} items item n = map-append (λ (pair : A × ℕ). pair.0) items ((item, n) ∷ [])

pub bytes_none : (start more : List ℕ) → start ≡ start ++ take 0 more
bytes_none start more = sym (append-nil start)

pub byte_more : (items : List (ℕ × ℕ)) (start more : List ℕ) (i byte : ℕ) → i < length more
    → byte ≡ get_or more i 0 → first_of_each items ≡ start ++ take i more
    → first_of_each (items ++ (byte, 0) ∷ []) ≡ start ++ take (i + 1) more
byte_more items start more i byte below is so_far =
    one_more items byte 0
    ∙ (ap (λ xs. xs ++ byte ∷ []) so_far
    ∙ (append_assoc start (take i more) (byte ∷ [])
    ∙ ap (λ xs. start ++ xs) (ap (λ b. take i more ++ b ∷ []) is ∙ sym (take_more more i 0 below))))

pub bytes_all : (start more : List ℕ) (i : ℕ) → length more ≤ i → start ++ take i more ≡ start ++ more
bytes_all start more i all = ap (λ xs. start ++ xs) (take_all i more all)
