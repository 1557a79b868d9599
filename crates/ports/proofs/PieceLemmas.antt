-- How bytes are cut into pieces, one after another.
use Rattle.std.proofs.Common.{◌≡◌, ℕ, ◌<◌, ◌≤◌, ◌==◌, Bool, true, false, cond, List, [], ◌∷◌, ◌++◌, length, map, take}
use Rattle.std.proofs.Common.{drop, min, suc, zero, refl, sym, ◌∙◌, ap, append_assoc, append-nil, length-drop, arith}
use Rattle.std.proofs.lemmas.List.{take_min}
use Rattle.std.proofs.lemmas.Bool.Decides.{nat_tests}
use Rattle.ports.specs.Pieces.{pieces_of, pieces_within, read_step}
use Rattle.ports.specs.declared.script.Step.{Step}

is_some : (bytes : List ℕ) → 0 < length bytes → (length bytes == 0) ≡ false
is_some bytes h = grind (arith, nat_tests)

is_none : (bytes : List ℕ) → length bytes ≤ 0 → (length bytes == 0) ≡ true
is_none bytes h = grind (arith, nat_tests)

-- no bytes have no pieces
none_within : (limit n : ℕ) (bytes : List ℕ) → length bytes ≤ 0 → pieces_within limit n bytes ≡ []
unfolding pieces_within
none_within limit zero bytes h = refl
none_within limit (suc n) bytes h =
    ap (λ b. cond b [] (take limit bytes ∷ pieces_within limit n (drop limit bytes))) (is_none bytes h)

first_within : (limit n : ℕ) (bytes : List ℕ) → 0 < length bytes
    → pieces_within limit (suc n) bytes ≡ take limit bytes ∷ pieces_within limit n (drop limit bytes)
unfolding pieces_within
first_within limit n bytes h =
    ap (λ b. cond b [] (take limit bytes ∷ pieces_within limit n (drop limit bytes))) (is_some bytes h)

-- there are no more pieces than bytes
same_within : (limit : ℕ) → 0 < limit → (m n : ℕ) (bytes : List ℕ) → length bytes ≤ m → length bytes ≤ n
    → pieces_within limit m bytes ≡ pieces_within limit n bytes
same_within limit some zero n bytes h k = none_within limit zero bytes h ∙ sym (none_within limit n bytes h)
same_within limit some (suc m) zero bytes h k =
    none_within limit (suc m) bytes k ∙ sym (none_within limit zero bytes k)
same_within limit some (suc m) (suc n) bytes h k =
    let P : Bool → Type 0 =
    λ b. (length bytes == 0) ≡ b → pieces_within limit (suc m) bytes ≡ pieces_within limit (suc n) bytes in
    let when_none : P true = λ e. let none : length bytes ≤ 0 = grind (arith, nat_tests) in
    none_within limit (suc m) bytes none ∙ sym (none_within limit (suc n) bytes none) in
    let when_some : P false = λ e. let more : 0 < length bytes = grind (arith, nat_tests) in
    first_within limit m bytes more
    ∙ (ap (λ xs. take limit bytes ∷ xs)
    (same_within limit some m n (drop limit bytes) (omega (arith, length-drop limit bytes))
    (omega (arith, length-drop limit bytes)))
    ∙ sym (first_within limit n bytes more)) in
    (elim (length bytes == 0) as P [ true ↦ when_none | false ↦ when_some ]) refl

pieces_more : (limit : ℕ) (bytes : List ℕ) → 0 < limit → 0 < length bytes
    → pieces_of limit bytes ≡ take limit bytes ∷ pieces_of limit (drop limit bytes)
pieces_more limit bytes some more =
    same_within limit some (length bytes) (suc (length bytes)) bytes (omega arith) (omega arith)
    ∙ (first_within limit (length bytes) bytes more
    ∙ ap (λ xs. take limit bytes ∷ xs)
    (same_within limit some (length bytes) (length (drop limit bytes)) (drop limit bytes)
    (omega (arith, length-drop limit bytes)) (omega arith)))

pub pieces_none : (limit : ℕ) (bytes : List ℕ) → length bytes ≤ 0 → map read_step (pieces_of limit bytes) ≡ []
pieces_none limit bytes h = ap (map read_step) (none_within limit (length bytes) bytes h)

drop_min : {A : Type 0} (n : ℕ) (xs : List A) → drop (min n (length xs)) xs ≡ drop n xs
drop_min zero xs = let e : min zero (length xs) ≡ zero = omega arith in ap (λ k. drop k xs) e
drop_min {A} (suc n) [] = let e : min (suc n) zero ≡ zero = omega arith in ap (λ k. drop {A = A} k []) e
drop_min (suc n) (x ∷ xs) =
    let e : min (suc n) (suc (length xs)) ≡ suc (min n (length xs)) = omega arith in
    ap (λ k. drop k (x ∷ xs)) e ∙ drop_min n xs

-- no bytes are left
pub pieces_done : (steps : List Step) (limit : ℕ) (rest : List ℕ) → length rest ≤ 0
    → steps ++ map read_step (pieces_of limit rest) ≡ steps
pieces_done steps limit rest none = ap (λ xs. steps ++ xs) (pieces_none limit rest none) ∙ append-nil steps

-- the first piece, and then the others
pub piece_more : (steps : List Step) (limit : ℕ) (bytes first more : List ℕ) → 0 < limit → 0 < length bytes
    → first ≡ take (min limit (length bytes)) bytes → more ≡ drop (min limit (length bytes)) bytes
    → (steps ++ read_step first ∷ []) ++ map read_step (pieces_of limit more)
    ≡ steps ++ map read_step (pieces_of limit bytes)
piece_more steps limit bytes first more some some_bytes first_is more_is =
    append_assoc steps (read_step first ∷ []) (map read_step (pieces_of limit more))
    ∙ ap (λ xs. steps ++ xs)
    (ap (λ x. read_step x ∷ map read_step (pieces_of limit more)) (first_is ∙ take_min limit bytes)
    ∙ (ap (λ xs. read_step (take limit bytes) ∷ map read_step (pieces_of limit xs)) (more_is ∙ drop_min limit bytes)
    ∙ ap (map read_step) (sym (pieces_more limit bytes some some_bytes))))
