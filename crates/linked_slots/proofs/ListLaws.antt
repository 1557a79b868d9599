-- Laws of lists of ids.
use Rattle.std.proofs.Common.{◌≡◌, ◌≢◌, ℕ, suc, zero, ◌+◌, ◌<◌, ◌≤◌, ◌⊎◌, Bool, true, false, not, cond, eqb, List, []}
use Rattle.std.proofs.Common.{◌∷◌, ◌++◌, filter, length, replicate, arith, refl, sym, ◌∙◌, ap, inl, inr}
use Rattle.std.specs.List.{AllByRecursion}
use Rattle.std.proofs.lemmas.Bool.Decides.{nat_tests}
use Rattle.linked_slots.specs.IdLists.{list_at, times_in, times, IsListed, without, append_to}

pub bool_cases : (b : Bool) → (b ≡ true) ⊎ (b ≡ false)
bool_cases true = inl refl
bool_cases false = inr refl

pub eqb-same : (x : ℕ) → eqb x x ≡ true
eqb-same x = grind (arith, nat_tests)

pub eqb-true : (x y : ℕ) → eqb x y ≡ true → x ≡ y
eqb-true x y h = grind (arith, nat_tests)

pub eqb-false : (x y : ℕ) → x ≢ y → eqb x y ≡ false
eqb-false x y h = grind (arith, nat_tests)

pub eqb-apart : (x y : ℕ) → eqb x y ≡ false → x ≢ y
eqb-apart x y h = grind (arith, nat_tests)

abbrev pub remove_in : ℕ → List ℕ → List ℕ
remove_in id list = filter (λ other. not (eqb other id)) list

-- ---- how often an id is in a list
either : (b : Bool) (n : ℕ) → n ≡ cond b n n
either true n = refl
either false n = refl

parts : (b : Bool) (m n : ℕ) → cond b 0 m + cond b 0 n ≡ cond b 0 (m + n)
parts true m n = refl
parts false m n = refl

pub times_in-remove : (id q : ℕ) (xs : List ℕ) → times_in q (remove_in id xs) ≡ cond (eqb q id) 0 (times_in q xs)
times_in-remove id q [] = either (eqb q id) 0
times_in-remove id q (x ∷ xs) =
    elim (bool_cases (eqb x id)) [
      | inl here ↦ rw here (times_in-remove id q xs ∙ (elim (bool_cases (eqb q id)) [
        | inl same ↦ rw same refl
        | inr apart ↦
            (let no : eqb x q ≡ false = eqb-false x q (λ e. eqb-apart q id apart (sym e ∙ eqb-true x id here)) in
            rw (apart, no) refl)
      ]))
      | inr other ↦ rw (other, times_in-remove id q xs) (elim (bool_cases (eqb q id)) [
        | inl same ↦
            (let no : eqb x q ≡ false = eqb-false x q (λ e. eqb-apart x id other (e ∙ eqb-true q id same)) in
            rw (same, no) refl)
        | inr apart ↦ rw apart refl
      ])
    ]

pub times_in-push : (id q : ℕ) (xs : List ℕ) → times_in q (xs ++ id ∷ []) ≡ times_in q xs + cond (eqb id q) 1 0
times_in-push id q [] = omega arith
times_in-push id q (x ∷ xs) =
    elim (bool_cases (eqb x q)) [
      | inl here ↦ rw (here, times_in-push id q xs) (omega arith)
      | inr other ↦ rw (other, times_in-push id q xs) refl
    ]

pub times-without : (id q : ℕ) (lists : List (List ℕ)) → times q (without id lists) ≡ cond (eqb q id) 0 (times q lists)
times-without id q [] = either (eqb q id) 0
times-without id q (xs ∷ lists) =
    rw (times_in-remove id q xs, times-without id q lists) (parts (eqb q id) (times_in q xs) (times q lists))

pub times-append : (number id q : ℕ) (lists : List (List ℕ)) → number < length lists
    → times q (append_to number id lists) ≡ times q lists + cond (eqb id q) 1 0
times-append number id q [] h = absurd (omega (arith, h))
times-append zero id q (xs ∷ lists) h = rw (times_in-push id q xs) (omega arith)
times-append (suc number) id q (xs ∷ lists) h = rw (times-append number id q lists (omega (arith, h))) (omega arith)

pub times-at : (q number : ℕ) (lists : List (List ℕ)) → times_in q (list_at lists number) ≤ times q lists
times-at q number [] = omega arith
times-at q zero (xs ∷ lists) = omega arith
times-at q (suc number) (xs ∷ lists) = omega (arith, times-at q number lists)

pub listed_at : (q number : ℕ) (lists : List (List ℕ)) → 0 < times_in q (list_at lists number) → IsListed q lists
listed_at q number lists h = omega (arith, h, times-at q number lists)

-- ---- the list of a number
pub at-without : (id number : ℕ) (lists : List (List ℕ))
    → list_at (without id lists) number ≡ remove_in id (list_at lists number)
at-without id number [] = refl
at-without id zero (xs ∷ lists) = refl
at-without id (suc number) (xs ∷ lists) = at-without id number lists

pub at-append_same : (number id : ℕ) (lists : List (List ℕ)) → number < length lists
    → list_at (append_to number id lists) number ≡ list_at lists number ++ id ∷ []
at-append_same number id [] h = absurd (omega (arith, h))
at-append_same zero id (xs ∷ lists) h = refl
at-append_same (suc number) id (xs ∷ lists) h = at-append_same number id lists (omega (arith, h))

pub at-append_other : (number id other : ℕ) (lists : List (List ℕ)) → other ≢ number
    → list_at (append_to number id lists) other ≡ list_at lists other
at-append_other number id other [] h = refl
at-append_other zero id zero (xs ∷ lists) h = absurd (h refl)
at-append_other zero id (suc other) (xs ∷ lists) h = refl
at-append_other (suc number) id zero (xs ∷ lists) h = refl
at-append_other (suc number) id (suc other) (xs ∷ lists) h = at-append_other number id other lists (λ e. h (ap suc e))

pub length-without : (id : ℕ) (lists : List (List ℕ)) → length (without id lists) ≡ length lists
length-without id [] = refl
length-without id (xs ∷ lists) = ap suc (length-without id lists)

pub length-append_to : (number id : ℕ) (lists : List (List ℕ)) → length (append_to number id lists) ≡ length lists
length-append_to number id [] = refl
length-append_to zero id (xs ∷ lists) = refl
length-append_to (suc number) id (xs ∷ lists) = ap suc (length-append_to number id lists)

-- ---- empty lists
pub at-empty : (n number : ℕ) → list_at (replicate n []) number ≡ []
at-empty zero number = refl
at-empty (suc n) zero = refl
at-empty (suc n) (suc number) = at-empty n number

pub times-empty : (n q : ℕ) → times q (replicate n []) ≡ 0
times-empty zero q = refl
times-empty (suc n) q = omega (arith, times-empty n q)

pub length-empty : (n : ℕ) → length (replicate {A = List ℕ} n []) ≡ n
length-empty zero = refl
length-empty (suc n) = ap suc (length-empty n)

-- ---- a fact of each id of a list
pub all_listed : (P : ℕ → Type 0) (xs : List ℕ) → ((q : ℕ) → 0 < times_in q xs → P q) → AllByRecursion P xs
all_listed P [] h = tt
all_listed P (x ∷ xs) h = (
  h x (let one : times_in x (x ∷ xs) ≡ suc (times_in x xs) = rw (eqb-same x) refl in omega (arith, one)),
  all_listed P xs (λ q more. h q (elim (bool_cases (eqb x q)) [
    | inl here ↦ (let one : times_in q (x ∷ xs) ≡ suc (times_in q xs) = rw here refl in omega (arith, one))
    | inr apart ↦ (let one : times_in q (x ∷ xs) ≡ times_in q xs = rw apart refl in omega (arith, one, more))
  ])),
)
