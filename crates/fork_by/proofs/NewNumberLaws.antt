-- A number that no list has, and a key that no entry has.
use Rattle.std.proofs.Common.{◌≡◌, ℕ, suc, ◌+◌, ◌<◌, true, false, not, cond, eqb, List, [], ◌∷◌, ◌++◌, length, None}
use Rattle.std.proofs.Common.{Some, arith, refl, sym, ◌∙◌, ap, inl, inr}
use Rattle.indexmap.specs.IndexMap.{insert_entry}
use Rattle.std.specs.Map.{lookup}
use Rattle.ev_types.specs.declared.value.Value.{Value}
use Rattle.ev_types.specs.Key.{same_key}
use Rattle.linked_slots.specs.IdLists.{times, times_in, IsListed, without, append_to}
use Rattle.linked_slots.proofs.ListLaws.{bool_cases, eqb-same, times-append}
use Rattle.fork_by.specs.Register.{removed}

removed-none : (id : ℕ) (xs : List ℕ) → times_in id xs ≡ 0 → removed id xs ≡ xs
removed-none id [] none = refl
removed-none id (x ∷ xs) none =
    elim (bool_cases (eqb x id)) [
      | inl here ↦
          absurd (let one : times_in id (x ∷ xs) ≡ suc (times_in id xs) = rw here refl in omega (arith, one, none))
      | inr apart ↦
          rw apart (ap (λ ys. x ∷ ys)
          (removed-none id xs (let same : times_in id (x ∷ xs) ≡ times_in id xs = rw apart refl in sym same ∙ none)))
    ]

removed-push : (id : ℕ) (xs : List ℕ) → removed id (xs ++ id ∷ []) ≡ removed id xs
removed-push id [] = rw (eqb-same id) refl
removed-push id (x ∷ xs) =
    elim (eqb x id) as (λ b. cond (not b) (x ∷ removed id (xs ++ id ∷ [])) (removed id (xs ++ id ∷ []))
    ≡ cond (not b) (x ∷ removed id xs) (removed id xs))
    [ true ↦ removed-push id xs | false ↦ ap (λ ys. x ∷ ys) (removed-push id xs) ]

without-none : (id : ℕ) (lists : List (List ℕ)) → times id lists ≡ 0 → without id lists ≡ lists
without-none id [] none = refl
without-none id (xs ∷ lists) none =
    let here : times_in id xs ≡ 0 = omega (arith, none) in
    let rest : times id lists ≡ 0 = omega (arith, none) in
    ap (λ ys. ys ∷ without id lists) (removed-none id xs here) ∙ ap (λ ls. xs ∷ ls) (without-none id lists rest)

pub without-new : (id : ℕ) (lists : List (List ℕ)) → times id lists ≡ 0 → without id (append_to 0 id lists) ≡ lists
without-new id [] none = refl
without-new id (xs ∷ lists) none =
    let here : times_in id xs ≡ 0 = omega (arith, none) in
    let rest : times id lists ≡ 0 = omega (arith, none) in
    ap (λ ys. ys ∷ without id lists) (removed-push id xs ∙ removed-none id xs here)
    ∙ ap (λ ls. xs ∷ ls) (without-none id lists rest)

pub listed-new : (id : ℕ) (lists lists' new : List (List ℕ)) → 0 < length lists' → lists ≡ lists'
    → new ≡ append_to 0 id lists → IsListed id new
listed-new id lists lists' new more same is =
    let has : 0 < length lists =
    let len : length lists ≡ length lists' = ap (λ (ls : List (List ℕ)). length ls) same in omega (arith, len, more) in
    let one : times id new ≡ times id lists + 1 =
    ap (times id) is ∙ times-append 0 id id lists has ∙ ap (λ b. times id lists + cond b 1 0) (eqb-same id) in
    omega (arith, one)

pub inserted-new : (entries : List (List Value × ℕ)) (key : List Value) (number : ℕ)
    → lookup (same_key key) entries ≡ None → insert_entry same_key entries key number ≡ entries ++ (key, number) ∷ []
inserted-new [] key number none = refl
inserted-new (e ∷ entries) key number none =
    elim (bool_cases (same_key key e.0)) [
      | inl here ↦ absurd (let some : lookup (same_key key) (e ∷ entries) ≡ Some e.1 = rw here refl in cc)
      | inr apart ↦
          rw apart (ap (λ es. e ∷ es)
          (inserted-new entries key number
          (sym (ap (λ b. cond b (Some e.1) (lookup (same_key key) entries)) apart) ∙ none)))
    ]
