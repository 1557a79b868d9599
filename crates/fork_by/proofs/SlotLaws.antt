-- Laws of slots by number.
use Rattle.std.proofs.Common.{◌≡◌, ℕ, suc, zero, ◌<◌, ◌≤◌, cond, eqb, List, [], ◌∷◌, ◌++◌, length}
use Rattle.std.proofs.Common.{Option, None, Some, arith, refl, sym, subst, ◌∙◌, ap, inl, inr}
use Rattle.linked_slots.proofs.ListLaws.{bool_cases, eqb-true}
use Rattle.fork_by.specs.declared.slots.Slot.{Slot}
use Rattle.fork_by.specs.Register.{is_number}
use Rattle.fork_by.specs.Slots.{slot_at, SetsSlot, with_index}

pub has_slot : (number : ℕ) (slots : List (Option Slot)) (slot : Slot) → slot_at number slots ≡ Some slot
    → number < length slots
has_slot number [] slot h = absurd (cc)
has_slot zero (first ∷ slots) slot h = omega (arith)
has_slot (suc number) (first ∷ slots) slot h =
    let rest : number < length slots = has_slot number slots slot h in omega (arith, rest)

pub none_at : (number : ℕ) → slot_at number [] ≡ None
none_at zero = refl
none_at (suc number) = refl

pub slot_grown : (number : ℕ) (slots : List (Option Slot)) → slot_at number (slots ++ None ∷ []) ≡ slot_at number slots
slot_grown zero [] = refl
slot_grown (suc number) [] = none_at number
slot_grown zero (slot ∷ slots) = refl
slot_grown (suc number) (slot ∷ slots) = slot_grown number slots

-- a number without a slot stays without one
pub slot_unset : (number : ℕ) (slots : List (Option Slot)) → slot_at number slots ≡ None
    → SetsSlot slots slots number None
slot_unset number slots h other =
    elim (bool_cases (eqb other number)) [
      | inl same ↦ rw same (ap (λ n. slot_at n slots) (eqb-true other number same) ∙ h)
      | inr apart ↦ rw apart refl
    ]

-- the slot of a number is changed, if it has one
pub unset-changed : (slots : List (Option Slot)) (number : ℕ) (change : Option Slot → Option Slot)
    → slot_at number slots ≡ None → change None ≡ None → SetsSlot slots slots number (change (slot_at number slots))
unset-changed slots number change none same =
    subst (λ (o : Option Slot). SetsSlot slots slots number o) (sym (ap change none ∙ same))
    (slot_unset number slots none)

pub set-changed : (slots slots' : List (Option Slot)) (number : ℕ) (slot : Slot) (change : Option Slot → Option Slot)
    → slot_at number slots ≡ Some slot → SetsSlot slots slots' number (change (Some slot))
    → SetsSlot slots slots' number (change (slot_at number slots))
set-changed slots slots' number slot change at sets =
    subst (λ (o : Option Slot). SetsSlot slots slots' number (change o)) (sym at) sets

-- the slot of the number that is at an index, if there is one, has the index
pub moved_some : (slots slots' : List (Option Slot)) (index number : ℕ) (o : Option ℕ) → o ≡ Some number
    → SetsSlot slots slots' number (with_index index (slot_at number slots))
    → (q : ℕ) → slot_at q slots' ≡ cond (is_number q o) (with_index index (slot_at q slots)) (slot_at q slots)
moved_some slots slots' index number o is sets q =
    sets q
    ∙ elim (bool_cases (eqb q number)) [
      | inl same ↦
          (let at : q ≡ number = eqb-true q number same in
          rw (is, same) (ap (λ n. with_index index (slot_at n slots)) (sym at)))
      | inr apart ↦ rw (is, apart) refl
    ]

pub moved_none : (slots : List (Option Slot)) (index : ℕ) (o : Option ℕ) → o ≡ None → (q : ℕ)
    → slot_at q slots ≡ cond (is_number q o) (with_index index (slot_at q slots)) (slot_at q slots)
moved_none slots index o is q = rw is refl
