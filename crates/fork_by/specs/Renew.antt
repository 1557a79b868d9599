-- Orders that are given anew.
use Rattle.std.specs.Prelude.{◌≡◌, ℕ, suc, ◌<◌, eqb, List, [], ◌∷◌, Option, true, if◌then◌else◌}
use Rattle.std.specs.BTreeMap.{is_at}
use Rattle.std.specs.List.{AllByRecursion, list_any}
use Rattle.std.specs.Map.{values_of}
use Rattle.std.specs.Ordering.{nat_cmp}
use Rattle.ev_types.specs.declared.value.Value.{Value}
use Rattle.linked_slots.specs.IdLists.{times_in}
use Rattle.fork_by.specs.declared.slots.Slot.{Slot}
use Rattle.fork_by.specs.Order.{OrdersRise}
use Rattle.fork_by.specs.Slots.{slot_at, held, moment_in, order_in, place_in, with_order}

-- the slot of a number, once the numbers have the orders from `order` on
abbrev pub renewed : ℕ → ℕ → List ℕ → Option Slot → Option Slot
renewed q order [] slot = slot
renewed q order (number ∷ numbers) slot =
    renewed q (suc order) numbers (if eqb q number then with_order order slot else slot)

-- these are the numbers of the keys, by their orders, which are less than `next`
pub record AreOrdered (slots : List (Option Slot)) (entries : List (List Value × ℕ)) (next : ℕ)
    (numbers : List ℕ) : Type 0 where
  pub live : (number : ℕ) → times_in number numbers ≡ held (slot_at number slots)
  pub rise : OrdersRise slots numbers
  pub below : AllByRecursion (λ number. order_in (slot_at number slots) < next) numbers
  pub have_keys : (number : ℕ) → 0 < times_in number numbers
      → list_any (is_at (nat_cmp number)) (values_of entries) ≡ true
  pub of_keys : (number : ℕ) → list_any (is_at (nat_cmp number)) (values_of entries) ≡ true
      → 0 < times_in number numbers

-- the slots have other orders, by which the numbers are as they were, and which are less than `next`
pub record Renews (old new : List (Option Slot)) (next : ℕ) (numbers : List ℕ) : Type 0 where
  pub places : (number : ℕ) → place_in (slot_at number new) ≡ place_in (slot_at number old)
  pub moments : (number : ℕ) → moment_in (slot_at number new) ≡ moment_in (slot_at number old)
  pub rise : OrdersRise new numbers
  pub below : AllByRecursion (λ number. order_in (slot_at number new) < next) numbers
