-- Numbers in the order in which their forks were added.
use Rattle.std.specs.Prelude.{ℕ, ◌<◌, List, [], ◌∷◌, Option, None, Some}
use Rattle.std.specs.BTreeMap.{insert_entry}
use Rattle.std.specs.List.{AllByRecursion}
use Rattle.std.specs.Ordering.{nat_cmp}
use Rattle.fork_by.specs.declared.slots.Slot.{Slot}
use Rattle.fork_by.specs.Slots.{slot_at, order_in}

-- it is true of each item and each later one
abbrev pub Pairwise : {X : Type 0} → (X → X → Type 0) → List X → Type 0
Pairwise R [] = Unit {0}
Pairwise R (x ∷ xs) = AllByRecursion (R x) xs × Pairwise R xs

-- the order of each number is less than those of the numbers after it
abbrev pub OrdersRise : List (Option Slot) → List ℕ → Type 0
OrdersRise slots numbers = Pairwise (λ one later. order_in (slot_at one slots) < order_in (slot_at later slots)) numbers

-- the entries, with the number of a slot under its order
abbrev pub put_one : List (ℕ × ℕ) → Option Slot → ℕ → List (ℕ × ℕ)
put_one entries None number = entries
put_one entries (Some slot) number = insert_entry nat_cmp entries slot.order number

-- the entries, with each of the numbers under the order of its slot
abbrev pub put_all : List (Option Slot) → List (ℕ × ℕ) → List ℕ → List (ℕ × ℕ)
put_all slots entries [] = entries
put_all slots entries (number ∷ numbers) = put_all slots (put_one entries (slot_at number slots) number) numbers
