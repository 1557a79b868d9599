-- What is kept of forks, by number.
use Rattle.std.specs.Prelude.{◌≡◌, ℕ, eqb, List, slice_index_or, Option, None, Some, if◌then◌else◌}
use Rattle.fork_by.specs.declared.slots.Slot.{Slot}

-- what is kept under the number, if it has a fork
abbrev pub slot_at : ℕ → List (Option Slot) → Option Slot
slot_at number slots = slice_index_or slots number None

-- the number has this slot or none now, and every other number has what it had
abbrev pub SetsSlot : List (Option Slot) → List (Option Slot) → ℕ → Option Slot → Type 0
SetsSlot old new number slot = (other : ℕ) → slot_at other new ≡ (if eqb other number then slot else slot_at other old)

-- ---- the parts of a slot
abbrev pub index_in : Option Slot → ℕ
index_in None = 0
index_in (Some slot) = slot.index

abbrev pub place_in : Option Slot → Option ℕ
place_in None = None
place_in (Some slot) = Some slot.index

abbrev pub order_in : Option Slot → ℕ
order_in None = 0
order_in (Some slot) = slot.order

abbrev pub moment_in : Option Slot → ℕ
moment_in None = 0
moment_in (Some slot) = slot.moment

-- one where there is a slot
abbrev pub held : Option Slot → ℕ
held None = 0
held (Some slot) = 1

abbrev pub slot_with : ℕ → ℕ → ℕ → Slot
slot_with index order moment = record { index = index; order = order; moment = moment }

-- the slot, with another index, moment or order
abbrev pub with_index : ℕ → Option Slot → Option Slot
with_index index None = None
with_index index (Some slot) = Some (slot_with index slot.order slot.moment)

abbrev pub at_moment : ℕ → Option Slot → Option Slot
at_moment moment None = None
at_moment moment (Some slot) = Some (slot_with slot.index slot.order moment)

abbrev pub with_order : ℕ → Option Slot → Option Slot
with_order order None = None
with_order order (Some slot) = Some (slot_with slot.index order slot.moment)
