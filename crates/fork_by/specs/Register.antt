-- How the labels of a table's forks are kept: the number of each key, a slot for each number, the numbers in the order
-- of their moments, the moments at which forks are due, and what happened to the numbers.
use Rattle.std.specs.Prelude.{◌≡◌, ℕ, ◌<◌, ◌≤◌, ◌+◌, Bool, false, not, eqb, nat_le, List, [], ◌∷◌, ◌++◌, map, filter}
use Rattle.std.specs.Prelude.{length, slice_get, Option, None, Some, IsSome, if◌then◌else◌}
use Rattle.std.specs.List.{AllByRecursion, IsDistinct}
use Rattle.std.specs.Map.{keys_of}
use Rattle.std.specs.Option.{option_map}
use Rattle.ev_types.specs.declared.value.Value.{Value}
use Rattle.ev_types.specs.Key.{same_key}
use Rattle.linked_slots.specs.IdLists.{list_at, times, times_in}
use Rattle.tick_schedule.specs.Queue.{moment_at, IsRising}
use Rattle.fork_by.specs.declared.slots.Change.{Change}
use Rattle.fork_by.specs.declared.slots.Change.TheVariants.{Added, Removed}
use Rattle.fork_by.specs.declared.slots.Slot.{Slot}
use Rattle.fork_by.specs.Labels.{Label}
use Rattle.fork_by.specs.Order.{Pairwise, OrdersRise}
use Rattle.fork_by.specs.Slots.{slot_at, index_in, order_in, moment_in, held, place_in, with_index}

-- ---- the numbers that have forks, in the order in which these were added
abbrev pub removed : ℕ → List ℕ → List ℕ
removed number numbers = filter (λ other. not (eqb other number)) numbers

abbrev pub numbers_from : List ℕ → List (Change × Unit {0}) → List ℕ
numbers_from numbers [] = numbers
numbers_from numbers ((Added number, _) ∷ changes) = numbers_from (numbers ++ number ∷ []) changes
numbers_from numbers ((Removed number, _) ∷ changes) = numbers_from (removed number numbers) changes

abbrev pub numbers_after : List (Change × Unit {0}) → List ℕ
numbers_after changes = numbers_from [] changes

-- ---- the labels
abbrev pub key_in : Option (List Value × ℕ) → List Value
key_in None = []
key_in (Some entry) = entry.0

-- the number of the key at the index, if there is one
abbrev pub number_at : ℕ → List (List Value × ℕ) → Option ℕ
number_at index entries = option_map (λ entry. entry.1) (slice_get entries index)

abbrev pub is_number : ℕ → Option ℕ → Bool
is_number number None = false
is_number number (Some other) = eqb number other

-- the label of a number that has this slot
abbrev pub label_with : List (List Value × ℕ) → List (ℕ × ℕ) → ℕ → Option Slot → Label
label_with entries due number slot = record {
  key = key_in (slice_get entries (index_in slot));
  number = number;
  index = index_in slot;
  moment = moment_in slot;
  due = moment_at number due;
}

abbrev pub label_of : List (List Value × ℕ) → List (Option Slot) → List (ℕ × ℕ) → ℕ → Label
label_of entries slots due number = label_with entries due number (slot_at number slots)

abbrev pub labels_of : List (List Value × ℕ) → List (Option Slot) → List (ℕ × ℕ) → List ℕ → List Label
labels_of entries slots due numbers = map (label_of entries slots due) numbers

-- ---- what ties the parts
-- the moment of the last of the numbers, and 0 where there are none
abbrev pub latest_of : List (Option Slot) → Option ℕ → ℕ
latest_of slots None = 0
latest_of slots (Some number) = moment_in (slot_at number slots)

-- the number, if its moment is at or before `upto`
abbrev pub idle_among : ℕ → List (Option Slot) → Option ℕ → Option ℕ
idle_among upto slots None = None
idle_among upto slots (Some number) = if nat_le (moment_in (slot_at number slots)) upto then Some number else None

-- the numbers are in the order of their moments
abbrev pub MomentsRise : List (Option Slot) → List ℕ → Type 0
MomentsRise slots numbers =
    Pairwise (λ one later. moment_in (slot_at one slots) ≤ moment_in (slot_at later slots)) numbers

-- the slot of a number has the index of its key
pub record AreTied (entries : List (List Value × ℕ)) (slots : List (Option Slot)) : Type 0 where
  pub placed : (number index : ℕ) → place_in (slot_at number slots) ≡ Some index → number_at index entries ≡ Some number
  pub owned : (number index : ℕ) → number_at index entries ≡ Some number → place_in (slot_at number slots) ≡ Some index

pub record AreKept (entries : List (List Value × ℕ)) (slots : List (Option Slot)) (lists : List (List ℕ))
    (due : List (ℕ × ℕ)) (next : ℕ) (numbers : List ℕ) : Type 0 where
  pub one_list : length lists ≡ 1
  pub listed : (number : ℕ) → times number lists ≡ times_in number numbers
  pub live : (number : ℕ) → times_in number numbers ≡ held (slot_at number slots)
  pub many : length entries ≡ length numbers
  pub tied : AreTied entries slots
  pub keys : IsDistinct same_key (keys_of entries)
  pub orders : OrdersRise slots numbers
  pub below : AllByRecursion (λ number. order_in (slot_at number slots) < next) numbers
  pub moments : MomentsRise slots (list_at lists 0)
  pub due_live : (number : ℕ) → IsSome (moment_at number due) → 0 < times_in number numbers
  pub due_rises : IsRising due

-- the key at the index is gone, the last one is there in its place, and the number of that one has the index
pub record TakesOut (entries entries' : List (List Value × ℕ)) (slots slots' : List (Option Slot))
    (index : ℕ) : Type 0 where
  pub keys : IsDistinct same_key (keys_of entries')
  pub count : length entries' + 1 ≡ length entries
  pub entry : (i : ℕ)
      → slice_get entries' i
      ≡ (if eqb i (length entries') then None else if eqb i index then slice_get entries (length entries')
      else slice_get entries i)
  pub moved : (number : ℕ)
      → slot_at number slots'
      ≡ (if is_number number (number_at index entries') then with_index index (slot_at number slots)
      else slot_at number slots)
