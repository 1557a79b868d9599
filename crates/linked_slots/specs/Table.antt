-- A table of values, as contracts see it.
use Rattle.std.specs.Prelude.{◌≡◌, ◌≢◌, ℕ, List, Option, None, IsSome, is_some, count_by, slice_index_or}

-- the value at each number from 0 on, where there is one, and how many values fit into the memory of the table
pub record Table (T : Type 0) : Type 0 where
  pub values : List (Option T)
  pub room : ℕ

module _ {T : Type 0} where
  -- how many values there are
  abbrev pub count_of : Table T → ℕ
  count_of table = count_by is_some table.values

  -- the value at the number
  abbrev pub value_at : List (Option T) → ℕ → Option T
  value_at table number = slice_index_or table number None

  -- the number has a value
  abbrev pub IsLive : List (Option T) → ℕ → Type 0
  IsLive table number = IsSome (value_at table number)

  -- the number has this slot now, and every other number has what it had
  pub record Changes (old new : List (Option T)) (number : ℕ) (slot : Option T) : Type 0 where
    pub changed : value_at new number ≡ slot
    pub others : (other : ℕ) → other ≢ number → value_at new other ≡ value_at old other
