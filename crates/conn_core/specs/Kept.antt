-- What is kept of links, as contracts see it.
use Rattle.std.specs.Prelude.{◌≡◌, ◌≢◌, ℕ, ◌<◌, nat_lt, Bool, true, false, List, length, slice_index_or, Option, Some}
use Rattle.std.specs.Prelude.{None}
use Rattle.ports.specs.declared.links.Want.{Want}

-- what is wanted of each link, and its value, at the same places, and the greatest number so far
pub record Kept (T : Type 0) : Type 0 where
  pub wants : List Want
  pub values : List T
  pub newest : Option ℕ

-- the number of the link at this place
abbrev pub number_at : List Want → ℕ → ℕ
number_at wants place =
    let want = slice_index_or wants place (record { link = 0; read = false; room = false }) in want.link

-- the numbers rise
abbrev pub AreRising : List Want → Type 0
AreRising wants = (i j : ℕ) → i < j → j < length wants → number_at wants i < number_at wants j

-- the number is above the newest one
abbrev pub is_newer : ℕ → Option ℕ → Bool
is_newer number None = true
is_newer number (Some newest) = nat_lt newest number

-- no number is above the newest one
abbrev pub AreOld : Option ℕ → List Want → Type 0
AreOld newest wants = (i : ℕ) → i < length wants → is_newer (number_at wants i) newest ≡ false

-- the want at this place has the number
abbrev pub HasNumberAt : ℕ → List Want → ℕ → Type 0
HasNumberAt number wants place = (place < length wants) × (number_at wants place ≡ number)

-- no want has the number
abbrev pub HasNoNumber : ℕ → List Want → Type 0
HasNoNumber number wants = (place : ℕ) → place < length wants → number_at wants place ≢ number

module _ {T : Type 0} where
  -- the link of this number is at this place, and at no other
  pub record IsAt (number : ℕ) (table : Kept T) (place : ℕ) : Type 0 where
    pub within : place < length table.values
    pub beside : length table.wants ≡ length table.values
    pub is : number_at table.wants place ≡ number
    pub only : (other : ℕ) → other < length table.wants → number_at table.wants other ≡ number → other ≡ place

  -- no link has this number
  abbrev pub IsAbsent : ℕ → Kept T → Type 0
  IsAbsent number table = HasNoNumber number table.wants
