-- What a disk reports, and why its calls answer so.
use Rattle.std.specs.Prelude.{◌≡◌, ℕ, ◌-◌, ◌≤◌, List, [], ◌∷◌, length, take, drop, min, Option, Result, Ok, Err}
use Rattle.list_laws.specs.Counts.{Rose}
use Rattle.disk_port.specs.Past.{Past}
use Rattle.disk_port.specs.declared.disk.DiskError.{DiskError}
use Rattle.disk_port.specs.declared.disk.DiskError.TheVariants.{Failed, Memory}

pub record DiskReport : Type 0 where
  -- what was done to the file, where the disk reports it
  pub past : Option Past
  -- the names that were opened, in order, where the disk reports them
  pub opened : Option (List (List ℕ))
  -- how many calls failed
  pub faults : ℕ

-- the count of faults rose, and did not fall
pub record Fails (old new : ℕ) : Type 0 where
  pub risen : Rose old new
  pub no_less : old ≤ new

-- why a call answered so, with the counts of faults before and after
abbrev pub HasCause : {T : Type 0} → ℕ → ℕ → Result T DiskError → Type 0
HasCause old new (Ok value) = new ≡ old
HasCause old new (Err Failed) = Fails old new
HasCause old new (Err Memory) = new ≡ old

-- the names that a call of `open` or `create` adds: none where it was out of memory
abbrev pub opened_by : List ℕ → Result Unit DiskError → List (List ℕ)
opened_by name (Ok done) = name ∷ []
opened_by name (Err Failed) = name ∷ []
opened_by name (Err Memory) = []

-- the buffer begins with the bytes from that place on, as many as there are and fit
pub record IsReadAt (place : ℕ) (text : List ℕ) (count : ℕ) (buf : List ℕ) : Type 0 where
  pub number : count ≡ min (length text - place) (length buf)
  pub bytes : take count buf ≡ take count (drop place text)
