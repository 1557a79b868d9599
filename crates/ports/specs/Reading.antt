-- What a store reports of itself, and what one read may answer.
use Rattle.std.specs.Prelude.{◌≡◌, ℕ, ◌+◌, ◌<◌, ◌≤◌, true, false, List, [], ◌∷◌, length, Option, Some}
use Rattle.std.specs.Option.{ForSome}
use Rattle.ports.specs.Counts.{Rose, RoseBy}
use Rattle.ports.specs.declared.store.ReadAnswer.{ReadAnswer}
use Rattle.ports.specs.declared.store.ReadAnswer.TheVariants.{Bytes, Failed, TooLong, Memory}
use Rattle.ports.specs.declared.store.StoreRead.{StoreRead}

-- the file of a name: None where the store does not report it, Some None where there is no such file
abbrev pub Content : Type 0
Content = Option (Option (List ℕ))

pub record StoreReport : Type 0 where
  -- the file of each name
  pub held : List ℕ → Content
  -- the reads so far that did not answer out of memory, in order, where it reports them
  pub reads : Option (List StoreRead)
  -- the name and the bytes of each file that a read gave, in order, where it reports them
  pub gave : Option (List (List ℕ × List ℕ))
  -- how many bytes were taken from files
  pub taken : ℕ
  -- how many reads failed
  pub faults : ℕ

-- the store reports that the file holds these bytes
abbrev pub IsHeld : Content → List ℕ → Type 0
IsHeld content bytes = content ≡ Some (Some bytes)

-- the file is longer than the limit, as far as the store reports it
abbrev pub IsOverLimit : Content → ℕ → Type 0
IsOverLimit content limit = ForSome content (λ held. (bytes : List ℕ) × (held ≡ Some bytes) × (limit < length bytes))

-- Why a read answered so. `faults` and `taken` are the store's counts of faults and of bytes taken, before and
-- after.
abbrev pub HasCause : Content → ℕ → ℕ → ℕ → ℕ → ℕ → ReadAnswer → Type 0
HasCause content limit faults faults' taken taken' (Bytes blob) =
    (length blob ≤ limit) × (ForSome content (λ held. held ≡ Some blob)) × (faults' ≡ faults)
    × (RoseBy (length blob) taken taken')
HasCause content limit faults faults' taken taken' Failed = Rose faults faults'
HasCause content limit faults faults' taken taken' TooLong =
    (IsOverLimit content limit) × (RoseBy (limit + 1) taken taken') × (faults' ≡ faults)
HasCause content limit faults faults' taken taken' Memory = (faults' ≡ faults) × (taken' ≡ taken)

-- the file that one call adds to those given
abbrev pub given_by : List ℕ → ReadAnswer → List (List ℕ × List ℕ)
given_by name (Bytes blob) = (name, blob) ∷ []
given_by name Failed = []
given_by name TooLong = []
given_by name Memory = []

-- the reads that one call adds to those made: none where it is out of memory
abbrev pub reads_made : List ℕ → ReadAnswer → List StoreRead
reads_made name (Bytes blob) = record { name = name; failed = false } ∷ []
reads_made name Failed = record { name = name; failed = true } ∷ []
reads_made name TooLong = record { name = name; failed = false } ∷ []
reads_made name Memory = []
