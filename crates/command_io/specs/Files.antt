-- What is known of a file that was read by its name, or could not be.
use Rattle.std.specs.Prelude.{◌≡◌, ℕ, ◌+◌, ◌≤◌, ◌⊎◌, true, false, List, [], ◌∷◌, ◌++◌, Option, Some, Result, Ok, Err}
use Rattle.std.specs.Option.{ForSome, option_map}
use Rattle.ports.specs.Counts.{Rose, RoseBy}
use Rattle.ports.specs.Reading.{IsOverLimit, StoreReport}
use Rattle.ports.specs.declared.store.StoreRead.{StoreRead}
use Rattle.command_io.specs.declared.read.FileFault.{FileFault}
use Rattle.command_io.specs.declared.read.FileFault.TheVariants.{Unread, TooLong, Memory}

-- One read of the file of the name gave this text, from what the store reports before and after. The text is what the
-- store holds, if it reports that. It alone was added to the files given, if these are reported.
pub record Gives (name text : List ℕ) (old new : StoreReport) : Type 0 where
  pub held : ForSome (old.held name) (λ held. held ≡ Some text)
  pub gave : new.gave ≡ option_map (λ gave. gave ++ (name, text) ∷ []) old.gave
  -- the store holds what it held, and no read failed
  pub same : new.held ≡ old.held
  pub quiet : new.faults ≡ old.faults
  pub taken : old.taken ≤ new.taken

-- one read of the file gave a text of which this is true
abbrev pub ForGiven : List ℕ → StoreReport → StoreReport → (List ℕ → Type 0) → Type 0
ForGiven name old new P = (text : List ℕ) × Gives name text old new × P text

-- no read gave a text
abbrev pub GivesNone : StoreReport → StoreReport → Type 0
GivesNone old new = new.gave ≡ old.gave

-- no read gave a text, or one did, of the file of the name
abbrev pub MayGive : List ℕ → StoreReport → StoreReport → Type 0
MayGive name old new = GivesNone old new ⊎ ((text : List ℕ) × Gives name text old new)

-- why the file of the name was not read, from what the store reports before and after
abbrev pub IsFileFault : List ℕ → ℕ → StoreReport → StoreReport → FileFault → Type 0
IsFileFault name limit old new Unread = Rose old.faults new.faults × GivesNone old new
IsFileFault name limit old new TooLong =
    IsOverLimit (old.held name) limit × RoseBy (limit + 1) old.taken new.taken × GivesNone old new
IsFileFault name limit old new Memory = GivesNone old new

abbrev pub good_read : List ℕ → StoreRead
good_read name = record { name = name; failed = false }

abbrev pub bad_read : List ℕ → StoreRead
bad_read name = record { name = name; failed = true }

-- the reads that are made where a file can't be read: none where memory ran out
abbrev pub reads_of_fault : List ℕ → FileFault → List StoreRead
reads_of_fault name Unread = bad_read name ∷ []
reads_of_fault name TooLong = good_read name ∷ []
reads_of_fault name Memory = []

-- those that are made for a file
abbrev pub reads_of : List ℕ → Result (List ℕ) FileFault → List StoreRead
reads_of name (Ok bytes) = good_read name ∷ []
reads_of name (Err fault) = reads_of_fault name fault

-- these reads more were made
abbrev pub ReadMore : List StoreRead → Option (List StoreRead) → Option (List StoreRead) → Type 0
ReadMore made old new = new ≡ option_map (λ reads. reads ++ made) old

abbrev pub read_name : StoreRead → List ℕ
read_name read = read.name

-- none of some reads failed
abbrev pub NoneFailed : List StoreRead → Type 0
NoneFailed [] = Unit {0}
NoneFailed (read ∷ reads) = (read.failed ≡ false) × NoneFailed reads

-- the last of some reads failed, and no other
abbrev pub LastFailed : List StoreRead → Type 0
LastFailed [] = ⊥
LastFailed (read ∷ []) = read.failed ≡ true
LastFailed (read ∷ (next ∷ reads)) = (read.failed ≡ false) × LastFailed (next ∷ reads)
