-- What a command reads: its configuration, and then its other file.
use Rattle.std.specs.Prelude.{◌≡◌, ℕ, ◌+◌, ◌≤◌, List, [], ◌∷◌, length, Option, Result, Ok, Err}
use Rattle.command_setup.specs.command_io.Endings.{HasNoConfig, IsReadOnce, ReadsFiles}
use Rattle.command_setup.specs.command_io.Files.{Gives, GivesNone, ReadMore, good_read}
use Rattle.command_setup.specs.command_io.declared.ending.Ending.{Ending}
use Rattle.command_setup.specs.command_io.declared.ending.Ending.TheVariants.{Finished, Unread, OverLimit, BytesLeft, WriteFailed}
use Rattle.command_setup.specs.command_io.declared.ending.Ending.TheVariants.{OutOfMemory}
use Rattle.command_setup.specs.command_io.declared.limits.TheConstants.{FILE_LIMIT}
use Rattle.ports.specs.Counts.{Rose, RoseBy}
use Rattle.ports.specs.Reading.{IsOverLimit, StoreReport}
use Rattle.ports.specs.declared.store.StoreRead.{StoreRead}

-- a read of the file of the name gave these bytes, which are within its limit, from what the store reports before and
-- after
abbrev pub IsFile : List ℕ → StoreReport → StoreReport → List ℕ → Type 0
IsFile name old new bytes = Gives name bytes old new × (length bytes ≤ FILE_LIMIT)

-- why the other file, the one of the name, was not read; the ending has this name and its limit
abbrev pub RefusesFile : List ℕ → StoreReport → StoreReport → Ending → Type 0
RefusesFile name old new (Unread unread) =
    Rose old.faults new.faults × (unread.now ≡ name) × GivesNone old new
RefusesFile name old new (OverLimit over limit) = IsOverLimit (old.held name) FILE_LIMIT
    × RoseBy (FILE_LIMIT + 1) old.taken new.taken × (over.now ≡ name) × (limit ≡ FILE_LIMIT)
    × GivesNone old new
RefusesFile name old new OutOfMemory = GivesNone old new
RefusesFile name old new _ = ⊥

-- the endings of a command whose server was run
abbrev pub IsAfterRun : Ending → Type 0
IsAfterRun Finished = Unit {0}
IsAfterRun (BytesLeft count) = Unit {0}
IsAfterRun WriteFailed = Unit {0}
IsAfterRun OutOfMemory = Unit {0}
IsAfterRun _ = ⊥

-- it is read once, unless memory ran out
abbrev pub OtherReads : List ℕ → Option (List StoreRead) → Option (List StoreRead) → Ending → Type 0
OtherReads name old new ending = ReadsFiles (name ∷ []) (IsReadOnce ending) old new ending

-- the same of a read that may go on
abbrev pub ReadsOther : {T : Type 0} → List ℕ → Option (List StoreRead) → Option (List StoreRead) → Result T Ending
    → Type 0
ReadsOther name old new (Ok read) = ReadMore (good_read name ∷ []) old new
ReadsOther name old new (Err ending) = OtherReads name old new ending

-- ---- both files

-- Where the configuration was refused it alone was read, and `Unasked`, which is that no pattern was asked for, holds
-- where there is none.
abbrev pub StopsAtConfig : List ℕ → Option (List StoreRead) → Option (List StoreRead) → Type 0 → Ending → Type 0
StopsAtConfig config old new Unasked ending =
    ReadsFiles (config ∷ []) (IsReadOnce ending) old new ending × (HasNoConfig ending → Unasked)

abbrev pub IsReadTwice : Ending → ℕ → Type 0
IsReadTwice OutOfMemory count = Unit {0}
IsReadTwice _ count = count ≡ 2

-- where it was accepted both were read, each once, unless memory ran out
abbrev pub ReadsBoth : List ℕ → List ℕ → Option (List StoreRead) → Option (List StoreRead) → Ending → Type 0
ReadsBoth config other old new ending = ReadsFiles (config ∷ (other ∷ [])) (IsReadTwice ending) old new ending
