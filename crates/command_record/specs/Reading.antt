-- The text of a configuration that was read.
use Rattle.std.specs.Prelude.{◌≡◌, ◌≤◌, List, ℕ, [], ◌∷◌, length, Option}
use Rattle.command_setup.specs.command_io.Endings.{IsReadOnce, ReadsFiles}
use Rattle.command_setup.specs.command_io.Files.{Gives, ReadMore, good_read}
use Rattle.command_setup.specs.command_io.declared.limits.TheConstants.{CONFIG_LIMIT}
use Rattle.ports.specs.Reading.{StoreReport}
use Rattle.ports.specs.declared.store.StoreRead.{StoreRead}
use Rattle.command_record.specs.declared.ending.JournalEnding.{JournalEnding}
use Rattle.command_record.specs.declared.ending.JournalEnding.TheVariants.{Shared}

-- a read of the file of the name gave this text, which is within the limit of a configuration, from what the store
-- reports before and after
abbrev pub HasText : List ℕ → StoreReport → StoreReport → List ℕ → Type 0
HasText name old new text = Gives name text old new × (length text ≤ CONFIG_LIMIT)

-- The file was read once, and the read failed exactly where the ending says so. If memory ran out, it may not have been
-- read.
abbrev pub ReadsConfig : List ℕ → Option (List StoreRead) → Option (List StoreRead) → JournalEnding → Type 0
ReadsConfig file old new (Shared ending) = ReadsFiles (file ∷ []) (IsReadOnce ending) old new ending
ReadsConfig file old new _ = ReadMore (good_read file ∷ []) old new
