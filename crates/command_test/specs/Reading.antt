-- What the command reads of one file.
use Rattle.std.specs.Prelude.{ℕ, ◌⊎◌, List, [], ◌∷◌, ◌++◌, Option}
use Rattle.command_io.specs.Files.{ReadMore, bad_read, good_read}
use Rattle.command_io.specs.declared.ending.Ending.TheVariants.{Unread, OutOfMemory}
use Rattle.ports.specs.declared.store.StoreRead.{StoreRead}
use Rattle.command_test.specs.declared.ending.TestsEnding.{TestsEnding}
use Rattle.command_test.specs.declared.ending.TestsEnding.TheVariants.{Shared}

-- After the reads before it the file was read once, and this read failed exactly where the ending says so. If memory
-- ran out, it may not have been read.
abbrev pub ReadsOnce : List StoreRead → List ℕ → Option (List StoreRead) → Option (List StoreRead) → TestsEnding
    → Type 0
ReadsOnce before name old new (Shared (Unread unread)) = ReadMore (before ++ bad_read name ∷ []) old new
ReadsOnce before name old new (Shared OutOfMemory) =
    ReadMore before old new ⊎ ReadMore (before ++ good_read name ∷ []) old new
ReadsOnce before name old new _ = ReadMore (before ++ good_read name ∷ []) old new
