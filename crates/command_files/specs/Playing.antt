-- What is known once the script was played.
use Rattle.std.specs.Prelude.{◌≡◌, ℕ, List}
use Rattle.command_setup.specs.command_io.declared.ending.Ending.{Ending}
use Rattle.command_setup.specs.command_io.declared.ending.Ending.TheVariants.{Finished, WriteFailed, OutOfMemory}
use Rattle.ports.specs.Counts.{Rose}
use Rattle.ports.specs.Writing.{Got, GotPrefix, SinkReport}

-- the lines were written, or a prefix of them
abbrev pub WritesLines : List ℕ → SinkReport → SinkReport → Ending → Type 0
WritesLines lines old new Finished = Got old.text lines new.text × (new.faults ≡ old.faults)
WritesLines lines old new WriteFailed = GotPrefix old.text lines new.text × Rose old.faults new.faults
WritesLines lines old new OutOfMemory = GotPrefix old.text lines new.text × (new.faults ≡ old.faults)
WritesLines lines old new _ = ⊥
