-- What is known once the file was fed.
use Rattle.std.specs.Prelude.{◌≡◌, ◌≢◌, ℕ, List, [], length}
use Rattle.command_setup.specs.command_io.declared.ending.Ending.{Ending}
use Rattle.command_setup.specs.command_io.declared.ending.Ending.TheVariants.{Finished, BytesLeft, WriteFailed}
use Rattle.ports.specs.Counts.{Rose}
use Rattle.ports.specs.Writing.{Got, GotPrefix, SinkReport}

-- the replies were written, or a prefix of them; `rest` are the bytes after the last whole frame
abbrev pub WritesReplies : List ℕ → List ℕ → SinkReport → SinkReport → Ending → Type 0
WritesReplies replies rest old new Finished = (rest ≡ []) × Got old.text replies new.text
WritesReplies replies rest old new (BytesLeft count) =
    (rest ≢ []) × (count ≡ length rest) × Got old.text replies new.text
WritesReplies replies rest old new WriteFailed = GotPrefix old.text replies new.text × Rose old.faults new.faults
WritesReplies replies rest old new _ = ⊥
