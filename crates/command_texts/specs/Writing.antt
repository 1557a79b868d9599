-- What is known once frames and lines were written.
use Rattle.std.specs.Prelude.{◌≡◌, ◌≢◌, ℕ, ◌⊎◌, List, []}
use Rattle.command_io.specs.declared.status.Status.{Status}
use Rattle.command_io.specs.declared.status.Status.TheVariants.{Done, Lines, SinkFault}
use Rattle.ports.specs.Counts.{Rose}
use Rattle.ports.specs.Writing.{Got, GotPrefix, SinkReport}

-- all bytes were written, with no fault; or a prefix of them, with one
pub record WritesAll (bytes : List ℕ) (old new : SinkReport) : Type 0 where
  pub got : Got old.text bytes new.text
  pub no_fault : new.faults ≡ old.faults

pub record WritesSome (bytes : List ℕ) (old new : SinkReport) : Type 0 where
  pub got : GotPrefix old.text bytes new.text
  pub fault : Rose old.faults new.faults

-- The frames were written to the output, and then the lines to the error stream, where there are some.
abbrev pub Writes : List ℕ → List ℕ → SinkReport → SinkReport → SinkReport → SinkReport → Status → Type 0
Writes frames lines out out' err err' Done = (lines ≡ []) × WritesAll frames out out' × (err' ≡ err)
Writes frames lines out out' err err' Lines = (lines ≢ []) × WritesAll frames out out' × WritesAll lines err err'
Writes frames lines out out' err err' SinkFault = (WritesSome frames out out' × (err' ≡ err))
    ⊎ ((lines ≢ []) × WritesAll frames out out' × WritesSome lines err err')
Writes frames lines out out' err err' _ = ⊥
