-- How an exchange ends whose replies are written.
use Rattle.std.specs.Prelude.{◌≡◌, ℕ, ◌⊎◌, List, length, Ok, Err}
use Rattle.client_run.specs.Runs.{AddsRun, RunsTo}
use Rattle.client_run.specs.declared.outcome.Exchanged.{Exchanged}
use Rattle.client_run.specs.declared.outcome.RunFault.{RunFault}
use Rattle.command_io.specs.declared.ending.Ending.TheVariants.{WriteFailed, OutOfMemory}
use Rattle.framing.specs.Frames.{frames_of}
use Rattle.ports.specs.Calls.{LinksReport}
use Rattle.ports.specs.Counts.{Rose}
use Rattle.ports.specs.Writing.{Got, GotPrefix, SinkReport}
use Rattle.command_client.specs.Endings.{ending_of, ending_of_fault}
use Rattle.command_client.specs.Replies.{replies_from}
use Rattle.command_client.specs.declared.ending.ClientEnding.{ClientEnding}
use Rattle.command_client.specs.declared.ending.ClientEnding.TheVariants.{Shared}

-- the lines of all replies were written, and the command ends as the outcome says
pub record WritesAll (requests : ℕ) (exchanged : Exchanged) (old new : SinkReport)
    (ending : ClientEnding) : Type 0 where
  pub ended : ending ≡ ending_of exchanged.outcome (length exchanged.replies) requests
  pub lines : Got old.text (replies_from 0 exchanged.replies) new.text
  pub no_fault : new.faults ≡ old.faults

-- the same, or a prefix of them was, or memory ran out before
abbrev pub WritesReplies : ℕ → Exchanged → SinkReport → SinkReport → ClientEnding → Type 0
WritesReplies requests exchanged old new (Shared WriteFailed) =
    GotPrefix old.text (replies_from 0 exchanged.replies) new.text × Rose old.faults new.faults
WritesReplies requests exchanged old new (Shared OutOfMemory) = new ≡ old
WritesReplies requests exchanged old new ending = WritesAll requests exchanged old new ending

-- The requests are the frames in the stream. The exchange came to its end, and then its replies were written.
pub record WasHad (address stream : List ℕ) (limit : ℕ) (links links' : LinksReport) (out out' : SinkReport)
    (ending : ClientEnding) : Type 0 where
  pub exchanged : Exchanged
  pub ran : AddsRun links links' (RunsTo address stream limit (Ok exchanged))
  pub writes : WritesReplies (length (frames_of stream)) exchanged out out' ending

-- it did not come to its end, and nothing was written
pub record WasCut (address stream : List ℕ) (limit : ℕ) (links links' : LinksReport) (out out' : SinkReport)
    (ending : ClientEnding) : Type 0 where
  pub fault : RunFault
  pub ended : ending ≡ Shared (ending_of_fault fault)
  pub ran : AddsRun links links' (RunsTo address stream limit (Err fault))
  pub untouched : out' ≡ out

abbrev pub ExchangeEnds : List ℕ → List ℕ → ℕ → LinksReport → LinksReport → SinkReport → SinkReport → ClientEnding
    → Type 0
ExchangeEnds address stream limit links links' out out' ending =
    WasHad address stream limit links links' out out' ending ⊎ WasCut address stream limit links links' out out' ending
