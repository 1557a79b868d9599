-- What `feed CONFIG FILE` promises.
use Rattle.std.specs.Prelude.{◌≡◌, ◌≢◌, ℕ, ◌≤◌, ◌⊎◌, List, [], length, Ok, Err}
use Rattle.command_setup.specs.command_io.Endings.{IsComplete, Says, status_of}
use Rattle.command_setup.specs.command_io.Reports.{IsIdle, Reports}
use Rattle.command_setup.specs.command_io.declared.ending.Ending.{Ending}
use Rattle.command_setup.specs.command_io.declared.ending.Ending.TheVariants.{Finished, BytesLeft, WriteFailed, OutOfMemory}
use Rattle.command_setup.specs.command_io.declared.limits.TheConstants.{CONFIG_LIMIT, FILE_LIMIT}
use Rattle.command_setup.specs.command_io.declared.status.Status.{Status}
use Rattle.command_setup.specs.command_io.declared.status.Status.TheVariants.{Done, Memory, Truncated}
use Rattle.command_setup.specs.command_io.Accepting.{RefusesSetup}
use Rattle.command_setup.specs.Setups.{SetsUp, run_report_of}
use Rattle.command_setup.specs.conn_core.declared.hub.Hub.{Hub}
use Rattle.command_files.specs.Files.{IsFile, ReadsBoth, RefusesFile, StopsAtConfig}
use Rattle.command_files.specs.Runs.{RunsScript, most_turns}
use Rattle.framing.specs.Frames.{partial}
use Rattle.command_setup.specs.hub_meaning.Runs.{state_after}
use Rattle.command_setup.specs.hub_run.Runs.{RunsTo, config_at}
use Rattle.command_setup.specs.hub_run.Taken.{steps_of}
use Rattle.command_setup.specs.hub_run.declared.fault.RunFault.{RunFault}
use Rattle.command_setup.specs.hub_run.declared.fault.RunFault.TheVariants as cause
use Rattle.command_setup.specs.hub_run.declared.setup.Setup.{Setup}
use Rattle.ports.specs.Counts.{IsStill, Rose}
use Rattle.ports.specs.Pieces.{feed_script}
use Rattle.ports.specs.Playing.{IsScriptedRun}
use Rattle.ports.specs.Reading.{IsHeld, StoreReport}
use Rattle.ports.specs.Writing.{Got, GotPrefix, SinkReport}
use Rattle.ports.specs.declared.entry.Entry.{Entry}
use Rattle.ports.specs.declared.links.TheConstants.{PIECE_LIMIT}
use Rattle.command_setup.specs.hub_run.TakenBytes.{replies_on}
use Rattle.command_setup.specs.sexp_config.declared.config.Config.{Config as Configuration}
use Rattle.command_setup.specs.sexp_config.Config.{IsConfigOf}

-- ---- the run

-- The bytes came on link 0 in a run to its last turn, and the notice lines of all turns were written to the error
-- stream. Then `Wrote` holds of the replies on that link.
pub record FeedsAll (setup : Setup) (bytes : List ℕ) (old new : Reports) (Wrote : List ℕ → Type 0) : Type 0 where
  pub run : List Entry
  pub scripted : IsScriptedRun (feed_script PIECE_LIMIT bytes) run
  pub hub : Hub
  pub ran : RunsTo setup most_turns (run_report_of old old.err) (run_report_of new new.err) (Ok hub) run
  pub wrote : Wrote (replies_on 0 (state_after (config_at setup ran.secs) (steps_of ran.took.turns)).links)
  pub all_lines : new.err.faults ≡ old.err.faults

-- the run was cut off, and nothing was written to the output
pub record FeedsSome (setup : Setup) (bytes : List ℕ) (old new : Reports) (fault : RunFault) : Type 0 where
  pub run : List Entry
  pub ran : RunsScript setup (feed_script PIECE_LIMIT bytes) (run_report_of old old.err) (run_report_of new new.err)
      (Err fault) run
  pub no_reply : new.out ≡ old.out

abbrev pub BytesEnd : Setup → List ℕ → Reports → Reports → Ending → Type 0
BytesEnd setup bytes old new Finished =
    FeedsAll setup bytes old new (λ replies. Got old.out.text replies new.out.text) × (partial bytes ≡ [])
BytesEnd setup bytes old new (BytesLeft count) =
    FeedsAll setup bytes old new (λ replies. Got old.out.text replies new.out.text)
    × (partial bytes ≢ []) × (count ≡ length (partial bytes))
BytesEnd setup bytes old new WriteFailed =
    (FeedsSome setup bytes old new cause.Sink × Rose old.err.faults new.err.faults)
    ⊎ (FeedsAll setup bytes old new (λ replies. GotPrefix old.out.text replies new.out.text)
    × Rose old.out.faults new.out.faults)
BytesEnd setup bytes old new OutOfMemory = (IsIdle old new × (new.err ≡ old.err) × (new.patterns ≡ old.patterns))
    ⊎ (FeedsSome setup bytes old new cause.Memory × (new.err.faults ≡ old.err.faults))
BytesEnd setup bytes old new _ = ⊥

-- ---- the command

-- the file was refused and nothing was run, or it was fed
abbrev pub FileEnds : Setup → List ℕ → Reports → Reports → Ending → Type 0
FileEnds setup file old new ending =
    (RefusesFile file old.store new.store ending × (new.patterns ≡ old.patterns) × (new.err ≡ old.err) × IsIdle old new)
    ⊎ ((bytes : List ℕ) × IsFile file old.store new.store bytes × BytesEnd setup bytes old new ending)

-- The configuration was refused, nothing was run and the file was not read; or it was accepted, and both files were
-- read, one after the other: the store reported `mid` between the two reads. The error stream is as it was before the
-- line of the ending. `Unasked` is that no pattern was asked for.
abbrev pub FeedEnds : List ℕ → List ℕ → Reports → Reports → Type 0 → Ending → Type 0
FeedEnds config file old new Unasked ending =
    (RefusesSetup config old.store new.store old.patterns new.patterns ending × (new.err ≡ old.err) × IsIdle old new
    × StopsAtConfig config old.store.reads new.store.reads Unasked ending)
    ⊎ ((setup : Setup) × (mid : StoreReport) × SetsUp config old.store mid setup
    × ReadsBoth config file old.store.reads new.store.reads ending
    × FileEnds setup file (record old { store = mid }) new ending)

-- the status of a call that met no fault and no refusal, by the bytes after the last whole frame
abbrev pub HasFed : List ℕ → Status → Type 0
HasFed rest Done = rest ≡ []
HasFed rest Truncated = rest ≢ []
HasFed rest Memory = Unit {0}
HasFed rest _ = ⊥

-- With files within their limits, a configuration, no fault and no pattern refused, the file is fed to its end and all
-- is written, or memory runs out.
abbrev pub FeedCompletes : List ℕ → List ℕ → Reports → Reports → Status → Type 0
FeedCompletes config file old new status = (text bytes : List ℕ) (read : Configuration)
    → IsHeld (old.store.held config) text → IsConfigOf text read → length text ≤ CONFIG_LIMIT
    → IsHeld (old.store.held file) bytes → length bytes ≤ FILE_LIMIT
    → IsStill old.store.faults new.store.faults → IsStill old.out.faults new.out.faults
    → IsStill old.err.faults new.err.faults
    → IsStill old.patterns.refusals new.patterns.refusals → HasFed (partial bytes) status

-- `Unasked` is that no pattern was asked for.
pub record Feeds (config file : List ℕ) (old new : Reports) (Unasked : Type 0) (status : Status) : Type 0 where
  -- how it ended, as the status and the line on the error stream say
  pub ending : Ending
  pub ended : status ≡ status_of ending
  -- the error stream before that line
  pub before : SinkReport
  pub says : Says ending before new.err
  -- why it ended so, and what was read, run and written
  pub ends : FeedEnds config file old (record new { err = before }) Unasked ending
  -- the links that were handed in were not called
  pub untouched : new.links ≡ old.links
  -- where it did all that it had to, no read failed, and no write of a notice line or of the replies
  pub quiet : IsComplete ending
      → (new.store.faults ≡ old.store.faults) × (new.out.faults ≡ old.out.faults) × (before.faults ≡ old.err.faults)
  pub complete : FeedCompletes config file old new status
