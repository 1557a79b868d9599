-- What `replay CONFIG SCRIPT` promises.
use Rattle.std.specs.Prelude.{◌≡◌, ℕ, ◌≤◌, ◌⊎◌, List, length, Option, Ok, Err}
use Rattle.command_setup.specs.command_io.Endings.{IsComplete, IsDoneOrMemory, Says, status_of}
use Rattle.command_setup.specs.command_io.Reports.{IsIdle, Reports}
use Rattle.command_setup.specs.command_io.declared.ending.Ending.{Ending}
use Rattle.command_setup.specs.command_io.declared.ending.Ending.TheVariants.{Finished, WriteFailed, OutOfMemory}
use Rattle.command_setup.specs.command_io.declared.limits.TheConstants.{CONFIG_LIMIT, FILE_LIMIT}
use Rattle.command_setup.specs.command_io.declared.status.Status.{Status}
use Rattle.command_setup.specs.command_io.Accepting.{RefusesSetup}
use Rattle.command_setup.specs.Setups.{SetsUp, run_report_of}
use Rattle.command_files.specs.Files.{ReadsBoth, StopsAtConfig}
use Rattle.command_files.specs.Runs.{RunsScript, RunsWhole}
use Rattle.command_setup.specs.hub_run.declared.fault.RunFault.{RunFault}
use Rattle.command_setup.specs.hub_run.declared.fault.RunFault.TheVariants as cause
use Rattle.command_setup.specs.hub_run.declared.setup.Setup.{Setup}
use Rattle.script_text.specs.LinkLines.{link_lines}
use Rattle.ports.specs.Counts.{IsStill, Rose}
use Rattle.ports.specs.Reading.{IsHeld, StoreReport}
use Rattle.ports.specs.Writing.{Got, GotPrefix, SinkReport}
use Rattle.ports.specs.declared.entry.Entry.{Entry}
use Rattle.ports.specs.declared.script.Script.{Script}
use Rattle.script_text.specs.Scripts.{script_of}
use Rattle.command_setup.specs.sexp_config.declared.config.Config.{Config as Configuration}
use Rattle.command_setup.specs.sexp_config.Config.{IsConfigOf}
use Rattle.command_files.specs.Scripts.{IsScript, RefusesScript}

-- ---- the run

-- The run came to its last turn, and the notice lines of all turns were written. Then `Wrote` holds of the lines of the
-- links.
pub record PlaysAll (setup : Setup) (script : Script) (old new : Reports)
    (Wrote : Option (List ℕ) → List ℕ → Type 0) : Type 0 where
  pub run : List Entry
  -- what the output reported before the lines of the links
  pub before : SinkReport
  pub ran : RunsWhole setup script (run_report_of old old.out) (run_report_of new before) run
  pub wrote : Wrote before.text (link_lines script run)

-- the run was cut off, and no line of a link was written
pub record PlaysSome (setup : Setup) (script : Script) (old new : Reports) (fault : RunFault) : Type 0 where
  pub run : List Entry
  pub ran : RunsScript setup script (run_report_of old old.out) (run_report_of new new.out) (Err fault) run

-- a prefix of the lines of the links was written
abbrev pub PlaysPrefix : Setup → Script → Reports → Reports → Type 0
PlaysPrefix setup script old new = PlaysAll setup script old new (λ text lines. GotPrefix text lines new.out.text)

abbrev pub PlayEnds : Setup → Script → Reports → Reports → Ending → Type 0
PlayEnds setup script old new Finished = PlaysAll setup script old new (λ text lines. Got text lines new.out.text)
PlayEnds setup script old new WriteFailed = Rose old.out.faults new.out.faults
    × (PlaysSome setup script old new cause.Sink ⊎ PlaysPrefix setup script old new)
PlayEnds setup script old new OutOfMemory = (new.out.faults ≡ old.out.faults)
    × (PlaysSome setup script old new cause.Memory ⊎ PlaysPrefix setup script old new)
PlayEnds setup script old new _ = ⊥

-- ---- the command

-- the script was refused and nothing was run, or it was played
abbrev pub ScriptEnds : Setup → List ℕ → Reports → Reports → Ending → Type 0
ScriptEnds setup name old new ending =
    (RefusesScript name old.store new.store ending × (new.patterns ≡ old.patterns) × IsIdle old new)
    ⊎ ((script : Script) × IsScript name old.store new.store script × PlayEnds setup script old new ending)

-- The configuration was refused, nothing was run and the script was not read; or it was accepted, and both files were
-- read, one after the other: the store reported `mid` between the two reads. `Unasked` is that no pattern was asked for.
abbrev pub ReplayEnds : List ℕ → List ℕ → Reports → Reports → Type 0 → Ending → Type 0
ReplayEnds config script old new Unasked ending =
    (RefusesSetup config old.store new.store old.patterns new.patterns ending × IsIdle old new
    × StopsAtConfig config old.store.reads new.store.reads Unasked ending)
    ⊎ ((setup : Setup) × (mid : StoreReport) × SetsUp config old.store mid setup
    × ReadsBoth config script old.store.reads new.store.reads ending
    × ScriptEnds setup script (record old { store = mid }) new ending)

-- With files within their limits, a configuration, a script, no fault and no pattern refused, the script is played to
-- its end and all is written, or memory runs out.
abbrev pub ReplayCompletes : List ℕ → List ℕ → Reports → Reports → Status → Type 0
ReplayCompletes config script old new status = (text lines : List ℕ) (read : Configuration) (played : Script)
    → IsHeld (old.store.held config) text → IsConfigOf text read → length text ≤ CONFIG_LIMIT
    → IsHeld (old.store.held script) lines → script_of lines ≡ Ok played → length lines ≤ FILE_LIMIT
    → IsStill old.store.faults new.store.faults → IsStill old.out.faults new.out.faults
    → IsStill old.patterns.refusals new.patterns.refusals → IsDoneOrMemory status

-- `Unasked` is that no pattern was asked for.
pub record Replays (config script : List ℕ) (old new : Reports) (Unasked : Type 0) (status : Status) : Type 0 where
  -- how it ended, as the status and the line on the error stream say
  pub ending : Ending
  pub ended : status ≡ status_of ending
  pub says : Says ending old.err new.err
  -- why it ended so, and what was read, run and written
  pub ends : ReplayEnds config script old new Unasked ending
  -- the links that were handed in were not called
  pub untouched : new.links ≡ old.links
  -- where it did all that it had to, no read and no write of its lines failed
  pub quiet : IsComplete ending → (new.store.faults ≡ old.store.faults) × (new.out.faults ≡ old.out.faults)
  pub complete : ReplayCompletes config script old new status
