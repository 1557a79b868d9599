-- What `serve CONFIG --turns N` promises.
use Rattle.std.specs.Prelude.{◌≡◌, ℕ, ◌≤◌, ◌⊎◌, List, [], ◌∷◌, length, Result, Ok, Err}
use Rattle.command_setup.specs.conn_core.declared.hub.Hub.{Hub}
use Rattle.command_setup.specs.hub_run.Runs.{AddsRun, RunsTo}
use Rattle.command_setup.specs.hub_run.declared.fault.RunFault.{RunFault}
use Rattle.command_setup.specs.hub_run.declared.fault.RunFault.TheVariants.{Links, Sink, Memory}
use Rattle.command_setup.specs.hub_run.declared.setup.Setup.{Setup}
use Rattle.ports.specs.Counts.{IsStill, Rose}
use Rattle.ports.specs.Reading.{IsHeld}
use Rattle.command_setup.specs.sexp_config.declared.config.Config.{Config}
use Rattle.command_setup.specs.sexp_config.Config.{IsConfigOf}
use Rattle.command_setup.specs.command_io.declared.ending.Ending.{Ending}
use Rattle.command_setup.specs.command_io.declared.ending.Ending.TheVariants.{Finished, WriteFailed, LinksFailed}
use Rattle.command_setup.specs.command_io.declared.ending.Ending.TheVariants.{OutOfMemory}
use Rattle.command_setup.specs.command_io.declared.limits.TheConstants.{CONFIG_LIMIT}
use Rattle.command_setup.specs.command_io.declared.status.Status.{Status}
use Rattle.command_setup.specs.command_io.Endings.{HasNoConfig, IsComplete, IsDoneOrMemory, IsReadOnce, ReadsFiles}
use Rattle.command_setup.specs.command_io.Endings.{Says, status_of}
use Rattle.command_setup.specs.command_io.Reports.{IsIdle, Reports}
use Rattle.command_setup.specs.command_io.Accepting.{RefusesSetup}
use Rattle.command_setup.specs.Endings.{ending_of_fault}
use Rattle.command_setup.specs.Setups.{SetsUp, run_report_of}

-- how it ends after such a run
abbrev pub ending_of_run : Result Hub RunFault → Ending
ending_of_run (Ok hub) = Finished
ending_of_run (Err fault) = ending_of_fault fault

-- the links were run on to this result, with notices written to the output
abbrev pub RanOn : Setup → ℕ → Reports → Reports → Result Hub RunFault → Type 0
RanOn setup turns old new result =
    AddsRun old.links new.links (RunsTo setup turns (run_report_of old old.out) (run_report_of new new.out) result)

-- What happened before it ended so, with the configuration in the file of the name. Where nothing was run, no link was
-- called.
abbrev pub ServeEnds : List ℕ → ℕ → Reports → Reports → Ending → Type 0
ServeEnds config turns old new Finished =
    (setup : Setup) × SetsUp config old.store new.store setup × ((hub : Hub) × RanOn setup turns old new (Ok hub))
ServeEnds config turns old new LinksFailed =
    (setup : Setup) × SetsUp config old.store new.store setup × RanOn setup turns old new (Err Links)
    × Rose old.links.faults new.links.faults
ServeEnds config turns old new WriteFailed =
    (setup : Setup) × SetsUp config old.store new.store setup × RanOn setup turns old new (Err Sink)
    × Rose old.out.faults new.out.faults
ServeEnds config turns old new OutOfMemory =
    (RefusesSetup config old.store new.store old.patterns new.patterns OutOfMemory × IsIdle old new)
    ⊎ ((setup : Setup) × SetsUp config old.store new.store setup × RanOn setup turns old new (Err Memory)
    × (new.links.faults ≡ old.links.faults) × (new.out.faults ≡ old.out.faults))
ServeEnds config turns old new ending =
    RefusesSetup config old.store new.store old.patterns new.patterns ending × IsIdle old new

-- with a configuration within its limit, no fault and no pattern refused, all turns are taken, or memory runs out
abbrev pub ServeCompletes : List ℕ → Reports → Reports → Status → Type 0
ServeCompletes config old new status = (text : List ℕ) (read : Config)
    → IsHeld (old.store.held config) text → IsConfigOf text read → length text ≤ CONFIG_LIMIT
    → IsStill old.store.faults new.store.faults → IsStill old.links.faults new.links.faults
    → IsStill old.out.faults new.out.faults → IsStill old.patterns.refusals new.patterns.refusals
    → IsDoneOrMemory status

-- `Unasked` is that no pattern was asked for.
pub record Serves (config : List ℕ) (turns : ℕ) (old new : Reports) (Unasked : Type 0) (status : Status) : Type 0 where
  -- how it ended, as the status and the line on the error stream say
  pub ending : Ending
  pub ended : status ≡ status_of ending
  pub says : Says ending old.err new.err
  -- the run, or why there was none
  pub ends : ServeEnds config turns old new ending
  -- what it read
  pub reads : ReadsFiles (config ∷ []) (IsReadOnce ending) old.store.reads new.store.reads ending
  -- patterns are asked for once there is a configuration
  pub unasked : HasNoConfig ending → Unasked
  -- where it did all that it had to, nothing failed
  pub quiet : IsComplete ending
      → (new.store.faults ≡ old.store.faults) × (new.links.faults ≡ old.links.faults)
      × (new.out.faults ≡ old.out.faults)
  pub complete : ServeCompletes config old new status
