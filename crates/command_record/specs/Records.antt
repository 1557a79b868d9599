-- What `record CONFIG JOURNAL` promises.
use Rattle.std.specs.Prelude.{◌≡◌, ℕ, ◌≤◌, ◌⊎◌, List, length, Some}
use Rattle.command_setup.specs.Setups.{SetsUpText, run_report_of}
use Rattle.command_setup.specs.command_io.Accepting.{RefusesSetup}
use Rattle.command_setup.specs.command_io.Endings.{IsDoneOrMemory}
use Rattle.command_setup.specs.command_io.Reports.{IsIdle, Reports}
use Rattle.command_setup.specs.command_io.declared.ending.Ending.{Ending}
use Rattle.command_setup.specs.command_io.declared.limits.TheConstants.{CONFIG_LIMIT}
use Rattle.command_setup.specs.command_io.declared.status.Status.{Status}
use Rattle.command_setup.specs.hub_run.Runs.{RunReport}
use Rattle.command_setup.specs.hub_run.declared.setup.Setup.{Setup}
use Rattle.command_setup.specs.sexp_config.Config.{IsConfigOf}
use Rattle.command_setup.specs.sexp_config.declared.config.Config.{Config}
use Rattle.disk_port.specs.Calls.{DiskReport}
use Rattle.disk_port.specs.Past.{Past, text_of}
use Rattle.ports.specs.Calls.{LinksReport}
use Rattle.ports.specs.Counts.{IsStill}
use Rattle.ports.specs.Reading.{IsHeld, StoreReport}
use Rattle.turn_journal.specs.Beginning.{IsFree}
use Rattle.command_record.specs.Endings.{HasNoConfig, IsComplete, Says, status_of}
use Rattle.command_record.specs.Reading.{HasText, ReadsConfig}
use Rattle.command_record.specs.Running.{HasCauses, RecordingEnds}
use Rattle.command_record.specs.declared.ending.JournalEnding.{JournalEnding}
use Rattle.command_record.specs.declared.ending.JournalEnding.TheVariants.{Shared}

-- there is no configuration that a server can be run with, and nothing was done
pub record HasNoSetup (config : List ℕ) (old new : Reports) (disk disk' : DiskReport)
    (ending : JournalEnding) : Type 0 where
  pub shared : Ending
  pub ended : ending ≡ Shared shared
  pub refuses : RefusesSetup config old.store new.store old.patterns new.patterns shared
  pub idle : IsIdle old new
  pub uncalled : disk' ≡ disk

-- the file of the first name is this configuration, whose patterns were built; so ends what was done with it
pub record RecordsConfig (config journal : List ℕ) (store store' : StoreReport) (links links' : LinksReport)
    (disk disk' : DiskReport) (old new : RunReport) (ending : JournalEnding) : Type 0 where
  pub text : List ℕ
  pub setup : Setup
  pub has : HasText config store store' text
  pub sets : SetsUpText text setup
  pub ends : RecordingEnds journal text setup links links' disk disk' old new ending

abbrev pub RecordEnds : List ℕ → List ℕ → Reports → Reports → DiskReport → DiskReport → JournalEnding → Type 0
RecordEnds config journal old new disk disk' ending = HasNoSetup config old new disk disk' ending
    ⊎ RecordsConfig config journal old.store new.store old.links new.links disk disk' (run_report_of old old.out)
    (run_report_of new new.out) ending

-- With a configuration within its limit, a file that holds no journal, no fault and no pattern refused, all turns are
-- taken, or memory runs out.
abbrev pub RecordCompletes : List ℕ → Reports → Reports → DiskReport → DiskReport → Status → Type 0
RecordCompletes config old new disk disk' status = (text : List ℕ) (read : Config) (past : Past)
    → IsHeld (old.store.held config) text → IsConfigOf text read → length text ≤ CONFIG_LIMIT → disk.past ≡ Some past
    → IsFree (text_of past)
    → IsStill old.store.faults new.store.faults → IsStill old.links.faults new.links.faults
    → IsStill old.out.faults new.out.faults
    → IsStill disk.faults disk'.faults → IsStill old.patterns.refusals new.patterns.refusals → IsDoneOrMemory status

-- `disk` and `disk'` are what the disk reports, before and after. `Unasked` is that no pattern was asked for.
pub record Records (config journal : List ℕ) (old new : Reports) (disk disk' : DiskReport) (Unasked : Type 0)
    (status : Status) : Type 0 where
  -- how it ended, as the status and the line on the error stream say
  pub ending : JournalEnding
  pub ended : status ≡ status_of ending
  pub says : Says ending old.err new.err
  -- the run and its journal, or why there are none
  pub ends : RecordEnds config journal old new disk disk' ending
  -- what it read
  pub reads : ReadsConfig config old.store.reads new.store.reads ending
  -- patterns are asked for once there is a configuration
  pub unasked : HasNoConfig ending → Unasked
  -- what failed, as the ending says; where all turns were taken, the read did not
  pub causes : HasCauses old.links.faults new.links.faults old.out.faults new.out.faults disk.faults disk'.faults ending
  pub quiet : IsComplete ending → new.store.faults ≡ old.store.faults
  pub complete : RecordCompletes config old new disk disk' status
