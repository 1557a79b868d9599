-- What `resume JOURNAL` promises.
use Rattle.std.specs.Prelude.{◌≡◌, ℕ, List, Some}
use Rattle.command_setup.specs.Setups.{run_report_of}
use Rattle.command_setup.specs.command_io.Endings.{IsDoneOrMemory}
use Rattle.command_setup.specs.command_io.Reports.{Reports}
use Rattle.command_setup.specs.command_io.declared.status.Status.{Status}
use Rattle.command_setup.specs.sexp_config.Config.{IsConfigOf}
use Rattle.command_setup.specs.sexp_config.declared.config.Config.{Config}
use Rattle.disk_port.specs.Calls.{DiskReport}
use Rattle.disk_port.specs.Past.{Past, text_of}
use Rattle.journal_format.specs.Journals.{Holds, Journal}
use Rattle.ports.specs.Counts.{IsStill}
use Rattle.command_record.specs.Endings.{HasNoConfig, Says, status_of}
use Rattle.command_record.specs.Resuming.{ResumingEnds}
use Rattle.command_record.specs.Running.{HasCauses}
use Rattle.command_record.specs.declared.ending.JournalEnding.{JournalEnding}

-- With a file that holds a journal of a configuration, no fault and no pattern refused, all turns are taken, or memory
-- runs out.
abbrev pub ResumeCompletes : Reports → Reports → DiskReport → DiskReport → Status → Type 0
ResumeCompletes old new disk disk' status = (past : Past) (journal : Journal) (read : Config)
    → disk.past ≡ Some past → Holds journal (text_of past) → IsConfigOf journal.config read
    → IsStill old.links.faults new.links.faults → IsStill old.out.faults new.out.faults
    → IsStill disk.faults disk'.faults → IsStill old.patterns.refusals new.patterns.refusals → IsDoneOrMemory status

-- `disk` and `disk'` are what the disk reports, before and after. `Unasked` is that no pattern was asked for.
pub record Resumes (journal : List ℕ) (old new : Reports) (disk disk' : DiskReport) (Unasked : Type 0)
    (status : Status) : Type 0 where
  -- how it ended, as the status and the line on the error stream say
  pub ending : JournalEnding
  pub ended : status ≡ status_of ending
  pub says : Says ending old.err new.err
  -- the run and its journal, or why there are none
  pub ends : ResumingEnds journal old.links new.links disk disk' (run_report_of old old.out)
      (run_report_of new new.out) ending
  -- patterns are asked for once there is a configuration
  pub unasked : HasNoConfig ending → Unasked
  -- what failed, as the ending says
  pub causes : HasCauses old.links.faults new.links.faults old.out.faults new.out.faults disk.faults disk'.faults ending
  -- it reads no file of the store
  pub unread : new.store ≡ old.store
  pub complete : ResumeCompletes old new disk disk' status
