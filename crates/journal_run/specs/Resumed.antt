-- What a run comes to that resumes a journal.
use Rattle.std.specs.Prelude.{◌≡◌, ℕ, ◌-◌, List, length, Some, Result}
use Rattle.disk_port.specs.Calls.{DiskReport}
use Rattle.disk_port.specs.Past.{Past, synced}
use Rattle.hub_run.specs.Runs.{RunReport, RunsQuietly}
use Rattle.hub_run.specs.conn_core.declared.hub.Hub.{Hub}
use Rattle.hub_run.specs.declared.setup.Setup.{Setup}
use Rattle.journal_format.specs.Journals.{Journal}
use Rattle.journal_format.specs.declared.finder.Found.{Found}
use Rattle.journal_format.specs.declared.turn_record.TurnRecord.{TurnRecord}
use Rattle.journal_links.specs.Resuming.{Resumes}
use Rattle.journal_run.specs.Recorded.{IsRecordedIn, run_result}
use Rattle.journal_run.specs.declared.fault.JournalRunFault.{JournalRunFault}
use Rattle.ports.specs.Calls.{LinksReport}
use Rattle.ports.specs.declared.entry.Entry.{Entry}
use Rattle.recorded_links.specs.Making.{LeadsTo}
use Rattle.journal_links.specs.Asking.{AsksOf}
use Rattle.journal_links.specs.Making.{resuming, unresumed}
use Rattle.journal_links.specs.Recording.{BeginAgain, MayResume, later_records}
use Rattle.turn_journal.specs.Standing.{Told}

-- Of a file that held the journal, in which its run was resumed since by these calls.
pub record IsResumedIn (journal : Journal) (start : Past) (calls : List Entry) (links : LinksReport)
    (now : Past) : Type 0 where
  -- the turns that were handed out are those of the journal, in order, and then others
  pub again : BeginAgain journal calls
  -- These others were recorded in it, as in a run that begins with this journal. One more may be that which the links
  -- gave last, or one in which a link of the journal broke.
  pub later : IsRecordedIn journal start (later_records journal calls) (MayResume journal.records links) now

-- so it is of the journal that was loaded from the disk's file, if the disk reports it
abbrev pub ResumesIn : Found → List TurnRecord → LinksReport → DiskReport → DiskReport → List Entry → Type 0
ResumesIn found records links' disk disk' calls =
    (past : Past) (config : List ℕ) → disk.past ≡ Some (synced past) → (resumes : Resumes past found config records)
    → ∥ Told disk'.past (IsResumedIn resumes.journal (synced past) calls links') ∥₁

-- A server was run over links that give the turns of a journal with these records again, and record those after them.
pub record RunsResumed (setup : Setup) (limit : ℕ) (found : Found) (records : List TurnRecord)
    (links links' : LinksReport)
    (disk disk' : DiskReport) (old new : RunReport) (result : Result Hub JournalRunFault) : Type 0 where
  -- the calls of these links, with each turn that was handed out
  pub calls : List Entry
  -- The lines of the journal's turns before its last were not put. Its first record is that of a `listen`.
  pub runs : RunsQuietly setup limit (length records - 2) old new (run_result result) calls
  -- Each of them does what links that keep a journal do: so it says what was asked, what the journal got, and what was
  -- given again.
  pub made : ∥ LeadsTo resuming (unresumed found records links disk) calls links' disk' ∥₁
  -- so these were made of the links that were lent
  pub asked : ∥ AsksOf records links links' calls ∥₁
  pub journal : ResumesIn found records links' disk disk' calls
