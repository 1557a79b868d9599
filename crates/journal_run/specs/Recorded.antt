-- What a run comes to whose turns are recorded.
use Rattle.std.specs.Prelude.{◌≡◌, ℕ, List, Some, None, Result, Ok, Err}
use Rattle.disk_port.specs.Calls.{DiskReport}
use Rattle.disk_port.specs.Past.{Leaves, LeavesOnly, Past}
use Rattle.hub_run.specs.Runs.{RunReport, RunsTo}
use Rattle.hub_run.specs.conn_core.declared.hub.Hub.{Hub}
use Rattle.hub_run.specs.declared.fault.RunFault.{RunFault}
use Rattle.hub_run.specs.declared.fault.RunFault.TheVariants as run
use Rattle.hub_run.specs.declared.setup.Setup.{Setup}
use Rattle.journal_format.specs.Journals.{Journal}
use Rattle.journal_format.specs.declared.finder.Found.{Found}
use Rattle.journal_format.specs.declared.turn_record.TurnRecord.{TurnRecord}
use Rattle.journal_run.specs.declared.fault.JournalRunFault.{JournalRunFault}
use Rattle.journal_run.specs.declared.fault.JournalRunFault.TheVariants.{Links, Disk, Sink, Memory}
use Rattle.ports.specs.Calls.{LinksReport}
use Rattle.ports.specs.declared.entry.Entry.{Entry}
use Rattle.recorded_links.specs.Giving.{MayFollow}
use Rattle.recorded_links.specs.Laws.{AreAll, AreFirst, HoldsMore}
use Rattle.recorded_links.specs.Lending.{Passed}
use Rattle.recorded_links.specs.Making.{LeadsTo, recording, uncalled}
use Rattle.recorded_links.specs.Noting.{noted}
use Rattle.recorded_links.specs.Recording.{AreRecorded}
use Rattle.turn_journal.specs.Standing.{Stands, Told}

-- how the run ended for the hub, which knows of no disk: its links failed
abbrev pub run_result : Result Hub JournalRunFault → Result Hub RunFault
run_result (Ok hub) = Ok hub
run_result (Err Links) = Err run.Links
run_result (Err Disk) = Err run.Links
run_result (Err Sink) = Err run.Sink
run_result (Err Memory) = Err run.Memory

-- Of a file that held the journal, in which these turns were recorded since. `next` says which turn may be one more.
pub record IsRecordedIn (journal : Journal) (start : Past) (turns : List TurnRecord) (next : TurnRecord → Type 0)
    (now : Past) : Type 0 where
  -- their records were kept one after another; that each was kept before its turn was handed out, `made` says
  pub recorded : AreRecorded journal start turns next now
  -- a crash at any moment leaves the journal with the first of the turns, or with all and one more
  pub at_any_moment : LeavesOnly start now (HoldsMore journal (AreFirst turns next))
  -- a crash now leaves the journal with all of them, or with all and one more
  pub last : (image : List ℕ) → Leaves now image → HoldsMore journal (AreAll turns next) image

-- So it is of the journal that ends there in the disk's file and the turns of these calls, if the disk reports its
-- file. One more may be that which the links gave last.
abbrev pub RecordsIn : Found → LinksReport → DiskReport → DiskReport → List Entry → Type 0
RecordsIn found links' disk disk' calls =
    (journal : Journal) (start : Past) → disk.past ≡ Some start → Stands start found.gate found.has_record journal
    → ∥ Told disk'.past (IsRecordedIn journal start (noted calls).records (MayFollow None 0 links')) ∥₁

-- A server was run over links that record.
pub record RunsRecorded (setup : Setup) (limit : ℕ) (found : Found) (links links' : LinksReport)
    (disk disk' : DiskReport) (old new : RunReport) (result : Result Hub JournalRunFault) : Type 0 where
  -- the calls of the links that record, with each turn that was handed out
  pub calls : List Entry
  pub runs : RunsTo setup limit old new (run_result result) calls
  -- Each of them does what links that record do: so it says what was asked, and what the journal got before the answer.
  pub made : ∥ LeadsTo recording (uncalled 0 found links disk) calls links' disk' ∥₁
  -- the calls that were made for them of the links that were lent
  pub passed : ∥ Passed 0 links calls links' ∥₁
  pub journal : RecordsIn found links' disk disk' calls
