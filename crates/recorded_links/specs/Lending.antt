-- What was lent to links that record, and what became of it.
use Rattle.std.specs.Prelude.{◌≡◌, ℕ, ◌+◌, Bool, true, false, List, Some, None}
use Rattle.disk_port.specs.Calls.{DiskReport}
use Rattle.disk_port.specs.Past.{Past}
use Rattle.journal_format.specs.Journals.{Journal}
use Rattle.journal_format.specs.declared.finder.Found.{Found}
use Rattle.journal_format.specs.declared.turn_record.Summary.{Summary}
use Rattle.journal_format.specs.declared.turn_record.TurnRecord.{TurnRecord}
use Rattle.ports.specs.Calls.{AddsCalls, LinksReport}
use Rattle.ports.specs.Counts.{greatest}
use Rattle.ports.specs.declared.entry.Entry.{Entry}
use Rattle.recorded_links.specs.Keeping.{Kept}
use Rattle.recorded_links.specs.Noting.{noted}
use Rattle.recorded_links.specs.Passing.{Passes}
use Rattle.recorded_links.specs.Recording.{AreRecorded, with_records}
use Rattle.turn_journal.specs.Standing.{Stands}

-- links and a disk when they were lent
pub record Lent : Type 0 where
  -- the names of the loans
  pub links_name : ℕ
  pub disk_name : ℕ
  -- what they reported
  pub links : LinksReport
  pub disk : DiskReport
  -- the end of the journal in the disk's file
  pub found : Found

abbrev pub nothing_lent : Lent
nothing_lent = record {
  links_name = 0;
  disk_name = 0;
  links = record { log = None; script = None; faults = 0 };
  disk = record { past = None; opened = None; faults = 0 };
  found = record { gate = 0; has_record = false };
}

-- Of the file, in which this journal stood when it was lent: the calls were recorded, and unless these links are spent
-- the journal with their turns stands there. `next` says which turn may be lost.
pub record KeepsJournal (journal : Journal) (start : Past) (next : TurnRecord → Type 0) (calls : List Entry)
    (kept : Kept) (spent : Bool) : Type 0 where
  pub now : Past
  pub reported : kept.past ≡ Some now
  pub recorded : AreRecorded journal start (noted calls).records next now
  pub unbegun : spent ≡ false → now ≡ recorded.past
  pub stands : spent ≡ false → Stands now kept.gate kept.has_record (with_records journal (noted calls).records)

-- the same of any journal that stood there, with the summaries of the next record
pub record Keeps (lent : Lent) (next : TurnRecord → Type 0) (calls : List Entry) (kept : Kept) (sends : List Summary)
    (spent : Bool) : Type 0 where
  pub sends_are : (noted calls).sends ≡ sends
  pub journal : (journal : Journal) (start : Past) → lent.disk.past ≡ Some start
      → Stands start lent.found.gate lent.found.has_record journal
      → KeepsJournal journal start next calls kept spent

-- of links that reported `lent` before these calls: these calls were made of them meanwhile
pub record Passed (first : ℕ) (lent : LinksReport) (calls : List Entry) (links : LinksReport) : Type 0 where
  pub asked : List Entry
  pub adds : AddsCalls lent links asked
  pub passes : Passes first calls asked

-- what a fault of the disk adds to the faults of the links that were lent: as many as may be, so that nothing is said
-- of a failure after it
abbrev pub disk_faults : Bool → ℕ
disk_faults true = greatest
disk_faults false = 0

-- What these links report: all calls, and the faults of the links that were lent and of the disk.
abbrev pub traced_report : List Entry → LinksReport → Bool → LinksReport
traced_report calls links disk_failed =
    record { log = Some calls; script = None; faults = links.faults + disk_faults disk_failed }
