-- What became of the journal and of the links of a run that is resumed, after any number of calls.
use Rattle.std.specs.Prelude.{◌≡◌, ℕ, false, List, Some}
use Rattle.disk_port.specs.Calls.{DiskReport}
use Rattle.disk_port.specs.Past.{Past, synced}
use Rattle.journal_format.specs.declared.finder.Found.{Found}
use Rattle.journal_format.specs.declared.turn_record.TurnRecord.{TurnRecord}
use Rattle.journal_links.specs.Resuming.{Resumes}
use Rattle.ports.specs.Calls.{LinksReport}
use Rattle.ports.specs.declared.entry.Entry.{Entry}
use Rattle.recorded_links.specs.Making.{AreSince}
use Rattle.recorded_links.specs.Recording.{with_records}
use Rattle.journal_links.specs.Asking.{AsksOf}
use Rattle.journal_links.specs.Making.{Made, State, resuming, unresumed}
use Rattle.journal_links.specs.Recording.{BeginAgain, Resumed, later_records}
use Rattle.turn_journal.specs.Standing.{Stands, Told}

-- The turns of the journal that was loaded were handed out again, and those after them were recorded in it. Unless the
-- links are spent, the journal with all of them is on the disk.
abbrev pub TurnsAreRecorded : Type 0
TurnsAreRecorded = (past : Past) (config : List ℕ) (found : Found) (records : List TurnRecord) (links : LinksReport)
    (disk : DiskReport) (calls : List Entry) (now : State)
    → Made found records links disk calls now
    → disk.past ≡ Some (synced past) → (resumes : Resumes past found config records)
    → Told now.seen.kept.past (λ file. Resumed resumes.journal (synced past) calls now.seen.inner file
    × (now.seen.spent ≡ false → Stands file now.seen.kept.gate now.seen.kept.has_record
    (with_records resumes.journal (later_records resumes.journal calls))))

-- These calls were made of the inner links.
abbrev pub CallsArePassed : Type 0
CallsArePassed = (found : Found) (records : List TurnRecord) (links : LinksReport) (disk : DiskReport)
    (calls : List Entry) (now : State)
    → Made found records links disk calls now → AsksOf records links now.seen.inner calls

-- When the lines and the replies of a turn go out, the journal that was loaded is on the disk, with all turns that were
-- handed out after its own, and so with that turn.
abbrev pub LastTurnIsKept : Type 0
LastTurnIsKept = (past : Past) (config : List ℕ) (found : Found) (records : List TurnRecord) (links : LinksReport)
    (disk : DiskReport) (calls : List Entry) (now : State)
    → AreSince resuming (unresumed found records links disk) calls now
    → disk.past ≡ Some (synced past) → (resumes : Resumes past found config records)
    → BeginAgain resumes.journal calls
    × Told now.seen.kept.past (λ file. Stands file now.seen.kept.gate now.seen.kept.has_record
    (with_records resumes.journal (later_records resumes.journal calls)))
