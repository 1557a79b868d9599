-- What is on the disk of a run that was recorded, and what a crash leaves of it.
use Rattle.std.specs.Prelude.{◌≡◌, ◌⊎◌, ℕ, List, [], ◌∷◌, ◌++◌, Option, Some}
use Rattle.disk_port.specs.Calls.{DiskReport}
use Rattle.disk_port.specs.Past.{Leaves, LeavesOnly, Past}
use Rattle.journal_format.specs.Journals.{Holds, Journal}
use Rattle.journal_format.specs.declared.finder.Found.{Found}
use Rattle.journal_format.specs.declared.turn_record.TurnRecord.{TurnRecord}
use Rattle.ports.specs.Calls.{LinksReport}
use Rattle.ports.specs.declared.entry.Entry.{Entry}
use Rattle.recorded_links.specs.Noting.{noted}
use Rattle.recorded_links.specs.Steps.{Seen}
use Rattle.recorded_links.specs.Giving.{MayFollow}
use Rattle.recorded_links.specs.Making.{AreSince, recording, uncalled}
use Rattle.recorded_links.specs.Recording.{AreRecorded, with_records}
use Rattle.turn_journal.specs.Standing.{Stands, Told}

-- all of the turns, and one more that may come next
abbrev pub AreOneMore : List TurnRecord → (TurnRecord → Type 0) → List TurnRecord → Type 0
AreOneMore turns next entries = (entry : TurnRecord) × next entry × (entries ≡ turns ++ entry ∷ [])

-- these are all of the turns, or all and one more
abbrev pub AreAll : List TurnRecord → (TurnRecord → Type 0) → List TurnRecord → Type 0
AreAll turns next entries = (entries ≡ turns) ⊎ AreOneMore turns next entries

-- these are the first of the turns, or all and one more
abbrev pub AreFirst : List TurnRecord → (TurnRecord → Type 0) → List TurnRecord → Type 0
AreFirst turns next entries = ((rest : List TurnRecord) × (entries ++ rest ≡ turns)) ⊎ AreOneMore turns next entries

-- the file holds the journal with some records more, of which the fact holds
abbrev pub HoldsMore : Journal → (List TurnRecord → Type 0) → List ℕ → Type 0
HoldsMore journal P file = (entries : List TurnRecord) × Holds (with_records journal entries) file × P entries

-- A file that held the journal holds it with the first of the turns whenever a crash comes, and with all of them once
-- they were handed out. One more may follow them. No part of a record follows.
pub record CrashesLeaveTurns : Type 0 where
  pub at_any_moment : (journal : Journal) (start now : Past) (turns : List TurnRecord)
      (breaks : Option ℕ) (first : ℕ) (links : LinksReport)
      → ((image : List ℕ) → Leaves start image → Holds journal image)
      → AreRecorded journal start turns (MayFollow breaks first links) now
      → LeavesOnly start now (HoldsMore journal (AreFirst turns (MayFollow breaks first links)))
  pub now : (journal : Journal) (start now : Past) (turns : List TurnRecord)
      (breaks : Option ℕ) (first : ℕ) (links : LinksReport)
      → ((image : List ℕ) → Leaves start image → Holds journal image)
      → AreRecorded journal start turns (MayFollow breaks first links) now
      → (image : List ℕ) → Leaves now image → HoldsMore journal (AreAll turns (MayFollow breaks first links)) image

-- When the lines and the replies of a turn go out, the journal that stood there has all turns that were handed out,
-- that one too, and is on the disk.
abbrev pub LastTurnIsKept : Type 0
LastTurnIsKept = (first : ℕ) (found : Found) (links : LinksReport) (disk : DiskReport) (calls : List Entry) (now : Seen)
    (journal : Journal) (start : Past)
    → AreSince recording (uncalled first found links disk) calls now
    → disk.past ≡ Some start → Stands start found.gate found.has_record journal
    → Told now.kept.past (λ past. Stands past now.kept.gate now.kept.has_record
    (with_records journal (noted calls).records))
