-- What is loaded of a journal after a crash, and after crash on crash.
use Rattle.std.specs.Prelude.{◌≡◌, ℕ, List, ◌++◌, Option}
use Rattle.disk_port.specs.Past.{Leaves, LeavesOnly, Past}
use Rattle.journal_format.specs.Journals.{Holds, Journal}
use Rattle.journal_format.specs.declared.turn_record.TurnRecord.{TurnRecord}
use Rattle.ports.specs.Calls.{LinksReport}
use Rattle.recorded_links.specs.Giving.{MayFollow}
use Rattle.recorded_links.specs.Laws.{AreAll, AreFirst}
use Rattle.recorded_links.specs.Recording.{with_records}
use Rattle.journal_run.specs.Recorded.{IsRecordedIn}

-- whichever journal the file holds, it is this one with some records more, of which the fact holds
abbrev pub LoadsMore : Journal → (List TurnRecord → Type 0) → List ℕ → Type 0
LoadsMore journal P file = (loaded : Journal) → Holds loaded file
    → (entries : List TurnRecord) × (loaded ≡ with_records journal entries) × P entries

-- first these records, and then some of which the fact holds
abbrev pub AreAfter : List TurnRecord → (List TurnRecord → Type 0) → List TurnRecord → Type 0
AreAfter first P entries = (more : List TurnRecord) × (entries ≡ first ++ more) × P more

-- The journal had these records more, maybe none, when it was begun or loaded. Then turns were recorded in it, and a
-- crash came. What is loaded after that is the journal with the same records and the first of the turns, or all and one
-- more; and with all, or all and one more, once all were recorded.
pub record CrashesAreLoaded : Type 0 where
  pub at_any_moment : (journal loaded : Journal) (entries : List TurnRecord) (start now : Past)
      (turns : List TurnRecord) (breaks : Option ℕ) (first : ℕ) (links : LinksReport)
      → loaded ≡ with_records journal entries
      → IsRecordedIn loaded start turns (MayFollow breaks first links) now
      → LeavesOnly start now (LoadsMore journal (AreAfter entries (AreFirst turns (MayFollow breaks first links))))
  pub last : (journal loaded : Journal) (entries : List TurnRecord) (start now : Past)
      (turns : List TurnRecord) (breaks : Option ℕ) (first : ℕ) (links : LinksReport)
      → loaded ≡ with_records journal entries
      → IsRecordedIn loaded start turns (MayFollow breaks first links) now
      → (image : List ℕ) → Leaves now image
      → LoadsMore journal (AreAfter entries (AreAll turns (MayFollow breaks first links))) image
