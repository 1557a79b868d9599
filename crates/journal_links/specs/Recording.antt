-- What the file of a journal goes through while its run is resumed.
use Rattle.std.specs.Prelude.{◌≡◌, ◌⊎◌, ℕ, List, ◌++◌, drop, length, Some}
use Rattle.disk_port.specs.Past.{Past}
use Rattle.journal_format.specs.Journals.{Journal}
use Rattle.journal_format.specs.declared.turn_record.TurnRecord.{TurnRecord}
use Rattle.journal_links.specs.Steps.{last_secs}
use Rattle.journal_links.specs.Turns.{PlainTurn, handed, turns_in}
use Rattle.ports.specs.Calls.{LinksReport}
use Rattle.ports.specs.declared.entry.Entry.{Entry}
use Rattle.recorded_links.specs.Noting.{noted}
use Rattle.recorded_links.specs.Giving.{MayFollow}
use Rattle.recorded_links.specs.Recording.{AreRecorded}
use Rattle.journal_links.specs.Opened.{first_free}

-- The turns that were handed out are the first of the journal's, or all of them and then others.
abbrev pub BeginAgain : Journal → List Entry → Type 0
BeginAgain journal calls =
    ((rest : List PlainTurn) × (turns_in journal.records ≡ handed calls ++ rest))
    ⊎ ((rest : List PlainTurn) × (handed calls ≡ turns_in journal.records ++ rest))

-- the records of the turns that were handed out after so many others
abbrev pub records_after : ℕ → List Entry → List TurnRecord
records_after count calls = drop count (noted calls).records

-- those of the turns that were handed out after the journal's
abbrev pub later_records : Journal → List Entry → List TurnRecord
later_records journal calls = records_after (length journal.records) calls

-- The record may come next in a run that resumes the journal with these records, over links that report this now.
abbrev pub MayResume : List TurnRecord → LinksReport → TurnRecord → Type 0
MayResume records links = MayFollow (Some (last_secs records)) (first_free records) links

-- A file held the journal, and these calls were made since of links that resume it: its turns were handed out again, in
-- order, and the turns after them were recorded in it.
pub record Resumed (journal : Journal) (start : Past) (calls : List Entry) (links : LinksReport)
    (now : Past) : Type 0 where
  pub again : BeginAgain journal calls
  pub recorded : AreRecorded journal start (later_records journal calls) (MayResume journal.records links) now
