-- What the file of a journal goes through while the turns of a run are recorded in it.
use Rattle.std.specs.Prelude.{◌≡◌, ◌⊎◌, ℕ, List, [], ◌∷◌, ◌++◌}
use Rattle.disk_port.specs.Past.{Leaves, LeavesOnly, Past}
use Rattle.journal_format.specs.Journals.{Holds, Journal, with_record}
use Rattle.journal_format.specs.Spelling.{IsRecord}
use Rattle.journal_format.specs.declared.turn_record.TurnRecord.{TurnRecord}
use Rattle.turn_journal.specs.Standing.{HoldsOrWith}

-- the journal with these records more
abbrev pub with_records : Journal → List TurnRecord → Journal
with_records journal entries = record { config = journal.config; records = journal.records ++ entries }

-- Until `now` a crash left the journal, or the journal with this record whole. Since then every crash leaves the
-- latter.
pub record IsKept (journal : Journal) (entry : TurnRecord) (past now : Past) : Type 0 where
  pub until : LeavesOnly past now (HoldsOrWith journal entry)
  pub since : (image : List ℕ) → Leaves now image → Holds (with_record journal entry) image

-- The records of these turns were kept one after another. `now` is what was done to the file when the last of them
-- was.
pub data AreKept (journal : Journal) (start : Past) : List TurnRecord → Past → Type 0 where
  none_yet : {turns : List TurnRecord} {now : Past} → turns ≡ [] → now ≡ start → AreKept journal start turns now
  one_more : {turns : List TurnRecord} {now : Past} → (before : List TurnRecord) (entry : TurnRecord) (past : Past)
      → AreKept journal start before past
      → turns ≡ before ++ entry ∷ [] → IsKept (with_records journal before) entry past now
      → AreKept journal start turns now

-- The record of one turn more was begun, which was not handed out. A crash leaves the journal, or the journal with this
-- record whole.
pub record IsBegun (journal : Journal) (next : TurnRecord → Type 0) (past now : Past) : Type 0 where
  pub entry : TurnRecord
  pub allowed : IsRecord entry
  pub is : next entry
  pub leaves : LeavesOnly past now (HoldsOrWith journal entry)

-- In a file that held the journal these turns were recorded: a crash at any moment leaves the journal with those that
-- were handed out, in order. Beyond them it leaves one at most, whole, whose record was begun last. `next` says what it
-- may be.
pub record AreRecorded (journal : Journal) (start : Past) (turns : List TurnRecord) (next : TurnRecord → Type 0)
    (now : Past) : Type 0 where
  -- when the last record was kept
  pub past : Past
  pub kept : AreKept journal start turns past
  pub last : (now ≡ past) ⊎ IsBegun (with_records journal turns) next past now
