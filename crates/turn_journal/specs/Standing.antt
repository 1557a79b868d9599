-- What a disk that reports its file has of a journal, at rest and after a crash.
use Rattle.std.specs.Prelude.{◌≡◌, ◌⊎◌, ℕ, ◌+◌, ◌≤◌, Bool, not, List, [], ◌∷◌, length, Option, Some}
use Rattle.std.specs.Option.{ForSome}
use Rattle.disk_port.specs.Past.{LeavesOnly, Past, Rests, synced, text_of, written}
use Rattle.journal_format.specs.Journals.{Holds, HoldsAt, Journal, is_blank, with_record}
use Rattle.journal_format.specs.Spelling.{Spells}
use Rattle.journal_format.specs.declared.turn_record.TurnRecord.{TurnRecord}

-- All of the file is on the disk. It holds the journal, whose closed gate is at that place.
pub record Stands (past : Past) (gate : ℕ) (has_record : Bool) (journal : Journal) : Type 0 where
  pub rests : Rests past
  pub holds : HoldsAt journal gate (text_of past)
  pub blank : is_blank journal ≡ not has_record

-- the disk reports a past that has P
abbrev pub Told : Option Past → (Past → Type 0) → Type 0
Told told P = (past : Past) × (told ≡ Some past) × P past

-- where the disk reports its file, it has a byte at this place
abbrev pub IsWithin : Option Past → ℕ → Type 0
IsWithin told gate = ForSome told (λ past. gate + 1 ≤ length (text_of past))

-- where the disk reports its file, a journal stands there
abbrev pub IsReady : Option Past → ℕ → Bool → Type 0
IsReady told gate has_record = ForSome told (λ past. (journal : Journal) × Stands past gate has_record journal)

-- the bytes spell a record that may come next
abbrev pub IsNext : Bool → List ℕ → Type 0
IsNext has_record bytes = (entry : TurnRecord) × Spells (not has_record) entry bytes

-- A journal stands there, and the bytes spell a record that may come next.
pub record Adds (told : Option Past) (gate : ℕ) (has_record : Bool) (bytes : List ℕ) : Type 0 where
  pub past : Past
  pub journal : Journal
  pub entry : TurnRecord
  pub is_told : told ≡ Some past
  pub stands : Stands past gate has_record journal
  pub spells : Spells (not has_record) entry bytes

-- the file holds the journal, or the journal with this record whole
abbrev pub HoldsOrWith : Journal → TurnRecord → List ℕ → Type 0
HoldsOrWith journal entry file = Holds journal file ⊎ Holds (with_record journal entry) file

-- the journal with the record stands there
abbrev pub StandsWith : {told : Option Past} {gate : ℕ} {has_record : Bool} {bytes : List ℕ}
    → Adds told gate has_record bytes → Option Past → ℕ → Bool → Type 0
StandsWith adds new place has_more = Told new (λ now. Stands now place has_more (with_record adds.journal adds.entry))

-- a crash since then leaves the journal, or the journal with this record whole
abbrev pub LeavesOneOrBoth : {told : Option Past} {gate : ℕ} {has_record : Bool} {bytes : List ℕ}
    → Adds told gate has_record bytes → Option Past → Type 0
LeavesOneOrBoth adds new = Told new (λ now. LeavesOnly adds.past now (HoldsOrWith adds.journal adds.entry))

-- the past after these bytes were put on the disk after the gate
abbrev pub put_past : ℕ → List ℕ → Past → Past
put_past gate bytes past = synced (written (gate + 1) bytes past)

-- the past after the gate was opened on the disk
abbrev pub opened_past : ℕ → Past → Past
opened_past gate past = synced (written gate (1 ∷ []) past)
