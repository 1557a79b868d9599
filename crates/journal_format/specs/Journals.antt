-- Journals, and the bytes that hold one. A gate is a byte, which is open where it is not 0.
use Rattle.std.specs.Prelude.{◌≡◌, ℕ, ◌+◌, ◌<◌, ◌≤◌, Bool, true, false, List, [], ◌∷◌, ◌++◌, length, take}
use Rattle.std.specs.Int.{w32, to_be_bytes}
use Rattle.journal_format.specs.Limits.{config_limit, journal_limit}
use Rattle.journal_format.specs.Spelling.{Spells}
use Rattle.journal_format.specs.declared.turn_record.TurnRecord.{TurnRecord}

-- a configuration, and what was recorded of a run with it
pub record Journal : Type 0 where
  pub config : List ℕ
  pub records : List TurnRecord

abbrev pub is_empty : List TurnRecord → Bool
is_empty [] = true
is_empty (entry ∷ entries) = false

-- the journal has no record
abbrev pub is_blank : Journal → Bool
is_blank journal = is_empty journal.records

abbrev pub blank : List ℕ → Journal
blank config = record { config = config; records = [] }

-- the journal with a record more
abbrev pub with_record : Journal → TurnRecord → Journal
with_record journal entry = record { config = journal.config; records = journal.records ++ entry ∷ [] }

-- the bytes are an open gate, the record, and then more
pub record BeginsWith (first : Bool) (entry : TurnRecord) (bytes more : List ℕ) : Type 0 where
  pub gate : ℕ
  pub text : List ℕ
  pub is_open : 0 < gate
  pub spells : Spells first entry text
  pub whole : bytes ≡ gate ∷ (text ++ more)

-- the bytes are these records, each after an open gate
abbrev pub AreRecords : Bool → List TurnRecord → List ℕ → Type 0
AreRecords first [] bytes = bytes ≡ []
AreRecords first (entry ∷ entries) bytes =
    (more : List ℕ) × BeginsWith first entry bytes more × AreRecords false entries more

-- what follows the first gate: four bytes with the length of the configuration, and the configuration
abbrev pub head_bytes : List ℕ → List ℕ
head_bytes config = to_be_bytes w32 (length config) ++ config

-- the bytes are the journal up to its closed gate
pub record IsFront (journal : Journal) (bytes : List ℕ) : Type 0 where
  pub gate : ℕ
  pub run : List ℕ
  pub is_open : 0 < gate
  pub small : length journal.config ≤ config_limit
  pub records : AreRecords true journal.records run
  pub whole : bytes ≡ gate ∷ (head_bytes journal.config ++ run)

-- The file holds the journal, whose closed gate is at this place. Any bytes may follow the gate.
pub record HoldsAt (journal : Journal) (place : ℕ) (file : List ℕ) : Type 0 where
  pub front : List ℕ
  pub rest : List ℕ
  pub begins : IsFront journal front
  pub whole : file ≡ front ++ 0 ∷ rest
  pub gate : length front ≡ place
  pub limit : place < journal_limit

abbrev pub Holds : Journal → List ℕ → Type 0
Holds journal file = (place : ℕ) × HoldsAt journal place file

-- no record that may come there is at the start of the bytes
abbrev pub BeginsWithNone : Bool → List ℕ → Type 0
BeginsWithNone first bytes =
    (entry : TurnRecord) (text more : List ℕ) → Spells first entry text → bytes ≡ text ++ more → ⊥

-- the bytes do not begin with the length of a configuration
abbrev pub BeginsWithNoLength : List ℕ → Type 0
BeginsWithNoLength bytes = (size : ℕ) (more : List ℕ) → size ≤ config_limit → bytes ≡ to_be_bytes w32 size ++ more → ⊥

-- the bytes end before the configuration does
pub record EndsInConfig (bytes : List ℕ) : Type 0 where
  pub size : ℕ
  pub part : List ℕ
  pub small : size ≤ config_limit
  pub whole : bytes ≡ to_be_bytes w32 size ++ part
  pub short : length part < size

-- the bytes are the journal up to an open gate, and then no record
pub record EndsInRecord (bytes : List ℕ) (place : ℕ) : Type 0 where
  pub journal : Journal
  pub front : List ℕ
  pub gate : ℕ
  pub rest : List ℕ
  pub begins : IsFront journal front
  pub is_open : 0 < gate
  pub whole : bytes ≡ front ++ gate ∷ rest
  pub after_gate : length front + 1 ≡ place
  pub none : BeginsWithNone (is_blank journal) rest

-- The bytes are no journal. At this place begins the first gate, length, configuration or record that does not fit.
pub data MisfitsAt (bytes : List ℕ) (place : ℕ) : Type 0 where
  no_open_gate : place ≡ 0 → ((gate : ℕ) (more : List ℕ) → 0 < gate → bytes ≡ gate ∷ more → ⊥) → MisfitsAt bytes place
  no_length : (gate : ℕ) (rest : List ℕ) → place ≡ 1 → 0 < gate → bytes ≡ gate ∷ rest → BeginsWithNoLength rest
      → MisfitsAt bytes place
  no_config : (gate : ℕ) (rest : List ℕ) → place ≡ 5 → 0 < gate → bytes ≡ gate ∷ rest → EndsInConfig rest
      → MisfitsAt bytes place
  no_gate : (journal : Journal) → place ≡ length bytes → IsFront journal bytes → MisfitsAt bytes place
  no_record : EndsInRecord bytes place → MisfitsAt bytes place

-- The same of a file, of which a journal has at most so many bytes.
abbrev pub FileMisfitsAt : List ℕ → ℕ → Type 0
FileMisfitsAt file place = MisfitsAt (take journal_limit file) place
