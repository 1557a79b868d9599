-- What is read of the bytes of a journal.
use Rattle.std.specs.Prelude.{◌≡◌, ℕ, ◌<◌, Bool, true, nat_lt, nat_le, ◌&&◌, List, [], ◌∷◌, ◌++◌, length, Option, Some}
use Rattle.std.specs.Prelude.{None, Result, Ok, Err}
use Rattle.journal_format.specs.Journals.{AreRecords, IsFront, Journal, head_bytes}
use Rattle.journal_format.specs.Limits.{piece_limit}
use Rattle.journal_format.specs.declared.turn_record.TurnEvent.{TurnEvent}
use Rattle.journal_format.specs.declared.turn_record.TurnEvent.TheVariants.{Listen, Idle, Opened, Read, Ended, Broken}
use Rattle.journal_format.specs.declared.turn_record.TurnEvent.TheVariants.{Room}
use Rattle.journal_format.specs.declared.turn_record.TurnRecord.{TurnRecord}
use Rattle.turn_journal.specs.declared.fault.JournalFault.{JournalFault}
use Rattle.turn_journal.specs.declared.fault.JournalFault.TheVariants.{Refused, DiskFault, Memory}

-- the bytes are the journal with its closed gate, and nothing more
pub record IsWhole (journal : Journal) (bytes : List ℕ) : Type 0 where
  pub front : List ℕ
  pub begins : IsFront journal front
  pub whole : bytes ≡ front ++ 0 ∷ []

-- the bytes are these records, each after an open gate, and then a closed gate
pub record EndWith (first : Bool) (records : List TurnRecord) (bytes : List ℕ) : Type 0 where
  pub run : List ℕ
  pub records_are : AreRecords first records run
  pub whole : bytes ≡ run ++ 0 ∷ []

-- these records are left to be read of the bytes, where the others were read
pub record AreLeft (all read : List TurnRecord) (bytes : List ℕ) : Type 0 where
  pub first : Bool
  pub left : List TurnRecord
  pub all_are : all ≡ read ++ left
  pub end_with : EndWith first left bytes

-- an answer gives this value, or memory ran out
abbrev pub IsOrMemory : {X : Type 0} → X → Result X JournalFault → Type 0
IsOrMemory wanted (Ok value) = value ≡ wanted
IsOrMemory wanted (Err (Refused place)) = ⊥
IsOrMemory wanted (Err DiskFault) = ⊥
IsOrMemory wanted (Err Memory) = Unit {0}

-- whether the bytes of a read are a piece
abbrev pub is_event : TurnEvent → Bool
is_event Listen = true
is_event Idle = true
is_event (Opened link) = true
is_event (Read link bytes) = nat_lt 0 (length bytes) && nat_le (length bytes) piece_limit
is_event (Ended link) = true
is_event (Broken link) = true
is_event (Room link) = true

abbrev pub has_event : TurnRecord → Bool
has_event entry = is_event entry.event

-- the bytes are a gate, the length of the configuration, the configuration, and then more
pub record Heads (bytes config more : List ℕ) : Type 0 where
  pub gate : ℕ
  pub small : length config < 4294967296
  pub whole : bytes ≡ gate ∷ (head_bytes config ++ more)

-- a pair of parts of bytes is these two
abbrev pub ArePair : List ℕ → List ℕ → Option (List ℕ × List ℕ) → Type 0
ArePair config more None = ⊥
ArePair config more (Some parts) = (parts.0 ≡ config) × (parts.1 ≡ more)
