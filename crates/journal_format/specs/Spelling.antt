-- What a record says, and the one way in which it is spelled. Numbers are big-endian.
use Rattle.std.specs.Prelude.{◌≡◌, ℕ, ◌^◌, ◌<◌, ◌≤◌, ◌==◌, Bool, true, false, if◌then◌else◌, List, [], ◌∷◌, ◌++◌}
use Rattle.std.specs.Prelude.{length}
use Rattle.std.specs.List.{AllByRecursion, flat_map, list_any}
use Rattle.std.specs.Int.{w16, w32, w64, to_be_bytes}
use Rattle.journal_format.specs.Limits.{piece_limit, summary_limit}
use Rattle.journal_format.specs.declared.turn_record.SendEnd.{SendEnd}
use Rattle.journal_format.specs.declared.turn_record.SendEnd.TheVariants.{Took, Later, Failed}
use Rattle.journal_format.specs.declared.turn_record.Summary.{Summary}
use Rattle.journal_format.specs.declared.turn_record.TurnEvent.{TurnEvent}
use Rattle.journal_format.specs.declared.turn_record.TurnEvent.TheVariants.{Listen, Idle, Opened, Read, Ended, Broken}
use Rattle.journal_format.specs.declared.turn_record.TurnEvent.TheVariants.{Room}
use Rattle.journal_format.specs.declared.turn_record.TurnRecord.{TurnRecord}

abbrev pub end_byte : SendEnd → ℕ
end_byte Took = 0
end_byte Later = 1
end_byte Failed = 2

abbrev pub summary_bytes : Summary → List ℕ
summary_bytes summary = to_be_bytes w64 summary.link ++ (to_be_bytes w64 summary.taken ++ end_byte summary.end ∷ [])

-- the kind of the event, and its fields
abbrev pub event_bytes : TurnEvent → List ℕ
event_bytes Listen = 0 ∷ []
event_bytes Idle = 1 ∷ []
event_bytes (Opened link) = 2 ∷ to_be_bytes w64 link
event_bytes (Read link bytes) = 3 ∷ (to_be_bytes w64 link ++ (to_be_bytes w32 (length bytes) ++ bytes))
event_bytes (Ended link) = 4 ∷ to_be_bytes w64 link
event_bytes (Broken link) = 5 ∷ to_be_bytes w64 link
event_bytes (Room link) = 6 ∷ to_be_bytes w64 link

-- what is before the event in a record
abbrev pub front_bytes : List Summary → ℕ → List ℕ
front_bytes summaries secs =
    to_be_bytes w16 (length summaries) ++ (flat_map summary_bytes summaries ++ to_be_bytes w64 secs)

abbrev pub record_bytes : TurnRecord → List ℕ
record_bytes entry =
    to_be_bytes w16 (length entry.summaries)
    ++ (flat_map summary_bytes entry.summaries ++ (to_be_bytes w64 entry.secs ++ event_bytes entry.event))

-- whether one of the summaries is of this link
abbrev pub has_link : ℕ → List Summary → Bool
has_link link summaries = list_any (λ summary. summary.link == link) summaries

-- whether each link has one summary at most
abbrev pub are_distinct : List Summary → Bool
are_distinct [] = true
are_distinct (summary ∷ rest) = if has_link summary.link rest then false else are_distinct rest

-- a number of 64 bits
abbrev pub IsWord : ℕ → Type 0
IsWord number = number < 2 ^ 64

pub record AreWords (summary : Summary) : Type 0 where
  pub link : IsWord summary.link
  pub taken : IsWord summary.taken

abbrev pub IsPiece : List ℕ → Type 0
IsPiece bytes = (0 < length bytes) × (length bytes ≤ piece_limit)

abbrev pub IsEvent : TurnEvent → Type 0
IsEvent Listen = Unit {0}
IsEvent Idle = Unit {0}
IsEvent (Opened link) = IsWord link
IsEvent (Read link bytes) = IsWord link × IsPiece bytes
IsEvent (Ended link) = IsWord link
IsEvent (Broken link) = IsWord link
IsEvent (Room link) = IsWord link

-- what a record may say
pub record IsRecord (entry : TurnRecord) : Type 0 where
  pub few : length entry.summaries ≤ summary_limit
  pub summaries : AllByRecursion AreWords entry.summaries
  pub distinct : are_distinct entry.summaries ≡ true
  pub secs : IsWord entry.secs
  pub event : IsEvent entry.event

-- whether it is the record of a `listen`
abbrev pub is_listen : TurnEvent → Bool
is_listen Listen = true
is_listen _ = false

-- The bytes spell the record. It is that of a `listen` exactly where it is the first of a journal.
pub record Spells (first : Bool) (entry : TurnRecord) (bytes : List ℕ) : Type 0 where
  pub allowed : IsRecord entry
  pub order : is_listen entry.event ≡ first
  pub text : bytes ≡ record_bytes entry
