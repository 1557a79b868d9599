-- The record of a turn, and what a journal and a caller get of it.
use Rattle.std.specs.Prelude.{◌≡◌, ◌⊎◌, ℕ, Bool, true, false, not, ◌&&◌, List, Option}
use Rattle.disk_port.specs.Calls.{Fails}
use Rattle.disk_port.specs.Past.{Past, StaysPossible}
use Rattle.journal_format.specs.Spelling.{IsPiece, IsWord}
use Rattle.journal_format.specs.declared.turn_record.Summary.{Summary}
use Rattle.journal_format.specs.declared.turn_record.TurnEvent.{TurnEvent}
use Rattle.journal_format.specs.declared.turn_record.TurnEvent.TheVariants as event
use Rattle.journal_format.specs.declared.turn_record.TurnRecord.{TurnRecord}
use Rattle.ports.specs.Links.{is_failed_turn}
use Rattle.ports.specs.Playing.{is_failed_listen}
use Rattle.ports.specs.declared.links.ListenAnswer.{ListenAnswer}
use Rattle.ports.specs.declared.links.ListenAnswer.TheVariants as listen
use Rattle.ports.specs.declared.links.Turn.{Turn}
use Rattle.ports.specs.declared.links.What.{What}
use Rattle.ports.specs.declared.links.What.TheVariants.{Opened, Read, Ended, Broken, Room, Stopped, Failed, Memory}
use Rattle.turn_journal.specs.Standing.{Adds, LeavesOneOrBoth, StandsWith}

-- whether a turn is recorded
abbrev pub is_recorded : What → Bool
is_recorded Stopped = false
is_recorded Failed = false
is_recorded Memory = false
is_recorded _ = true

-- what a record says of a turn, with the bytes of a read
abbrev pub event_of : What → List ℕ → TurnEvent
event_of (Opened link) piece = event.Opened link
event_of (Read link count) piece = event.Read link piece
event_of (Ended link) piece = event.Ended link
event_of (Broken link) piece = event.Broken link
event_of (Room link) piece = event.Room link
event_of _ piece = event.Idle

-- the record of a turn, after these sends
abbrev pub entry_of : List Summary → Turn → List ℕ → TurnRecord
entry_of summaries turn piece = record { summaries = summaries; secs = turn.secs; event = event_of turn.what piece }

-- the record of a `listen` at that second
abbrev pub listen_entry : List Summary → ℕ → TurnRecord
listen_entry summaries secs = record { summaries = summaries; secs = secs; event = event.Listen }

-- the number of the link has 64 bits
abbrev pub IsTurn : What → Type 0
IsTurn (Opened link) = IsWord link
IsTurn (Read link count) = IsWord link
IsTurn (Ended link) = IsWord link
IsTurn (Broken link) = IsWord link
IsTurn (Room link) = IsWord link
IsTurn _ = Unit {0}

-- the bytes of a read are a piece
abbrev pub HasPiece : What → List ℕ → Type 0
HasPiece (Read link count) piece = IsPiece piece
HasPiece _ piece = Unit {0}

-- what a journal on a disk is seen as: what was done to the disk's file, the end of the journal, and whether a record
-- is before it
pub record Kept : Type 0 where
  pub past : Option Past
  pub gate : ℕ
  pub has_record : Bool

abbrev pub kept_of : Option Past → ℕ → Bool → Kept
kept_of past gate has_record = record { past = past; gate = gate; has_record = has_record }

-- The record that these bytes spell was being added. At any moment a crash leaves the journal, or the journal with this
-- record whole; once it was added, the journal with the record.
pub record AddsRecord (bytes : List ℕ) (added : Bool) (old new : Kept) : Type 0 where
  pub any_moment : (adds : Adds old.past old.gate old.has_record bytes) → LeavesOneOrBoth adds new.past
  pub stands : added ≡ true → (adds : Adds old.past old.gate old.has_record bytes)
      → StandsWith adds new.past new.gate new.has_record
  pub possible : StaysPossible old.past new.past

-- An answer of the inner links is handed out: as it is, but for Stopped, of which second 0 is said. One that is
-- recorded is lost where its record was not added.
abbrev pub HandsOut : What → Turn → Turn → Type 0
HandsOut Stopped asked turn = turn ≡ record { secs = 0; what = Stopped }
HandsOut Failed asked turn = turn ≡ asked
HandsOut Memory asked turn = turn ≡ asked
HandsOut _ asked turn = (turn ≡ asked) ⊎ ((turn.what ≡ Failed) ⊎ (turn.what ≡ Memory))

-- whether an answer of the inner links was lost by a disk that failed
abbrev pub is_lost : What → What → Bool
is_lost asked handed = not (is_failed_turn asked) && is_failed_turn handed

abbrev pub is_ready : ListenAnswer → Bool
is_ready (listen.Ready secs) = true
is_ready listen.Failed = false
is_ready listen.Memory = false

-- an answer of the inner links is handed out, or lost where its record was not added
abbrev pub HandsListen : ListenAnswer → ListenAnswer → Type 0
HandsListen (listen.Ready secs) answer =
    (answer ≡ listen.Ready secs) ⊎ ((answer ≡ listen.Failed) ⊎ (answer ≡ listen.Memory))
HandsListen listen.Failed answer = answer ≡ listen.Failed
HandsListen listen.Memory answer = answer ≡ listen.Memory

-- whether an answer of the inner links was lost by a disk that failed
abbrev pub is_lost_listen : ListenAnswer → ListenAnswer → Bool
is_lost_listen asked handed = is_ready asked && is_failed_listen handed

-- calls of a disk failed, or none did
abbrev pub FailedIf : Bool → ℕ → ℕ → Type 0
FailedIf true old new = Fails old new
FailedIf false old new = new ≡ old
