-- The turns that a run handed out, and those that its journal has.
use Rattle.std.specs.Prelude.{◌≡◌, ℕ, ◌≤◌, Bool, true, false, not, if◌then◌else◌, List, [], ◌∷◌, ◌++◌, drop, length}
use Rattle.std.specs.Prelude.{map, Some}
use Rattle.std.specs.List.{list_all}
use Rattle.disk_port.specs.Past.{LeavesOnly, Past, synced}
use Rattle.journal_format.specs.Journals.{Holds, Journal}
use Rattle.journal_format.specs.Spelling.{is_listen}
use Rattle.journal_format.specs.declared.turn_record.TurnEvent.{TurnEvent}
use Rattle.journal_format.specs.declared.turn_record.TurnRecord.{TurnRecord}
use Rattle.journal_links.specs.Resuming.{Resumes}
use Rattle.journal_links.specs.Steps.{CloseOf, ListenOf, NextOf, Progress, SendOf}
use Rattle.ports.specs.Links.{is_failed_turn, is_memory_turn, listen_entries, next_entries, send_entries}
use Rattle.ports.specs.declared.entry.Entry.{Entry}
use Rattle.ports.specs.declared.entry.Entry.TheVariants.{Close}
use Rattle.ports.specs.declared.links.ListenAnswer.{ListenAnswer}
use Rattle.ports.specs.declared.links.SendAnswer.{SendAnswer}
use Rattle.ports.specs.declared.links.Turn.{Turn}
use Rattle.ports.specs.declared.links.Want.{Want}
use Rattle.recorded_links.specs.Keeping.{Kept, is_ready}
use Rattle.recorded_links.specs.Noting.{noted}
use Rattle.recorded_links.specs.Steps.{Seen}
use Rattle.turn_journal.specs.Beginning.{StandsBlank}
use Rattle.turn_journal.specs.Standing.{Stands}

-- a turn, without the sends before it
pub record PlainTurn : Type 0 where
  pub secs : ℕ
  pub event : TurnEvent

abbrev pub plain : TurnRecord → PlainTurn
plain entry = record { secs = entry.secs; event = entry.event }

abbrev pub turns_in : List TurnRecord → List PlainTurn
turns_in records = map plain records

-- all turns that were handed out in these calls but Stopped
abbrev pub handed : List Entry → List PlainTurn
handed log = turns_in (noted log).records

-- only the first record is that of a `listen`
abbrev pub is_turn : TurnRecord → Bool
is_turn entry = not (is_listen entry.event)

abbrev pub AreTurns : List TurnRecord → Type 0
AreTurns records = list_all is_turn (drop 1 records) ≡ true

-- the first record, if there is one, is that of a `listen`
abbrev pub BeginsWithListen : List TurnRecord → Type 0
BeginsWithListen records =
    (entry : TurnRecord) (later : List TurnRecord) → records ≡ entry ∷ later → is_listen entry.event ≡ true

-- The journal on the disk begins with all turns that were handed out. Beyond them it has those of the journal that was
-- resumed, as far as they were not given yet.
pub record KeepsTurns (log : List Entry) (progress : Progress) (kept : Kept) : Type 0 where
  pub past : Past
  pub journal : Journal
  pub told : kept.past ≡ Some past
  pub stands : Stands past kept.gate kept.has_record journal
  pub begins : turns_in journal.records ≡ handed log ++ turns_in (drop progress.given progress.records)

-- The file holds such a journal, or such a one with one turn more, whole.
pub record HoldsTurns (log : List Entry) (progress : Progress) (file : List ℕ) : Type 0 where
  pub journal : Journal
  pub more : List PlainTurn
  pub holds : Holds journal file
  pub begins : turns_in journal.records ≡ handed log ++ (turns_in (drop progress.given progress.records) ++ more)
  pub one : length more ≤ 1

-- A crash at any moment of a call leaves a journal with the turns that were handed out before it. Once it has handed
-- out a turn, or said that the run stops, every crash leaves one with the turns that were handed out.
pub record StaysJournal (log log' : List Entry) (old new : Kept) (was is : Progress) (done : Bool)
    (keeps : KeepsTurns log was old) : Type 0 where
  pub now : Past
  pub told : new.past ≡ Some now
  pub leaves : LeavesOnly keeps.past now (HoldsTurns log was)
  pub after : done ≡ true → KeepsTurns log' is new

abbrev pub is_done : Turn → Bool
is_done turn = if is_failed_turn turn.what then false else not (is_memory_turn turn.what)

abbrev pub NextKeepsTurns : Type 0
NextKeepsTurns =
    (old new : Seen) (was is : Progress) (wants : List Want) (buf : List ℕ) (turn : Turn) (log : List Entry)
    (keeps : KeepsTurns log was old.kept) → AreTurns was.records
    → NextOf old new was is wants buf turn
    → StaysJournal log (log ++ next_entries wants buf turn) old.kept new.kept was is (is_done turn) keeps

abbrev pub ListenKeepsTurns : Type 0
ListenKeepsTurns =
    (old new : Seen) (was is : Progress) (address : List ℕ) (answer : ListenAnswer) (log : List Entry)
    (keeps : KeepsTurns log was old.kept) → BeginsWithListen was.records
    → ListenOf old new was is address answer
    → StaysJournal log (log ++ listen_entries address answer) old.kept new.kept was is (is_ready answer) keeps

abbrev pub SendKeepsTurns : Type 0
SendKeepsTurns =
    (old new : Seen) (was is : Progress) (link : ℕ) (bytes : List ℕ) (answer : SendAnswer) (log : List Entry)
    (keeps : KeepsTurns log was old.kept)
    → SendOf old new was is link bytes answer
    → StaysJournal log (log ++ send_entries link bytes answer) old.kept new.kept was is true keeps

abbrev pub CloseKeepsTurns : Type 0
CloseKeepsTurns =
    (old new : Seen) (was is : Progress) (link : ℕ) (log : List Entry) (keeps : KeepsTurns log was old.kept)
    → CloseOf old new was is link → StaysJournal log (log ++ Close link ∷ []) old.kept new.kept was is true keeps

-- a journal that begins has no turn yet
abbrev pub BegunKeepsTurns : Type 0
BegunKeepsTurns = (config : List ℕ) (kept : Kept) (progress : Progress) → progress.records ≡ [] → progress.given ≡ 0
    → StandsBlank config (record { gate = kept.gate; has_record = kept.has_record }) kept.past
    → KeepsTurns [] progress kept

-- of one that is resumed all turns are still to be given
pub record ResumedKeeps (progress : Progress) (kept : Kept) : Type 0 where
  pub keeps : KeepsTurns [] progress kept
  pub first : BeginsWithListen progress.records
  pub others : AreTurns progress.records

abbrev pub ResumedKeepsTurns : Type 0
ResumedKeepsTurns =
    (past : Past) (config : List ℕ) (kept : Kept) (progress : Progress) → kept.past ≡ Some (synced past)
    → progress.given ≡ 0
    → Resumes past (record { gate = kept.gate; has_record = kept.has_record }) config progress.records
    → ResumedKeeps progress kept
