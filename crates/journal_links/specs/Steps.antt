-- What one call of links that keep a journal does.
use Rattle.std.specs.Prelude.{◌≡◌, ◌⊎◌, ℕ, ◌-◌, ◌<◌, Bool, true, false, nat_le, nat_lt, ◌&&◌, List, ◌∷◌, length, drop}
use Rattle.std.specs.Prelude.{slice_get, Option, Some, None}
use Rattle.journal_format.specs.declared.turn_record.Summary.{Summary}
use Rattle.journal_format.specs.declared.turn_record.TurnRecord.{TurnRecord}
use Rattle.ports.specs.Calls.{AddsCalls}
use Rattle.ports.specs.Links.{HasListenCause, is_memory_turn, listen_entries}
use Rattle.ports.specs.declared.links.ListenAnswer.{ListenAnswer}
use Rattle.ports.specs.declared.links.ListenAnswer.TheVariants as listen
use Rattle.ports.specs.declared.links.SendAnswer.{SendAnswer}
use Rattle.ports.specs.declared.links.SendAnswer.TheVariants as send
use Rattle.ports.specs.declared.links.Turn.{Turn}
use Rattle.ports.specs.declared.links.Want.{Want}
use Rattle.ports.specs.declared.links.What.{What}
use Rattle.ports.specs.declared.links.What.TheVariants.{Broken, Memory, Opened}
use Rattle.recorded_links.specs.Keeping.{is_ready}
use Rattle.recorded_links.specs.Numbers.{inner_number}
use Rattle.recorded_links.specs.Steps.{CloseStep, ListenStep, NextStep, OwnStep, Rests, Seen, SendStep, Unsent}
use Rattle.journal_links.specs.Opened.{closed_after, opened_after}
use Rattle.journal_links.specs.Replaying.{GivesListen, GivesNext, answer_again, left_after}

-- how far the turns of the journal were given again
pub record Progress : Type 0 where
  -- the records that the journal had
  pub records : List TurnRecord
  -- how many of them were given
  pub given : ℕ
  -- the summaries of the next one, less what was taken
  pub left : List Summary
  -- the links that were opened in the turns given so far, and not closed since, by rising number
  pub opened : List ℕ

abbrev pub progress_of : List TurnRecord → ℕ → List Summary → List ℕ → Progress
progress_of records given left opened = record { records = records; given = given; left = left; opened = opened }

-- whether all records were given
abbrev pub is_over : Progress → Bool
is_over progress = nat_le (length progress.records) progress.given

-- Whether the last turn was one of the journal's, and not its last. The first record is that of a `listen`.
abbrev pub is_replayed : List TurnRecord → ℕ → Bool
is_replayed records given = nat_lt 1 given && nat_lt given (length records)

abbrev pub secs_of : Option TurnRecord → ℕ
secs_of None = 0
secs_of (Some entry) = entry.secs

-- the second of the last record
abbrev pub last_secs : List TurnRecord → ℕ
last_secs records = secs_of (slice_get records (length records - 1))

-- no record was given, and no link opened or closed
pub record Stays (was is : Progress) : Type 0 where
  pub records : is.records ≡ was.records
  pub given : is.given ≡ was.given
  pub left : is.left ≡ was.left
  pub opened : is.opened ≡ was.opened

-- ---- `listen`

-- the answer of the inner links is handed out, or memory ran out
abbrev pub HandsAgain : ListenAnswer → ListenAnswer → Type 0
HandsAgain (listen.Ready secs) answer = (is_ready answer ≡ true) ⊎ (answer ≡ listen.Memory)
HandsAgain listen.Failed answer = answer ≡ listen.Failed
HandsAgain listen.Memory answer = answer ≡ listen.Memory

-- the answer has the second of the first record, which counts as given then
pub record GivesFirst (was is : Progress) (answer : ListenAnswer) : Type 0 where
  pub gives : (secs : ℕ) (entry : TurnRecord) (later : List TurnRecord) → answer ≡ listen.Ready secs
      → drop was.given was.records ≡ entry ∷ later → GivesListen entry later secs is.left (drop is.given is.records)
  pub still : is_ready answer ≡ false → is.given ≡ was.given
  pub records : is.records ≡ was.records
  pub opened : is.opened ≡ was.opened

-- The inner links were asked to listen, and nothing was recorded. Their answer is handed out with the journal's first
-- second.
pub record ListensAgain (old new : Seen) (was is : Progress) (address : List ℕ) (answer : ListenAnswer) : Type 0 where
  pub unspent : old.spent ≡ false
  pub unbegun : was.given ≡ 0
  pub some : was.given < length was.records
  pub asked : ListenAnswer
  pub asks : AddsCalls old.inner new.inner (listen_entries address asked)
  pub cause : HasListenCause old.inner.faults new.inner.faults asked
  pub hands : HandsAgain asked answer
  pub gives : GivesFirst was is answer
  pub kept : new.kept ≡ old.kept
  pub faults : new.faults ≡ old.faults
  pub sends : new.sends ≡ old.sends

-- Refused, or answered again with the journal's first second. With no turn left to give it is a `listen` of links that
-- record.
pub data ListenOf (old new : Seen) (was is : Progress) (address : List ℕ) (answer : ListenAnswer) : Type 0 where
  listen_unasked : (old.spent ≡ true) ⊎ (0 < was.given) → answer ≡ listen.Memory → Rests old new → Stays was is
      → ListenOf old new was is address answer
  listen_again : ListensAgain old new was is address answer → ListenOf old new was is address answer
  listen_first : is_over was ≡ true → ListenStep old new address answer → Stays was is
      → ListenOf old new was is address answer

-- ---- `next`

-- The next turn of the journal was given again, or memory ran out. Nothing was asked, and nothing recorded.
pub record GivesAgain (old new : Seen) (was is : Progress) (buf : List ℕ) (turn : Turn) : Type 0 where
  pub unspent : old.spent ≡ false
  pub begun : 0 < was.given
  pub gives : is_memory_turn turn.what ≡ false → (entry : TurnRecord) (later : List TurnRecord)
      → drop was.given was.records ≡ entry ∷ later
      → GivesNext entry later turn buf is.left (drop is.given is.records)
      × (is.opened ≡ opened_after turn.what was.opened)
  pub still : is_memory_turn turn.what ≡ true → is.given ≡ was.given
  pub records : is.records ≡ was.records
  pub rests : Rests old new

-- whether a turn opens no link with that number or a greater one
abbrev pub opens_before : ℕ → What → Bool
opens_before first (Opened link) = nat_lt link first
opens_before first _ = true

-- that a link of the journal broke, at the journal's last second
abbrev pub broken_turn : Progress → ℕ → Turn
broken_turn was link = record { secs = last_secs was.records; what = Broken link }

-- The first link that the journal opened and nobody closed is not open from then on. It is given as broken, unless the
-- run ends here.
pub record Breaks (old new : Seen) (was is : Progress) (turn : Turn) : Type 0 where
  pub link : ℕ
  pub first : slice_get was.opened 0 ≡ Some link
  pub gives : OwnStep old new (broken_turn was link) turn
  pub opened : is.opened ≡ closed_after link was.opened
  pub records : is.records ≡ was.records
  pub given : is.given ≡ was.given
  pub left : is.left ≡ was.left

-- First the turns of the journal, then a broken link for each that is open, and then the turns of the inner links.
pub data NextOf (old new : Seen) (was is : Progress) (wants : List Want) (buf : List ℕ) (turn : Turn) : Type 0 where
  next_unasked : is_over was ≡ false → (old.spent ≡ true) ⊎ (was.given ≡ 0) → turn.what ≡ Memory → Rests old new
      → Stays was is → NextOf old new was is wants buf turn
  next_again : is_over was ≡ false → GivesAgain old new was is buf turn → NextOf old new was is wants buf turn
  next_broken : is_over was ≡ true → Breaks old new was is turn → NextOf old new was is wants buf turn
  next_inner : is_over was ≡ true → slice_get was.opened 0 ≡ None → NextStep old new wants buf turn → Stays was is
      → NextOf old new was is wants buf turn

-- ---- `send` and `close`

-- A send before all turns were given again is answered by the summaries of the next record. One after them is passed
-- on.
pub data SendOf (old new : Seen) (was is : Progress) (link : ℕ) (bytes : List ℕ) (answer : SendAnswer) : Type 0 where
  send_again : is_over was ≡ false → answer ≡ answer_again link (length bytes) was.left
      → is.left ≡ left_after link (length bytes) was.left
      → is.records ≡ was.records → is.given ≡ was.given → is.opened ≡ was.opened → Rests old new
      → (old.spent ≡ true → new.spent ≡ true) → SendOf old new was is link bytes answer
  send_passed : is_over was ≡ true → SendStep old new link bytes answer → Stays was is
      → SendOf old new was is link bytes answer
  send_memory : is_over was ≡ true → answer ≡ send.Memory → Unsent old new → Stays was is
      → SendOf old new was is link bytes answer

-- The close of an inner link is passed on. Any other is that of a link of the journal.
pub data CloseOf (old new : Seen) (was is : Progress) (link : ℕ) : Type 0 where
  close_again : inner_number old.first link ≡ None → is.opened ≡ closed_after link was.opened → is.records ≡ was.records
      → is.given ≡ was.given → is.left ≡ was.left → Rests old new → (old.spent ≡ true → new.spent ≡ true)
      → CloseOf old new was is link
  close_passed : (number : ℕ) → inner_number old.first link ≡ Some number → CloseStep old new link → Stays was is
      → CloseOf old new was is link
