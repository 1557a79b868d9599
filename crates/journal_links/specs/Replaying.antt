-- The turns of a journal, given again.
use Rattle.std.specs.Prelude.{◌≡◌, ℕ, ◌-◌, min, nat_lt, if◌then◌else◌, List, [], ◌∷◌, length, slice_set, Option, Some}
use Rattle.std.specs.Prelude.{None}
use Rattle.journal_format.specs.declared.turn_record.SendEnd.{SendEnd}
use Rattle.journal_format.specs.declared.turn_record.SendEnd.TheVariants as end
use Rattle.journal_format.specs.declared.turn_record.Summary.{Summary}
use Rattle.journal_format.specs.declared.turn_record.TurnEvent.{TurnEvent}
use Rattle.journal_format.specs.declared.turn_record.TurnEvent.TheVariants as event
use Rattle.journal_format.specs.declared.turn_record.TurnRecord.{TurnRecord}
use Rattle.ports.specs.Links.{piece_of}
use Rattle.ports.specs.declared.links.SendAnswer.{SendAnswer}
use Rattle.ports.specs.declared.links.SendAnswer.TheVariants as send
use Rattle.ports.specs.declared.links.Turn.{Turn}
use Rattle.ports.specs.declared.links.What.{What}
use Rattle.ports.specs.declared.links.What.TheVariants.{Idle, Opened, Read, Ended, Broken, Room}
use Rattle.recorded_links.specs.Sending.{place_of, summary_at}

-- what a recorded event is given as
abbrev pub what_of : TurnEvent → What
what_of event.Listen = Idle
what_of event.Idle = Idle
what_of (event.Opened link) = Opened link
what_of (event.Read link bytes) = Read link (length bytes)
what_of (event.Ended link) = Ended link
what_of (event.Broken link) = Broken link
what_of (event.Room link) = Room link

-- the bytes of a read
abbrev pub bytes_of : TurnEvent → List ℕ
bytes_of (event.Read link bytes) = bytes
bytes_of _ = []

-- the turn of a record
abbrev pub turn_of : TurnRecord → Turn
turn_of entry = record { secs = entry.secs; what = what_of entry.event }

-- the summaries of the record that is next
abbrev pub summaries_next : List TurnRecord → List Summary
summaries_next [] = []
summaries_next (entry ∷ entries) = entry.summaries

-- ---- sends before a turn that is given again

-- what a send is answered once all bytes that were taken are
abbrev pub last_answer : SendEnd → SendAnswer
last_answer end.Took = send.Later
last_answer end.Later = send.Later
last_answer end.Failed = send.Failed

-- a send is answered by the summary of its link, of which this many bytes are left to be taken
abbrev pub answer_of : Summary → ℕ → SendAnswer
answer_of summary count =
    if nat_lt 0 summary.taken then send.Took (min summary.taken count) else last_answer summary.end

abbrev pub answer_at : Option ℕ → ℕ → List Summary → SendAnswer
answer_at None count left = send.Later
answer_at (Some place) count left = answer_of (summary_at left place) count

abbrev pub answer_again : ℕ → ℕ → List Summary → SendAnswer
answer_again link count left = answer_at (place_of link left) count left

-- what is left to be taken after it
abbrev pub less : Summary → ℕ → Summary
less summary count = record { link = summary.link; taken = summary.taken - count; end = summary.end }

abbrev pub left_at : Option ℕ → ℕ → List Summary → List Summary
left_at None count left = left
left_at (Some place) count left = slice_set left place (less (summary_at left place) count)

abbrev pub left_after : ℕ → ℕ → List Summary → List Summary
left_after link count left = left_at (place_of link left) count left

-- ---- the next turn

-- The record `entry` was given as a turn, whose bytes are the first ones of the buffer. These are the records after it.
pub record GivesNext (entry : TurnRecord) (later : List TurnRecord) (turn : Turn) (buf : List ℕ) (left : List Summary)
    (rest : List TurnRecord) : Type 0 where
  pub turn_is : turn ≡ turn_of entry
  pub piece : piece_of turn.what buf ≡ bytes_of entry.event
  pub left_is : left ≡ summaries_next later
  pub rest_is : rest ≡ later

-- the same of the record of a `listen`, of which the second is given
pub record GivesListen (entry : TurnRecord) (later : List TurnRecord) (secs : ℕ) (left : List Summary)
    (rest : List TurnRecord) : Type 0 where
  pub secs_is : secs ≡ entry.secs
  pub left_is : left ≡ summaries_next later
  pub rest_is : rest ≡ later
