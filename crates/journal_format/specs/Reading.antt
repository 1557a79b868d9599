-- Reading a record from left to right.
use Rattle.std.specs.Prelude.{◌≡◌, ℕ, zero, suc, ◌==◌, nat_lt, nat_le, if◌then◌else◌, List, [], ◌∷◌, length, take, drop}
use Rattle.std.specs.Prelude.{Option, Some, None, Result, Ok, Err, option_and_then}
use Rattle.std.specs.Int.{Width, w16, w32, w64, byte_len, from_be_bytes}
use Rattle.journal_format.specs.Limits.{piece_limit, summary_limit}
use Rattle.journal_format.specs.Spelling.{are_distinct}
use Rattle.journal_format.specs.declared.turn_record.SendEnd.{SendEnd}
use Rattle.journal_format.specs.declared.turn_record.SendEnd.TheVariants as send
use Rattle.journal_format.specs.declared.turn_record.Summary.{Summary}
use Rattle.journal_format.specs.declared.turn_record.TurnEvent.{TurnEvent}
use Rattle.journal_format.specs.declared.turn_record.TurnEvent.TheVariants.{Listen, Idle, Opened, Read, Ended, Broken}
use Rattle.journal_format.specs.declared.turn_record.TurnEvent.TheVariants.{Room}
use Rattle.journal_format.specs.declared.turn_record.TurnRecord.{TurnRecord}
use Rattle.journal_format.specs.declared.unread.Unread.{Unread}
use Rattle.journal_format.specs.declared.unread.Unread.TheVariants.{Memory, Refused}

infixl 10 ◌>>=◌
abbrev pub ◌>>=◌ : {A B : Type 0} → Option A → (A → Option B) → Option B
o >>= f = option_and_then f o

-- What a function returned, seen by view, is what reading gives, unless memory ran out.
abbrev pub Fails : {Y : Type 0} → Unread → Option Y → Type 0
Fails Memory read = Unit {0}
Fails Refused read = read ≡ None

abbrev pub Gives : {X Y : Type 0} → (X → Y) → Result X Unread → Option Y → Type 0
Gives view (Ok x) read = read ≡ Some (view x)
Gives view (Err why) read = Fails why read

-- a record that is read, and the bytes after it
abbrev pub read_as : TurnRecord → List ℕ → Option (TurnRecord × List ℕ)
read_as entry rest = Some (entry, rest)

-- Each of these gives what it reads, and the bytes after it.
abbrev pub number_at : Width → List ℕ → Option (ℕ × List ℕ)
number_at w bytes =
    if nat_lt (length bytes) (byte_len w) then None
    else Some (from_be_bytes w (take (byte_len w) bytes), drop (byte_len w) bytes)

unfoldable pub end_of : ℕ → Option SendEnd
end_of byte =
    if byte == 0 then Some send.Took
    else (if byte == 1 then Some send.Later
    else (if byte == 2 then Some send.Failed else None))

unfoldable pub end_at : List ℕ → Option (SendEnd × List ℕ)
end_at [] = None
end_at (byte ∷ rest) = do
  end ← end_of byte
  Some (end, rest)

unfoldable pub summary_at : List ℕ → Option (Summary × List ℕ)
summary_at bytes = do
  link ← number_at w64 bytes
  taken ← number_at w64 link.1
  end ← end_at taken.1
  Some (record { link = link.0; taken = taken.0; end = end.0 }, end.1)

unfoldable pub summaries_at : ℕ → List ℕ → Option (List Summary × List ℕ)
summaries_at zero bytes = Some ([], bytes)
summaries_at (suc n) bytes = do
  first ← summary_at bytes
  others ← summaries_at n first.1
  Some (first.0 ∷ others.0, others.1)

-- an event of a link that has no other field, by its kind
unfoldable pub link_event : ℕ → ℕ → Option TurnEvent
link_event kind link =
    if kind == 2 then Some (Opened link)
    else (if kind == 4 then Some (Ended link)
    else (if kind == 5 then Some (Broken link)
    else (if kind == 6 then Some (Room link) else None)))

unfoldable pub piece_at : ℕ → List ℕ → Option (TurnEvent × List ℕ)
piece_at link bytes = do
  count ← number_at w32 bytes
  if nat_lt 0 count.0 then
      (if nat_le count.0 piece_limit then
      (if nat_le count.0 (length count.1) then Some (Read link (take count.0 count.1), drop count.0 count.1)
      else None) else None) else None

unfoldable pub link_event_at : ℕ → List ℕ → Option (TurnEvent × List ℕ)
link_event_at kind bytes = do
  link ← number_at w64 bytes
  if kind == 3 then piece_at link.0 link.1 else do
    event ← link_event kind link.0
    Some (event, link.1)

unfoldable pub event_at : List ℕ → Option (TurnEvent × List ℕ)
event_at [] = None
event_at (kind ∷ rest) =
    if kind == 0 then Some (Listen, rest)
    else (if kind == 1 then Some (Idle, rest) else link_event_at kind rest)

-- the summaries, by their count
unfoldable pub counted_at : ℕ → List ℕ → Option (List Summary × List ℕ)
counted_at count bytes =
    if nat_le count summary_limit then (do
      found ← summaries_at count bytes
      if are_distinct found.0 then Some found else None)
    else None

unfoldable pub record_at : List ℕ → Option (TurnRecord × List ℕ)
record_at bytes = do
  count ← number_at w16 bytes
  summaries ← counted_at count.0 count.1
  secs ← number_at w64 summaries.1
  event ← event_at secs.1
  Some (record { summaries = summaries.0; secs = secs.0; event = event.0 }, event.1)
