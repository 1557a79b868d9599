-- What one call of recorded links does.
use Rattle.std.specs.Prelude.{◌≡◌, ◌⊎◌, ℕ, ◌+◌, ◌<◌, Bool, true, false, List, [], ◌∷◌, length, Some, None}
use Rattle.std.specs.Option.{option_map}
use Rattle.disk_port.specs.Calls.{DiskReport}
use Rattle.journal_format.specs.Limits.{journal_limit, step_limit}
use Rattle.journal_format.specs.Spelling.{IsRecord, record_bytes}
use Rattle.journal_format.specs.declared.turn_record.Summary.{Summary}
use Rattle.ports.specs.Calls.{AddsCalls, LinksReport}
use Rattle.ports.specs.Links.{HasListenCause, HasNextCause, listen_entries, next_entries, piece_of, send_entries}
use Rattle.ports.specs.declared.entry.Entry.{Entry}
use Rattle.ports.specs.declared.entry.Entry.TheVariants.{Close}
use Rattle.ports.specs.declared.links.ListenAnswer.{ListenAnswer}
use Rattle.ports.specs.declared.links.ListenAnswer.TheVariants as listen
use Rattle.ports.specs.declared.links.SendAnswer.{SendAnswer}
use Rattle.ports.specs.declared.links.SendAnswer.TheVariants as send
use Rattle.ports.specs.declared.links.Turn.{Turn}
use Rattle.ports.specs.declared.links.Want.{Want}
use Rattle.ports.specs.declared.links.What.TheVariants.{Stopped, Memory}
use Rattle.recorded_links.specs.Keeping.{AddsRecord, FailedIf, HandsListen, HandsOut, Kept, entry_of, is_lost}
use Rattle.recorded_links.specs.Keeping.{is_lost_listen, is_ready, is_recorded, kept_of, listen_entry}
use Rattle.recorded_links.specs.Numbers.{inner_number, inner_wants, own_turn}
use Rattle.recorded_links.specs.Sending.{after_send, may_note}

-- What recorded links report: their own calls, where the inner links report theirs, and the faults of links and disk.
abbrev pub own_report : List Entry → LinksReport → DiskReport → LinksReport
own_report log inner disk = record {
  log = option_map (λ _. log) inner.log;
  script = None;
  faults = inner.faults + disk.faults;
}

-- what a call reads and changes
pub record Seen : Type 0 where
  -- what the inner links report
  pub inner : LinksReport
  -- the number of inner link 0
  pub first : ℕ
  pub kept : Kept
  -- the disk's count of faults
  pub faults : ℕ
  -- the summaries since the last record
  pub sends : List Summary
  -- whether each later `listen` and `next` answers out of memory
  pub spent : Bool

abbrev pub seen : LinksReport → ℕ → DiskReport → ℕ → Bool → List Summary → Bool → Seen
seen inner first disk gate has_record sends spent = record {
  inner = inner;
  first = first;
  kept = kept_of disk.past gate has_record;
  faults = disk.faults;
  sends = sends;
  spent = spent;
}

-- nothing was asked, and nothing recorded
pub record Rests (old new : Seen) : Type 0 where
  pub inner : new.inner ≡ old.inner
  pub kept : new.kept ≡ old.kept
  pub faults : new.faults ≡ old.faults
  pub sends : new.sends ≡ old.sends

-- ---- `next`

-- the links listen, and may be used
pub record IsReady (seen : Seen) : Type 0 where
  pub unspent : seen.spent ≡ false
  pub begun : seen.kept.has_record ≡ true

-- The inner links were asked for a turn, or memory ran out before they were.
pub data Asks (first : ℕ) (old new : LinksReport) (wants : List Want) (buf : List ℕ) (asked : Turn) : Type 0 where
  not_asked : asked.what ≡ Memory → new ≡ old → Asks first old new wants buf asked
  answered : (answer : Turn) → AddsCalls old new (next_entries (inner_wants first wants) buf answer)
      → HasNextCause old.faults new.faults answer.what → asked ≡ own_turn first answer
      → Asks first old new wants buf asked

-- the turn was asked for, and its record added before it was handed out
pub record Takes (old new : Seen) (wants : List Want) (buf : List ℕ) (turn : Turn) : Type 0 where
  pub ready : IsReady old
  pub room : old.kept.gate + step_limit < journal_limit
  pub asked : Turn
  pub asks : Asks old.first old.inner new.inner wants buf asked
  pub hands : HandsOut asked.what asked turn
  pub allowed : is_recorded asked.what ≡ true → IsRecord (entry_of old.sends asked (piece_of asked.what buf))
  pub records : is_recorded asked.what ≡ true
      → AddsRecord (record_bytes (entry_of old.sends asked (piece_of asked.what buf)))
      (is_recorded turn.what) old.kept new.kept
  pub other : is_recorded asked.what ≡ false → new.kept ≡ old.kept
  pub faults : FailedIf (is_lost asked.what turn.what) old.faults new.faults
  pub cleared : is_recorded turn.what ≡ true → new.sends ≡ []
  pub uncleared : is_recorded turn.what ≡ false → new.sends ≡ old.sends
  pub begun : new.kept.has_record ≡ true
  pub spent : is_lost asked.what turn.what ≡ true → new.spent ≡ true

-- there is no room in the journal for one more record and a gate
abbrev pub IsFull : Kept → Type 0
IsFull kept = journal_limit < kept.gate + 1 + step_limit

pub data NextStep (old new : Seen) (wants : List Want) (buf : List ℕ) (turn : Turn) : Type 0 where
  next_refused : (old.spent ≡ true) ⊎ (old.kept.has_record ≡ false) → turn.what ≡ Memory → Rests old new
      → NextStep old new wants buf turn
  next_full : IsReady old → IsFull old.kept → turn ≡ record { secs = 0; what = Stopped } → Rests old new
      → NextStep old new wants buf turn
  next_taken : Takes old new wants buf turn → NextStep old new wants buf turn

-- ---- a turn that is not one of the inner links

-- the record of the turn was added before it was handed out
pub record TakesOwn (old new : Seen) (asked turn : Turn) : Type 0 where
  pub ready : IsReady old
  pub room : old.kept.gate + step_limit < journal_limit
  pub inner : new.inner ≡ old.inner
  pub hands : HandsOut asked.what asked turn
  pub allowed : IsRecord (entry_of old.sends asked [])
  pub records : AddsRecord (record_bytes (entry_of old.sends asked [])) (is_recorded turn.what) old.kept new.kept
  pub faults : FailedIf (is_lost asked.what turn.what) old.faults new.faults
  pub cleared : is_recorded turn.what ≡ true → new.sends ≡ []
  pub uncleared : is_recorded turn.what ≡ false → new.sends ≡ old.sends
  pub begun : new.kept.has_record ≡ true
  pub spent : is_lost asked.what turn.what ≡ true → new.spent ≡ true

pub data OwnStep (old new : Seen) (asked turn : Turn) : Type 0 where
  own_refused : (old.spent ≡ true) ⊎ (old.kept.has_record ≡ false) → turn.what ≡ Memory → Rests old new
      → OwnStep old new asked turn
  own_full : IsReady old → IsFull old.kept → turn ≡ record { secs = 0; what = Stopped } → Rests old new
      → OwnStep old new asked turn
  own_taken : TakesOwn old new asked turn → OwnStep old new asked turn

-- ---- `listen`

-- The inner links were asked to listen, and the record was added before their answer was handed out.
pub record TakesListen (old new : Seen) (address : List ℕ) (answer : ListenAnswer) : Type 0 where
  pub unspent : old.spent ≡ false
  pub unbegun : old.kept.has_record ≡ false
  pub asked : ListenAnswer
  pub asks : AddsCalls old.inner new.inner (listen_entries address asked)
  pub cause : HasListenCause old.inner.faults new.inner.faults asked
  pub hands : HandsListen asked answer
  pub allowed : (secs : ℕ) → asked ≡ listen.Ready secs → IsRecord (listen_entry old.sends secs)
  pub records : (secs : ℕ) → asked ≡ listen.Ready secs
      → AddsRecord (record_bytes (listen_entry old.sends secs)) (is_ready answer) old.kept new.kept
  pub other : is_ready asked ≡ false → new.kept ≡ old.kept
  pub faults : FailedIf (is_lost_listen asked answer) old.faults new.faults
  pub cleared : is_ready answer ≡ true → new.sends ≡ []
  pub uncleared : is_ready answer ≡ false → new.sends ≡ old.sends
  pub begun : new.kept.has_record ≡ is_ready answer
  pub spent : is_lost_listen asked answer ≡ true → new.spent ≡ true

pub data ListenStep (old new : Seen) (address : List ℕ) (answer : ListenAnswer) : Type 0 where
  listen_refused : (old.spent ≡ true) ⊎ (old.kept.has_record ≡ true) → answer ≡ listen.Memory → Rests old new
      → ListenStep old new address answer
  listen_taken : TakesListen old new address answer → ListenStep old new address answer

-- ---- `send` and `close`

-- A send was passed to the inner links and answered by them. One on a link that is not theirs, and one that could not
-- be noted, was answered Later here.
pub record SendStep (old new : Seen) (link : ℕ) (bytes : List ℕ) (answer : SendAnswer) : Type 0 where
  pub passed : (number : ℕ) → inner_number old.first link ≡ Some number → may_note link (length bytes) old.sends ≡ true
      → AddsCalls old.inner new.inner (send_entries number bytes answer)
  pub own : inner_number old.first link ≡ None → (answer ≡ send.Later) × (new.inner ≡ old.inner)
  pub unnoted : may_note link (length bytes) old.sends ≡ false → (answer ≡ send.Later) × (new.inner ≡ old.inner)
  pub sends : new.sends ≡ after_send link answer old.sends
  pub kept : new.kept ≡ old.kept
  pub faults : new.faults ≡ old.faults
  pub spent : old.spent ≡ true → new.spent ≡ true

-- memory ran out in a send: no byte was taken, and no call is in the log
pub record Unsent (old new : Seen) : Type 0 where
  pub calls : AddsCalls old.inner new.inner []
  pub sends : new.sends ≡ old.sends
  pub kept : new.kept ≡ old.kept
  pub faults : new.faults ≡ old.faults

-- the close was passed to the inner links, where the link is one of theirs
pub record CloseStep (old new : Seen) (link : ℕ) : Type 0 where
  pub passed : (number : ℕ) → inner_number old.first link ≡ Some number
      → AddsCalls old.inner new.inner (Close number ∷ [])
  pub own : inner_number old.first link ≡ None → new.inner ≡ old.inner
  pub sends : new.sends ≡ old.sends
  pub kept : new.kept ≡ old.kept
  pub faults : new.faults ≡ old.faults
  pub spent : old.spent ≡ true → new.spent ≡ true
