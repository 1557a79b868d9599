-- The calls of links that keep a journal, one after another.
use Rattle.std.specs.Prelude.{◌≡◌, ◌≢◌, ℕ, false, true, List, [], ◌∷◌, ◌++◌}
use Rattle.disk_port.specs.Calls.{DiskReport}
use Rattle.journal_format.specs.declared.finder.Found.{Found}
use Rattle.ports.specs.Calls.{LinksReport}
use Rattle.ports.specs.Links.{listen_entries, next_entries, send_entries}
use Rattle.ports.specs.declared.entry.Entry.{Entry}
use Rattle.ports.specs.declared.entry.Entry.TheVariants.{Close}
use Rattle.ports.specs.declared.links.ListenAnswer.{ListenAnswer}
use Rattle.ports.specs.declared.links.ListenAnswer.TheVariants as listen
use Rattle.ports.specs.declared.links.SendAnswer.{SendAnswer}
use Rattle.ports.specs.declared.links.SendAnswer.TheVariants as send
use Rattle.ports.specs.declared.links.Turn.{Turn}
use Rattle.ports.specs.declared.links.Want.{Want}
use Rattle.ports.specs.declared.links.What.TheVariants.{Memory}
use Rattle.recorded_links.specs.Keeping.{is_recorded}
use Rattle.recorded_links.specs.Steps.{CloseStep, ListenStep, NextStep, Seen, SendStep, Unsent, seen}

-- what each call of some links does, which leads from one state of them to another
pub record Steps (S : Type 0) : Type 1 where
  -- what a call reads and changes of the journal and of the inner links
  pub seen : S → Seen
  pub listens : S → S → List ℕ → ListenAnswer → Type 0
  pub turns : S → S → List Want → List ℕ → Turn → Type 0
  pub sends : S → S → ℕ → List ℕ → SendAnswer → Type 0
  pub closes : S → S → ℕ → Type 0

-- One call, with the entries that it adds to the log. After one that was out of memory so is each later `listen` and
-- `next`.
pub data IsCall {S : Type 0} (steps : Steps S) (old new : S) (made : List Entry) : Type 0 where
  listened : (address : List ℕ) (answer : ListenAnswer) → steps.listens old new address answer
      → (answer ≡ listen.Memory → (steps.seen new).spent ≡ true) → made ≡ listen_entries address answer
      → IsCall steps old new made
  turned : (wants : List Want) (buf : List ℕ) (turn : Turn) → steps.turns old new wants buf turn
      → (turn.what ≡ Memory → (steps.seen new).spent ≡ true) → made ≡ next_entries wants buf turn
      → IsCall steps old new made
  sent : (link : ℕ) (bytes : List ℕ) (answer : SendAnswer) → steps.sends old new link bytes answer
      → (answer ≡ send.Memory → (steps.seen new).spent ≡ true) → made ≡ send_entries link bytes answer
      → IsCall steps old new made
  closed : (link : ℕ) → steps.closes old new link → made ≡ Close link ∷ [] → IsCall steps old new made

-- These calls, one after another, led from there to here. The inner links kept their numbers.
pub data AreCalls {S : Type 0} (steps : Steps S) (start : S) : List Entry → S → Type 0 where
  none_yet : {calls : List Entry} {now : S} → calls ≡ [] → now ≡ start → AreCalls steps start calls now
  one_more : {calls : List Entry} {now : S} → (before made : List Entry) (old : S) → AreCalls steps start before old
      → IsCall steps old now made → (steps.seen now).first ≡ (steps.seen old).first → calls ≡ before ++ made
      → AreCalls steps start calls now

-- these calls, one after another, led from there to what the links and the disk report now
pub record LeadsTo {S : Type 0} (steps : Steps S) (start : S) (calls : List Entry) (links : LinksReport)
    (disk : DiskReport) : Type 0 where
  pub now : S
  pub made : AreCalls steps start calls now
  pub inner : (steps.seen now).inner ≡ links
  pub past : (steps.seen now).kept.past ≡ disk.past
  pub faults : (steps.seen now).faults ≡ disk.faults

-- These calls led from there to here. A turn was handed out, and since then there were sends and closes alone. So it is
-- when the lines and the replies of that turn go out.
pub data AreSince {S : Type 0} (steps : Steps S) (start : S) : List Entry → S → Type 0 where
  handed_out : {calls : List Entry} {now : S} → (before : List Entry) (old : S) (wants : List Want) (buf : List ℕ)
      (turn : Turn)
      → AreCalls steps start before old → steps.turns old now wants buf turn → is_recorded turn.what ≡ true
      → calls ≡ before ++ next_entries wants buf turn → AreSince steps start calls now
  then_sent : {calls : List Entry} {now : S} → (before : List Entry) (old : S) (link : ℕ) (bytes : List ℕ)
      (answer : SendAnswer)
      → AreSince steps start before old → steps.sends old now link bytes answer
      → calls ≡ before ++ send_entries link bytes answer → AreSince steps start calls now
  then_closed : {calls : List Entry} {now : S} → (before : List Entry) (old : S) (link : ℕ)
      → AreSince steps start before old → steps.closes old now link → calls ≡ before ++ Close link ∷ []
      → AreSince steps start calls now

-- ---- links that record

-- a send, of which nothing is in the log if it was out of memory
abbrev pub Sends : Seen → Seen → ℕ → List ℕ → SendAnswer → Type 0
Sends old new link bytes answer = (answer ≢ send.Memory → SendStep old new link bytes answer) ×
    (answer ≡ send.Memory → Unsent old new)

abbrev pub recording : Steps Seen
recording = record { seen = λ state. state; listens = ListenStep; turns = NextStep; sends = Sends; closes = CloseStep }

-- what is seen of links that record before the first call, in a journal that ends there and over these links and this
-- disk, if inner link 0 has that number
abbrev pub uncalled : ℕ → Found → LinksReport → DiskReport → Seen
uncalled first found links disk = seen links first disk found.gate found.has_record [] false
