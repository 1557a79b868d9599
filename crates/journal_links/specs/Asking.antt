-- Which calls were made of the inner links, for those of links that keep a journal.
use Rattle.std.specs.Prelude.{◌≡◌, ℕ, true, List, [], ◌∷◌, ◌++◌, length, Some, None}
use Rattle.journal_format.specs.declared.turn_record.Summary.{Summary}
use Rattle.journal_format.specs.declared.turn_record.TurnRecord.{TurnRecord}
use Rattle.journal_links.specs.Steps.{HandsAgain, last_secs}
use Rattle.ports.specs.Calls.{AddsCalls, LinksReport}
use Rattle.ports.specs.Links.{listen_entries, next_entries, send_entries}
use Rattle.ports.specs.declared.entry.Entry.{Entry}
use Rattle.ports.specs.declared.entry.Entry.TheVariants.{Close}
use Rattle.ports.specs.declared.links.ListenAnswer.{ListenAnswer}
use Rattle.ports.specs.declared.links.SendAnswer.{SendAnswer}
use Rattle.ports.specs.declared.links.Turn.{Turn}
use Rattle.ports.specs.declared.links.Want.{Want}
use Rattle.ports.specs.declared.links.What.TheVariants.{Broken}
use Rattle.recorded_links.specs.Keeping.{HandsOut, is_recorded}
use Rattle.recorded_links.specs.Numbers.{inner_number}
use Rattle.recorded_links.specs.Noting.{noted}
use Rattle.recorded_links.specs.Passing.{IsPassed}
use Rattle.journal_links.specs.Opened.{first_free}
use Rattle.journal_links.specs.Recording.{records_after}

-- One call while turns of the journal are left, as an entry of the log, and the call of the inner links that was made
-- for it, whose numbers begin there with `first`. Which turn is given and what a send is answered, the calls themselves
-- say (`GivesAgain`, `send_again`).
pub data IsAgain (first : ℕ) (made asked : List Entry) : Type 0 where
  -- out of memory
  none_again : made ≡ [] → asked ≡ [] → IsAgain first made asked
  -- the address is the same; the second is the journal's
  listens_again : (address : List ℕ) (given answer : ListenAnswer) → HandsAgain given answer
      → made ≡ listen_entries address answer → asked ≡ listen_entries address given → IsAgain first made asked
  -- of a turn of the journal, and of a send that is answered by it, the inner links get nothing
  gives_again : (wants : List Want) (buf : List ℕ) (turn : Turn) → is_recorded turn.what ≡ true
      → made ≡ next_entries wants buf turn → asked ≡ [] → IsAgain first made asked
  sends_again : (link : ℕ) (bytes : List ℕ) (answer : SendAnswer) → made ≡ send_entries link bytes answer → asked ≡ []
      → IsAgain first made asked
  closes_again : (link : ℕ) → inner_number first link ≡ None → made ≡ Close link ∷ [] → asked ≡ []
      → IsAgain first made asked
  closes_inner : (link number : ℕ) → inner_number first link ≡ Some number → made ≡ Close link ∷ []
      → asked ≡ Close number ∷ [] → IsAgain first made asked

-- One call after them: as of links that record, or a turn in which a link of the journal broke, at the journal's last
-- second.
pub data IsAfter (first secs : ℕ) (sends : List Summary) (made asked : List Entry) : Type 0 where
  passes_on : IsPassed first sends made asked → IsAfter first secs sends made asked
  breaks : (link : ℕ) (wants : List Want) (buf : List ℕ) (turn : Turn)
      → HandsOut (Broken link) (record { secs = secs; what = Broken link }) turn → made ≡ next_entries wants buf turn
      → asked ≡ [] → IsAfter first secs sends made asked

-- All calls of links that keep a journal, those after the journal's turns, and those of the inner links.
pub data AsksFor (first secs : ℕ) : List Entry → List Entry → List Entry → Type 0 where
  none_made : {calls later asked : List Entry} → calls ≡ [] → later ≡ [] → asked ≡ []
      → AsksFor first secs calls later asked
  one_again : {calls later asked : List Entry} → (before made there more : List Entry)
      → AsksFor first secs before [] there → IsAgain first made more → calls ≡ before ++ made → later ≡ []
      → asked ≡ there ++ more → AsksFor first secs calls later asked
  one_after : {calls later asked : List Entry} → (before since made there more : List Entry)
      → AsksFor first secs before since there → IsAfter first secs (noted since).sends made more
      → calls ≡ before ++ made → later ≡ since ++ made → asked ≡ there ++ more
      → AsksFor first secs calls later asked

-- the calls that were made of the inner links for these, of links that resume the journal with these records
pub record AsksOf (records : List TurnRecord) (links links' : LinksReport) (calls : List Entry) : Type 0 where
  -- those after the journal's turns
  pub later : List Entry
  pub later_are : (noted later).records ≡ records_after (length records) calls
  pub asked : List Entry
  pub adds : AddsCalls links links' asked
  pub asks : AsksFor (first_free records) (last_secs records) calls later asked
