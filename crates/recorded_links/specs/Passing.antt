-- Which calls were made of the inner links, for those of links that record.
use Rattle.std.specs.Prelude.{◌≡◌, ◌⊎◌, ℕ, false, true, List, [], ◌∷◌, ◌++◌, length, Some, None}
use Rattle.journal_format.specs.declared.turn_record.Summary.{Summary}
use Rattle.ports.specs.Links.{listen_entries, next_entries, send_entries}
use Rattle.ports.specs.declared.entry.Entry.{Entry}
use Rattle.ports.specs.declared.entry.Entry.TheVariants.{Next, Send, Close}
use Rattle.ports.specs.declared.links.ListenAnswer.{ListenAnswer}
use Rattle.ports.specs.declared.links.SendAnswer.{SendAnswer}
use Rattle.ports.specs.declared.links.SendAnswer.TheVariants.{Later}
use Rattle.ports.specs.declared.links.Turn.{Turn}
use Rattle.ports.specs.declared.links.Want.{Want}
use Rattle.ports.specs.declared.links.What.TheVariants.{Stopped}
use Rattle.recorded_links.specs.Keeping.{HandsListen, HandsOut}
use Rattle.recorded_links.specs.Numbers.{inner_number, inner_wants, own_turn}
use Rattle.recorded_links.specs.Sending.{may_note}
use Rattle.recorded_links.specs.Noting.{noted}

-- One call of links that record, as an entry of their log, and the call of the inner links that was made for it, whose
-- numbers begin there with `first`. `sends` is what came of the sends since the last record.
pub data IsPassed (first : ℕ) (sends : List Summary) (made asked : List Entry) : Type 0 where
  -- out of memory
  unasked : made ≡ [] → asked ≡ [] → IsPassed first sends made asked
  listens : (address : List ℕ) (given answer : ListenAnswer) → HandsListen given answer
      → made ≡ listen_entries address answer → asked ≡ listen_entries address given → IsPassed first sends made asked
  turns : (wants : List Want) (buf : List ℕ) (given turn : Turn)
      → (let own = own_turn first given in HandsOut own.what own turn) → made ≡ next_entries wants buf turn
      → asked ≡ next_entries (inner_wants first wants) buf given
      → IsPassed first sends made asked
  -- the links stop the run themselves; that the journal is full then, `AreCalls` says (`next_full`)
  stops : (wants : List Want) → made ≡ Next wants (record { secs = 0; what = Stopped }) [] ∷ [] → asked ≡ []
      → IsPassed first sends made asked
  sent : (link number : ℕ) (bytes : List ℕ) (answer : SendAnswer) → inner_number first link ≡ Some number
      → may_note link (length bytes) sends ≡ true → made ≡ send_entries link bytes answer
      → asked ≡ send_entries number bytes answer
      → IsPassed first sends made asked
  -- a send on a link that is not an inner one, or that could not be noted
  unsent : (link : ℕ) (bytes : List ℕ) → (inner_number first link ≡ None) ⊎ (may_note link (length bytes) sends ≡ false)
      → made ≡ Send link bytes Later ∷ [] → asked ≡ [] → IsPassed first sends made asked
  closed : (link number : ℕ) → inner_number first link ≡ Some number → made ≡ Close link ∷ []
      → asked ≡ Close number ∷ [] → IsPassed first sends made asked
  closed_own : (link : ℕ) → inner_number first link ≡ None → made ≡ Close link ∷ [] → asked ≡ []
      → IsPassed first sends made asked

-- all calls of links that record, and those of the inner links
pub data Passes (first : ℕ) : List Entry → List Entry → Type 0 where
  none_made : {calls asked : List Entry} → calls ≡ [] → asked ≡ [] → Passes first calls asked
  one_made : {calls asked : List Entry} → (before made there more : List Entry) → Passes first before there
      → IsPassed first (noted before).sends made more → calls ≡ before ++ made → asked ≡ there ++ more
      → Passes first calls asked
