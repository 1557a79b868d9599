-- The turns that a client took, one after another, and what they say of its requests and replies.
use Rattle.std.specs.Prelude.{◌≡◌, ℕ, ◌<◌, ◌≤◌, false, List, [], ◌∷◌, ◌++◌, length, map, fold}
use Rattle.std.specs.List.{flat_map}
use Rattle.list_laws.specs.Prefix.{IsPrefix}
use Rattle.framing.specs.Frames.{frames_of}
use Rattle.ports.specs.declared.entry.Entry.{Entry}
use Rattle.ports.specs.declared.entry.Entry.TheVariants.{Next}
use Rattle.ports.specs.declared.links.Turn.{Turn}
use Rattle.ports.specs.declared.links.Want.{Want}
use Rattle.riemann_client.specs.Exchange.{Exchange, Reply, begun, heard, progress_of, replies_come, requests_sent}
use Rattle.riemann_client.specs.Exchange.{wants_of}
use Rattle.riemann_client.specs.Sending.{AreSends, IsSettled, after_sends}
use Rattle.riemann_client.specs.declared.progress.Progress.TheVariants.{More}

-- a turn with its bytes, what was waited for when it was asked for, and the calls that the client made in it
pub record ClientTurn : Type 0 where
  pub wants : List Want
  pub turn : Turn
  pub piece : List ℕ
  pub calls : List Entry

abbrev pub entries_of_turn : ClientTurn → List Entry
entries_of_turn taken = Next taken.wants taken.turn taken.piece ∷ taken.calls

-- the calls that were made of links
abbrev pub entries_of : List ClientTurn → List Entry
entries_of turns = flat_map entries_of_turn turns

-- the exchange at the end of the turn
abbrev pub after_turn : Exchange → ClientTurn → Exchange
after_turn exchange taken = after_sends taken.calls (heard taken.turn taken.piece exchange)

abbrev pub exchange_from : Exchange → List ClientTurn → Exchange
exchange_from exchange turns = fold after_turn exchange turns

-- what the turns come to, where the clock was read first at this moment
abbrev pub exchange_after : ℕ → List ClientTurn → Exchange
exchange_after start turns = exchange_from (begun start) turns

-- The turn was asked for with what is waited for, and after it the exchange goes on: all requests are sent that are
-- taken.
pub record IsGoing (stream : List ℕ) (exchange : Exchange) (taken : ClientTurn) : Type 0 where
  pub wanted : taken.wants ≡ wants_of stream exchange
  pub going : progress_of stream exchange (heard taken.turn taken.piece exchange) ≡ More
  pub may : AreSends stream taken.calls (heard taken.turn taken.piece exchange)
  pub works : (after_turn exchange taken).gone ≡ false
  pub settled : IsSettled stream (after_turn exchange taken)

abbrev pub AreGoing : List ℕ → Exchange → List ClientTurn → Type 0
AreGoing stream exchange [] = Unit {0}
AreGoing stream exchange (taken ∷ turns) =
    IsGoing stream exchange taken × AreGoing stream (after_turn exchange taken) turns

-- ---- what holds of all such turns

abbrev pub body_of : Reply → List ℕ
body_of reply = reply.body

-- The bytes taken are a prefix of the requests' frames, and the requests sent whole a prefix of the requests.
pub record SendsPrefix (stream : List ℕ) (exchange : Exchange) : Type 0 where
  pub bytes : IsPrefix exchange.taken stream
  pub requests : IsPrefix (requests_sent exchange) (frames_of stream)

-- The reply of this number became whole in one of these turns, before which the request of that number was sent whole.
pub record IsPaired (start : ℕ) (turns : List ClientTurn) (number : ℕ) : Type 0 where
  pub before : List ClientTurn
  pub taken : ClientTurn
  pub after : List ClientTurn
  pub are : turns ≡ before ++ taken ∷ after
  pub asked : number < length (requests_sent (exchange_after start before))
  pub not_before : length (replies_come (exchange_after start before)) ≤ number
  pub whole : number < length (replies_come (heard taken.turn taken.piece (exchange_after start before)))

-- The accepted replies are the first that came, in order.
pub record PairsReplies (start : ℕ) (turns : List ClientTurn) (exchange : Exchange) : Type 0 where
  pub first : IsPrefix (map body_of exchange.replies) (replies_come exchange)
  pub paired : (number : ℕ) → number < length exchange.replies → IsPaired start turns number

-- What holds of an exchange to which these turns led.
pub record IsSound (stream : List ℕ) (start : ℕ) (turns : List ClientTurn) (exchange : Exchange) : Type 0 where
  pub sent : SendsPrefix stream exchange
  pub paired : PairsReplies start turns exchange

-- after turns that went on
abbrev pub TurnsAreSound : Type 0
TurnsAreSound = (stream : List ℕ) (start : ℕ) (turns : List ClientTurn) → AreGoing stream (begun start) turns
    → IsSound stream start turns (exchange_after start turns)

-- what came in one turn more, and the sends in it, of which the last may have failed
abbrev pub after_last : ℕ → List ClientTurn → ClientTurn → List Entry → Exchange
after_last start turns last sends = after_sends sends (heard last.turn last.piece (exchange_after start turns))

-- after turns that went on, and one more
abbrev pub LastIsSound : Type 0
LastIsSound =
    (stream : List ℕ) (start : ℕ) (turns : List ClientTurn) (last : ClientTurn) (sends : List Entry)
    → AreGoing stream (begun start) turns
    → AreSends stream sends (heard last.turn last.piece (exchange_after start turns))
    → IsSound stream start (turns ++ last ∷ []) (after_last start turns last sends)
