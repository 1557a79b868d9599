-- What a client represents.
use Rattle.std.specs.Prelude.{◌≡◌, ℕ, Bool, false, List, [], ◌∷◌, ◌++◌, length, map, Option, Some, None}
use Rattle.std.specs.Option.{ForSome}
use Rattle.framing.specs.Frames.{frames_of, partial}
use Rattle.ports.specs.Links.{MayClose}
use Rattle.ports.specs.declared.entry.Entry.{Entry}
use Rattle.ports.specs.declared.entry.Entry.TheVariants.{Next}
use Rattle.ports.specs.declared.links.Turn.{Turn}
use Rattle.ports.specs.declared.links.Want.{Want}
use Rattle.riemann_msg.specs.declared.msg.Msg.{Msg}
use Rattle.riemann_client.specs.Exchange.{Exchange, message_in}
use Rattle.riemann_client.specs.Requests.{HasAnswered, taken_of}
use Rattle.riemann_client.specs.declared.client.Client.{Client}

-- the frames of the requests, one after another
abbrev pub stream_of : Client → List ℕ
stream_of client = client.requests.stream

-- the client's link
abbrev pub link_of : Client → Option ℕ
link_of client = client.link

-- the replies that were accepted
abbrev pub replies_of : Client → List Msg
replies_of client = client.replies

-- what the client waits for
abbrev pub wants_in : Client → List Want
wants_in client = client.wants

-- the exchange is over, or memory ran out: no other turn is taken
abbrev pub is_ended : Client → Bool
is_ended client = client.ended

-- The client is at this exchange, in which each reply was accepted: of the bytes that came it keeps those of no whole
-- frame.
pub record Represents (client : Client) (exchange : Exchange) : Type 0 where
  pub now : client.clock ≡ exchange.now
  pub link : client.link ≡ exchange.link
  pub blocked : client.blocked ≡ exchange.blocked
  pub gone : client.gone ≡ exchange.gone
  pub taken : taken_of client.requests ≡ exchange.taken
  pub count : client.requests.taken ≡ length exchange.taken
  pub input : client.input ≡ record { bytes = partial exchange.came; stopped = false }
  pub replies : client.replies ≡ map message_in exchange.replies
  pub accepted : length exchange.replies ≡ length (frames_of exchange.came)
  pub answered : HasAnswered client.requests (length exchange.replies)

-- ---- what is known of the links from their log, where they report it

-- the link, where there is one, was opened and not closed since
abbrev pub IsUnclosed : Option (List Entry) → Option ℕ → Type 0
IsUnclosed log None = Unit {0}
IsUnclosed log (Some link) = MayClose log link

-- the last call was `next`, and it answered this turn
pub record EndsWith (turn : Turn) (entries : List Entry) : Type 0 where
  pub before : List Entry
  pub wants : List Want
  pub piece : List ℕ
  pub is : entries ≡ before ++ Next wants turn piece ∷ []

abbrev pub Answered : Option (List Entry) → Turn → Type 0
Answered log turn = ForSome log (EndsWith turn)
