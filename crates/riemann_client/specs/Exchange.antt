-- The exchange of a client with a server: what came from the link, what was taken by it, and what the replies come to.
use Rattle.std.specs.Prelude.{ℕ, ◌+◌, ◌==◌, nat_lt, nat_le, Bool, true, false, not, ◌&&◌, ◌||◌, if◌then◌else◌, List, []}
use Rattle.std.specs.Prelude.{◌∷◌, ◌++◌, length, map, take, drop, Option, Some, None, is_some, unwrap_or}
use Rattle.std.specs.Option.{option_map, option_or}
use Rattle.framing.specs.declared.TheConstants.{BODY_LIMIT}
use Rattle.framing.specs.Frames.{frames_of, partial, length_at}
use Rattle.ports.specs.declared.links.SendAnswer.{SendAnswer}
use Rattle.ports.specs.declared.links.SendAnswer.TheVariants.{Took, Later, Failed, Memory}
use Rattle.ports.specs.declared.links.Turn.{Turn}
use Rattle.ports.specs.declared.links.Want.{Want}
use Rattle.ports.specs.declared.links.What.{What}
use Rattle.ports.specs.declared.links.What.TheVariants as what
use Rattle.riemann_msg.specs.Fault.{Fault, first_fault}
use Rattle.riemann_msg.specs.Value.{message_of}
use Rattle.riemann_msg.specs.declared.msg.Msg.{Msg}
use Rattle.ev_types.specs.Clock.{next_moment}
use Rattle.riemann_client.specs.declared.progress.Progress.{Progress}
use Rattle.riemann_client.specs.declared.progress.Progress.TheVariants.{More, Whole, Unasked, Refused, Lost}

-- a reply that was accepted: its body, and the moment of the turn in which it became whole
pub record Reply : Type 0 where
  pub moment : ℕ
  pub body : List ℕ

abbrev pub reply_at : ℕ → List ℕ → Reply
reply_at moment body = record { moment = moment; body = body }

abbrev pub message_in : Reply → Msg
message_in reply = message_of reply.moment reply.body

pub record Exchange : Type 0 where
  -- the moment of the clock
  pub now : ℕ
  -- the link that was opened first
  pub link : Option ℕ
  -- a send took nothing, and it is not known yet that there is room again
  pub blocked : Bool
  -- no more can come: the link ended or broke, a send on it failed, or the links were stopped
  pub gone : Bool
  -- the bytes that were read from the link, and those that it took
  pub came : List ℕ
  pub taken : List ℕ
  -- the replies that were accepted, in order
  pub replies : List Reply

-- the clock was read at this moment, and nothing else has happened
abbrev pub begun : ℕ → Exchange
begun start = record { now = start; link = None; blocked = false; gone = false; came = []; taken = []; replies = [] }

-- ---- requests and replies, by their numbers from 0

-- the requests that were sent whole
abbrev pub requests_sent : Exchange → List (List ℕ)
requests_sent exchange = frames_of exchange.taken

-- the bodies of all replies that came
abbrev pub replies_come : Exchange → List (List ℕ)
replies_come exchange = frames_of exchange.came

abbrev pub refused : ℕ → Fault → Progress
refused number fault = Refused number fault.place fault.why

-- Why the reply of this number is not accepted, where `asked` requests were sent whole before its turn: the request of
-- that number was not, or the reply is no message.
abbrev pub reply_fault : ℕ → ℕ → List ℕ → Option Progress
reply_fault asked number body =
    if nat_lt number asked then option_map (refused number) (first_fault body) else Some (Unasked number)

-- the first fault of replies one after another, of which the first has this number
abbrev pub first_reply_fault : ℕ → ℕ → List (List ℕ) → Option Progress
first_reply_fault asked number [] = None
first_reply_fault asked number (body ∷ bodies) =
    option_or (reply_fault asked number body) (first_reply_fault asked (number + 1) bodies)

-- the replies before it, which are accepted
abbrev pub accepted_from : ℕ → ℕ → List (List ℕ) → List (List ℕ)
accepted_from asked number [] = []
accepted_from asked number (body ∷ bodies) =
    if is_some (reply_fault asked number body) then [] else body ∷ accepted_from asked (number + 1) bodies

-- ---- a turn

-- the replies that are whole only with this piece
abbrev pub new_replies : List ℕ → List ℕ → List (List ℕ)
new_replies came piece = drop (length (frames_of came)) (frames_of (came ++ piece))

abbrev pub is_link : ℕ → Option ℕ → Bool
is_link number None = false
is_link number (Some link) = link == number

-- the turn is one of the client's link
abbrev pub is_on : ℕ → Exchange → Bool
is_on number exchange = is_link number exchange.link

-- a piece came
abbrev pub heard_piece : List ℕ → Exchange → Exchange
heard_piece piece exchange = record exchange {
  came = exchange.came ++ piece;
  replies = exchange.replies ++ map (reply_at exchange.now)
      (accepted_from (length (requests_sent exchange)) (length (replies_come exchange))
      (new_replies exchange.came piece));
}

-- only of the client's link
abbrev pub read_from : ℕ → List ℕ → Exchange → Exchange
read_from number piece exchange = if is_on number exchange then heard_piece piece exchange else exchange

-- the link of this number ended or broke
abbrev pub lost : ℕ → Exchange → Exchange
lost number exchange = record exchange { gone = is_on number exchange || exchange.gone }

-- the link of this number may be sent to again
abbrev pub unblocked : ℕ → Exchange → Exchange
unblocked number exchange = record exchange { blocked = not (is_on number exchange) && exchange.blocked }

-- the client's link after an occurrence
abbrev pub link_after : What → Option ℕ → Option ℕ
link_after (what.Opened number) link = option_or link (Some number)
link_after what.Idle link = link
link_after (what.Read number count) link = link
link_after (what.Ended number) link = link
link_after (what.Broken number) link = link
link_after (what.Room number) link = link
link_after what.Stopped link = link
link_after what.Failed link = link
link_after what.Memory link = link

-- turns of other links change nothing
abbrev pub occurred : What → List ℕ → Exchange → Exchange
occurred what.Idle piece exchange = exchange
occurred (what.Opened number) piece exchange = record exchange { link = option_or exchange.link (Some number) }
occurred (what.Read number count) piece exchange = read_from number piece exchange
occurred (what.Ended number) piece exchange = lost number exchange
occurred (what.Broken number) piece exchange = lost number exchange
occurred (what.Room number) piece exchange = unblocked number exchange
occurred what.Stopped piece exchange = record exchange { gone = true }
occurred what.Failed piece exchange = exchange
occurred what.Memory piece exchange = exchange

-- the clock is read
abbrev pub passed : ℕ → Exchange → Exchange
passed secs exchange = record exchange { now = next_moment exchange.now secs }

-- a turn: its reading of the clock, and then its occurrence
abbrev pub heard : Turn → List ℕ → Exchange → Exchange
heard turn piece exchange = occurred turn.what piece (passed turn.secs exchange)

-- ---- how an exchange stands at the end of a turn

-- the first fault of the replies that became whole in it
abbrev pub fault_between : Exchange → Exchange → Option Progress
fault_between before after =
    first_reply_fault (length (requests_sent before)) (length (replies_come before))
    (drop (length (replies_come before)) (replies_come after))

-- the bytes begin with a length over the limit
unfoldable pub is_oversized : List ℕ → Bool
is_oversized bytes = nat_le 4 (length bytes) && nat_lt BODY_LIMIT (length_at bytes)

-- no reply can come any more
abbrev pub is_over : Exchange → Bool
is_over exchange = exchange.gone || is_oversized (partial exchange.came)

-- where each reply was accepted: `stream` is the frames of the requests, one after another
abbrev pub standing : List ℕ → Exchange → Progress
standing stream exchange =
    if length (replies_come exchange) == length (frames_of stream) then Whole
    else (if is_over exchange then Lost else More)

-- A reply that is not accepted comes first, then that there are as many replies as requests, and then that no more can
-- come.
abbrev pub progress_of : List ℕ → Exchange → Exchange → Progress
progress_of stream before after = unwrap_or (fault_between before after) (standing stream after)

-- ---- sends

-- what of the requests was not taken
abbrev pub unsent : List ℕ → Exchange → List ℕ
unsent stream exchange = drop (length exchange.taken) stream

-- bytes were sent, and answered so
abbrev pub sent : List ℕ → SendAnswer → Exchange → Exchange
sent bytes (Took count) exchange = record exchange { taken = exchange.taken ++ take count bytes; blocked = count == 0 }
sent bytes Later exchange = record exchange { blocked = true }
sent bytes Failed exchange = record exchange { gone = true }
sent bytes Memory exchange = exchange

-- ---- what is waited for

abbrev pub wants_on : Bool → Option ℕ → List Want
wants_on room None = []
wants_on room (Some link) = record { link = link; read = true; room = room } ∷ []

-- bytes to read, and room where requests are unsent
abbrev pub wants_of : List ℕ → Exchange → List Want
wants_of stream exchange = wants_on (nat_lt 0 (length (unsent stream exchange))) exchange.link
