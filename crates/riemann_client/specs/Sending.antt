-- What sends of a client do.
use Rattle.std.specs.Prelude.{◌≡◌, ℕ, ◌+◌, ◌==◌, ◌<◌, true, false, not, ◌&&◌, nat_lt, if◌then◌else◌, List, [], ◌∷◌}
use Rattle.std.specs.Prelude.{length, take, drop, Option, Some, None, is_some}
use Rattle.ports.specs.Calls.{AddsCalls, LinksReport}
use Rattle.ports.specs.declared.entry.Entry.{Entry}
use Rattle.ports.specs.declared.entry.Entry.TheVariants.{Listen, Next, Send, Close}
use Rattle.ports.specs.declared.links.SendAnswer.{SendAnswer}
use Rattle.ports.specs.declared.links.SendAnswer.TheVariants.{Took, Later, Failed, Memory}
use Rattle.riemann_client.specs.Client.{Represents, link_of, replies_of, stream_of}
use Rattle.riemann_client.specs.Exchange.{Exchange, sent, unsent}
use Rattle.riemann_client.specs.Requests.{HasAnswered}
use Rattle.riemann_client.specs.declared.client.Client.{Client}

-- These calls were made of links, and of them the fact holds. Of a log that is not reported it holds for some calls.
pub record MakesCalls (before now : LinksReport) (P : List Entry → Type 0) : Type 0 where
  pub run : List Entry
  pub grew : AddsCalls before now run
  pub no_fault : now.faults ≡ before.faults
  pub holds : P run

-- the bytes may be sent: they come next, on the client's link, which takes bytes as far as is known
pub record MaySend (stream : List ℕ) (number : ℕ) (bytes : List ℕ) (exchange : Exchange) : Type 0 where
  pub on : exchange.link ≡ Some number
  pub works : exchange.gone ≡ false
  pub free : exchange.blocked ≡ false
  pub some : 0 < length bytes
  pub next : bytes ≡ take (length bytes) (unsent stream exchange)

-- each of these calls is a send that may come then
abbrev pub AreSends : List ℕ → List Entry → Exchange → Type 0
AreSends stream [] exchange = Unit {0}
AreSends stream (Listen address answer ∷ entries) exchange = ⊥
AreSends stream (Next wants turn piece ∷ entries) exchange = ⊥
AreSends stream (Send number bytes answer ∷ entries) exchange =
    MaySend stream number bytes exchange × AreSends stream entries (sent bytes answer exchange)
AreSends stream (Close number ∷ entries) exchange = ⊥

-- the exchange after the sends among these calls
abbrev pub after_sends : List Entry → Exchange → Exchange
after_sends [] exchange = exchange
after_sends (Listen address answer ∷ entries) exchange = after_sends entries exchange
after_sends (Next wants turn piece ∷ entries) exchange = after_sends entries exchange
after_sends (Send number bytes answer ∷ entries) exchange = after_sends entries (sent bytes answer exchange)
after_sends (Close number ∷ entries) exchange = after_sends entries exchange

-- all requests were taken, or the link takes nothing now, or there is none yet
abbrev pub IsSettled : List ℕ → Exchange → Type 0
IsSettled stream exchange =
    0 < length (unsent stream exchange) → (number : ℕ) → exchange.link ≡ Some number → exchange.blocked ≡ true

-- ---- what the client does

-- the link, where it may be sent to and requests are unsent
abbrev pub link_to_send : Client → Option ℕ
link_to_send client =
    if not client.gone && (not client.blocked && nat_lt 0 (length (drop client.requests.taken client.requests.stream)))
    then client.link else None

-- the bytes that there are to send
abbrev pub sendable : Client → ℕ
sendable client =
    if is_some (link_to_send client) then length (drop client.requests.taken client.requests.stream) else 0

-- the client noted that this many bytes were taken
pub record NotesTaken (count : ℕ) (client client' : Client) : Type 0 where
  pub stream : client'.requests.stream ≡ client.requests.stream
  pub taken : client'.requests.taken ≡ client.requests.taken + count
  pub answered : (answers : ℕ) → HasAnswered client.requests answers → HasAnswered client'.requests answers
  pub others : client' ≡ record client { requests = client'.requests; blocked = count == 0 }

-- the client noted how a send was answered
abbrev pub Notes : SendAnswer → Client → Client → Type 0
Notes (Took count) client client' = NotesTaken count client client'
Notes Later client client' = client' ≡ record client { blocked = true }
Notes Failed client client' = client' ≡ record client { gone = true }
Notes Memory client client' = client' ≡ client

-- what sends leave as it was
pub record KeepsReplies (client client' : Client) : Type 0 where
  pub stream : stream_of client' ≡ stream_of client
  pub link : link_of client' ≡ link_of client
  pub replies : replies_of client' ≡ replies_of client

-- from every exchange at which the client is, these calls may come, one after another
pub record SendsFrom (client client' : Client) (run : List Entry) (exchange : Exchange) : Type 0 where
  pub may : AreSends (stream_of client) run exchange
  pub represents : Represents client' (after_sends run exchange)

abbrev pub Sends : Client → Client → List Entry → Type 0
Sends client client' run = (exchange : Exchange) → Represents client exchange → SendsFrom client client' run exchange
