-- What a turn of a client does.
use Rattle.std.specs.Prelude.{◌≡◌, ◌≢◌, ℕ, ◌⊎◌, true, false, nat_lt, List, [], ◌∷◌, ◌++◌, length, map, drop, Option}
use Rattle.std.specs.Prelude.{Some, None}
use Rattle.ports.specs.declared.entry.Entry.{Entry}
use Rattle.ports.specs.declared.entry.Entry.TheVariants.{Close}
use Rattle.ports.specs.declared.links.Turn.{Turn}
use Rattle.riemann_client.specs.Client.{Represents, link_of, replies_of, stream_of, wants_in}
use Rattle.riemann_client.specs.Exchange.{Exchange, fault_between, heard, message_in, progress_of, wants_of, wants_on}
use Rattle.riemann_client.specs.Sending.{AreSends, IsSettled, after_sends}
use Rattle.riemann_client.specs.declared.client.Client.{Client}
use Rattle.riemann_client.specs.declared.progress.Progress.{Progress}
use Rattle.riemann_client.specs.declared.progress.Progress.TheVariants.{More, Whole, Unasked, Refused, Lost, Memory}

-- the replies are those that were accepted
abbrev pub HasReplies : Client → Exchange → Type 0
HasReplies client exchange = replies_of client ≡ map message_in exchange.replies

-- the link, where there is one, is closed
abbrev pub closing : Option ℕ → List Entry
closing None = []
closing (Some link) = Close link ∷ []

-- ---- what came is heard

-- the fault is that of the replies that came, and without one the client is at the exchange after them
pub record Occurs (client' : Client) (before after : Exchange) (fault : Option Progress) : Type 0 where
  pub fault_is : fault ≡ fault_between before after
  pub link : link_of client' ≡ after.link
  pub replies : HasReplies client' after
  pub represents : fault ≡ None → Represents client' after

pub record Hears (client' : Client) (stream : List ℕ) (before after : Exchange) (progress : Progress) : Type 0 where
  pub is : progress ≡ progress_of stream before after
  pub link : link_of client' ≡ after.link
  pub replies : HasReplies client' after
  pub represents : progress ≡ More → Represents client' after

-- ---- how a turn ends

-- The exchange goes on: all requests are sent that are taken.
pub record GoesOn (client' : Client) (stream : List ℕ) (before after : Exchange) (calls : List Entry) : Type 0 where
  pub due : progress_of stream before after ≡ More
  pub may : AreSends stream calls after
  pub represents : Represents client' (after_sends calls after)
  pub works : (after_sends calls after).gone ≡ false
  pub settled : IsSettled stream (after_sends calls after)
  pub wants : wants_in client' ≡ wants_of stream (after_sends calls after)

-- The exchange is over: the link is closed.
pub record Ends (client' : Client) (stream : List ℕ) (before after : Exchange) (progress : Progress)
    (calls : List Entry) : Type 0 where
  pub is : progress ≡ progress_of stream before after
  pub calls_are : calls ≡ closing after.link
  pub replies : HasReplies client' after

-- A send failed: the link is closed.
pub record FailsToSend (client' : Client) (stream : List ℕ) (before after : Exchange)
    (calls : List Entry) : Type 0 where
  pub due : progress_of stream before after ≡ More
  pub sends : List Entry
  pub calls_are : calls ≡ sends ++ closing after.link
  pub may : AreSends stream sends after
  pub failed : (after_sends sends after).gone ≡ true
  pub replies : HasReplies client' after

-- Memory ran out. Sends were made only where the exchange goes on.
pub record RunsOut (stream : List ℕ) (before after : Exchange) (calls : List Entry) : Type 0 where
  pub may : AreSends stream calls after
  pub none : progress_of stream before after ≢ More → calls ≡ []

abbrev pub TurnsTo : Client → List ℕ → Exchange → Exchange → Progress → List Entry → Type 0
TurnsTo client' stream before after More calls = GoesOn client' stream before after calls
TurnsTo client' stream before after Whole calls = Ends client' stream before after Whole calls
TurnsTo client' stream before after (Unasked number) calls = Ends client' stream before after (Unasked number) calls
TurnsTo client' stream before after (Refused number place why) calls =
    Ends client' stream before after (Refused number place why) calls
TurnsTo client' stream before after Lost calls =
    Ends client' stream before after Lost calls ⊎ FailsToSend client' stream before after calls
TurnsTo client' stream before after Memory calls = RunsOut stream before after calls

-- from an exchange that goes on, and at which the client is
abbrev pub GoesOnFrom : Client → Client → Progress → List Entry → Type 0
GoesOnFrom client client' progress calls =
    (before after : Exchange) → progress_of (stream_of client) before after ≡ More → Represents client after
    → TurnsTo client' (stream_of client) before after progress calls

-- it does so from every exchange that the client represents
abbrev pub TurnsFrom : Turn → List ℕ → Client → Client → Progress → List Entry → Type 0
TurnsFrom turn piece client client' progress calls =
    (before : Exchange) → Represents client before
    → TurnsTo client' (stream_of client) before (heard turn piece before) progress calls

-- ---- the end of a turn that sent requests

-- no send failed, and what is waited for is noted
pub record Settles (client client' : Client) (calls : List Entry) : Type 0 where
  pub works : client.gone ≡ false
  pub none : calls ≡ []
  pub client_is : client'
      ≡ record client
      { wants = wants_on (nat_lt 0 (length (drop client.requests.taken client.requests.stream))) client.link }

-- a send failed, and the link was closed
pub record Closes (client client' : Client) (calls : List Entry) : Type 0 where
  pub failed : client.gone ≡ true
  pub closed : calls ≡ closing client.link
  pub client_is : client' ≡ client

abbrev pub SettlesTo : Client → Client → Progress → List Entry → Type 0
SettlesTo client client' More calls = Settles client client' calls
SettlesTo client client' Whole calls = ⊥
SettlesTo client client' (Unasked number) calls = ⊥
SettlesTo client client' (Refused number place why) calls = ⊥
SettlesTo client client' Lost calls = Closes client client' calls
SettlesTo client client' Memory calls = calls ≡ []
