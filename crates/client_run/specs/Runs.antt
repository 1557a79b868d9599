-- What the exchange of a client comes to.
use Rattle.std.specs.Prelude.{◌≡◌, ◌≢◌, ℕ, ◌<◌, ◌⊎◌, Bool, true, false, List, [], ◌∷◌, ◌++◌, length, map, Result, Ok}
use Rattle.std.specs.Prelude.{Err}
use Rattle.std.specs.List.{AllByRecursion}
use Rattle.framing.specs.Frames.{has_frame}
use Rattle.ports.specs.Calls.{AddsCalls, LinksReport}
use Rattle.ports.specs.Playing.{is_turn_answer}
use Rattle.ports.specs.declared.entry.Entry.{Entry}
use Rattle.ports.specs.declared.entry.Entry.TheVariants.{Listen, Next}
use Rattle.ports.specs.declared.links.ListenAnswer.TheVariants as listen
use Rattle.ports.specs.declared.links.Turn.{Turn}
use Rattle.ports.specs.declared.links.What.TheVariants.{Failed}
use Rattle.ev_types.specs.Clock.{first_moment}
use Rattle.riemann_client.specs.Exchange.{Exchange, begun, heard, message_in, progress_of, wants_of}
use Rattle.riemann_client.specs.Run.{AreGoing, ClientTurn, IsSound, after_last, entries_of, exchange_after}
use Rattle.riemann_client.specs.Sending.{AreSends, after_sends}
use Rattle.riemann_client.specs.Turning.{closing}
use Rattle.riemann_client.specs.declared.progress.Progress.{Progress}
use Rattle.riemann_client.specs.declared.progress.Progress.TheVariants as progress
use Rattle.riemann_msg.specs.declared.msg.Msg.{Msg}
use Rattle.client_run.specs.declared.outcome.Exchanged.{Exchanged}
use Rattle.client_run.specs.declared.outcome.Outcome.{Outcome}
use Rattle.client_run.specs.declared.outcome.Outcome.TheVariants.{Whole, Unasked, Refused, Lost}
use Rattle.client_run.specs.declared.outcome.RunFault.{RunFault}
use Rattle.client_run.specs.declared.outcome.RunFault.TheVariants.{Links, Memory}

-- calls were made of links, of which the fact holds; of a log that is not reported it holds for some calls
pub record AddsRun (before now : LinksReport) (P : List Entry → Type 0) : Type 0 where
  pub run : List Entry
  pub grew : AddsCalls before now run
  pub holds : P run

-- what the last turn of an exchange comes to that ended so
abbrev pub progress_in : Outcome → Progress
progress_in Whole = progress.Whole
progress_in (Unasked number) = progress.Unasked number
progress_in (Refused number place why) = progress.Refused number place why
progress_in Lost = progress.Lost

-- ---- turns, where the clock was first read at the moment `start`, and `stream` is the frames of the requests

-- what came is a turn, and neither that the links failed nor that memory ran out
abbrev pub IsTurn : ClientTurn → Type 0
IsTurn taken = is_turn_answer taken.turn.what ≡ true

-- Turns after each of which the exchange goes on: what was waited for was asked for, all requests are sent that are
-- taken, and nothing else is done.
pub record GoesThrough (stream : List ℕ) (start : ℕ) (turns : List ClientTurn) : Type 0 where
  pub going : AreGoing stream (begun start) turns
  pub each : AllByRecursion IsTurn turns
  pub sound : IsSound stream start turns (exchange_after start turns)

-- the exchange after the turns and what came in one more
abbrev pub heard_last : ℕ → List ClientTurn → ClientTurn → Exchange
heard_last start turns last = heard last.turn last.piece (exchange_after start turns)

-- One turn more was asked for, and in it these sends were made.
pub record TakesLast (stream : List ℕ) (start limit : ℕ) (turns : List ClientTurn) (last : ClientTurn)
    (sends : List Entry) : Type 0 where
  pub before : GoesThrough stream start turns
  pub fewer : length turns < limit
  pub wanted : last.wants ≡ wants_of stream (exchange_after start turns)
  pub came : IsTurn last
  pub may : AreSends stream sends (heard_last start turns last)
  pub sound : IsSound stream start (turns ++ last ∷ []) (after_last start turns last sends)

-- ---- how an exchange is over

-- it was over by what came in the last turn, and nothing was sent in that
pub record EndsHeard (stream : List ℕ) (before after : Exchange) (outcome : Outcome) (sends : List Entry) : Type 0 where
  pub is : progress_in outcome ≡ progress_of stream before after
  pub none : sends ≡ []

-- it went on after what came, and was lost by a send that failed
pub record EndsUnsent (stream : List ℕ) (before after : Exchange) (outcome : Outcome)
    (sends : List Entry) : Type 0 where
  pub lost : outcome ≡ Lost
  pub going : progress_of stream before after ≡ progress.More
  pub failed : (after_sends sends after).gone ≡ true

-- It was over in a turn, the first after which it did not go on. In that turn the link was closed.
pub record EndsInTurn (stream : List ℕ) (start limit : ℕ) (outcome : Outcome) (replies : List Msg)
    (run : List Entry) : Type 0 where
  pub turns : List ClientTurn
  pub last : ClientTurn
  pub sends : List Entry
  pub are : run ≡ entries_of (turns ++ last ∷ [])
  pub takes : TakesLast stream start limit turns last sends
  pub ended : EndsHeard stream (exchange_after start turns) (heard_last start turns last) outcome sends
      ⊎ EndsUnsent stream (exchange_after start turns) (heard_last start turns last) outcome sends
  pub closed : last.calls ≡ sends ++ closing (heard_last start turns last).link
  pub accepted : replies ≡ map message_in (after_last start turns last sends).replies

-- As many turns were taken as may be, and it went on after each: it is lost, and the link was closed.
pub record EndsAtLimit (stream : List ℕ) (start limit : ℕ) (outcome : Outcome) (replies : List Msg)
    (run : List Entry) : Type 0 where
  pub turns : List ClientTurn
  pub are : run ≡ entries_of turns ++ closing (exchange_after start turns).link
  pub takes : GoesThrough stream start turns
  pub all : length turns ≡ limit
  pub lost : outcome ≡ Lost
  pub accepted : replies ≡ map message_in (exchange_after start turns).replies

-- the links failed when a turn was asked for
pub record LosesLinks (stream : List ℕ) (start limit : ℕ) (run : List Entry) : Type 0 where
  pub turns : List ClientTurn
  pub turn : Turn
  pub are : run ≡ entries_of turns ++ Next (wants_of stream (exchange_after start turns)) turn [] ∷ []
  pub takes : GoesThrough stream start turns
  pub fewer : length turns < limit
  pub failed : turn.what ≡ Failed

-- memory ran out when a turn was asked for
pub record RunsOut (stream : List ℕ) (start limit : ℕ) (run : List Entry) : Type 0 where
  pub turns : List ClientTurn
  pub are : run ≡ entries_of turns
  pub takes : GoesThrough stream start turns
  pub fewer : length turns < limit

-- memory ran out in a turn, in which nothing was done but sends
pub record StopsShort (stream : List ℕ) (start limit : ℕ) (run : List Entry) : Type 0 where
  pub turns : List ClientTurn
  pub last : ClientTurn
  pub are : run ≡ entries_of (turns ++ last ∷ [])
  pub takes : TakesLast stream start limit turns last last.calls
  pub none : progress_of stream (exchange_after start turns) (heard_last start turns last) ≢ progress.More
      → last.calls ≡ []

-- how the turns end, and with which replies
abbrev pub TurnsTo : List ℕ → ℕ → ℕ → List Msg → Result Outcome RunFault → List Entry → Type 0
TurnsTo stream start limit replies (Ok outcome) run =
    EndsInTurn stream start limit outcome replies run ⊎ EndsAtLimit stream start limit outcome replies run
TurnsTo stream start limit replies (Err Links) run = LosesLinks stream start limit run
TurnsTo stream start limit replies (Err Memory) run = RunsOut stream start limit run ⊎ StopsShort stream start limit run

-- ---- the exchange, from its first call on

-- The address was connected to, and the fact holds of the calls after that, for the moment at which the clock was read.
pub record Opens (address : List ℕ) (P : ℕ → List Entry → Type 0) (run : List Entry) : Type 0 where
  pub secs : ℕ
  pub rest : List Entry
  pub are : run ≡ Listen address (listen.Ready secs) ∷ rest
  pub holds : P (first_moment secs) rest

-- with at least one request
abbrev pub Asks : List ℕ → List ℕ → ℕ → Result Exchanged RunFault → List Entry → Type 0
Asks address stream limit (Ok exchanged) run =
    Opens address (λ start. TurnsTo stream start limit exchanged.replies (Ok exchanged.outcome)) run
Asks address stream limit (Err Links) run =
    (run ≡ Listen address listen.Failed ∷ []) ⊎ Opens address (λ start. TurnsTo stream start limit [] (Err Links)) run
Asks address stream limit (Err Memory) run =
    (run ≡ []) ⊎ Opens address (λ start. TurnsTo stream start limit [] (Err Memory)) run

-- without a request: no call is made
abbrev pub AsksNothing : Result Exchanged RunFault → List Entry → Type 0
AsksNothing (Ok exchanged) run = (run ≡ []) × (exchanged.outcome ≡ Whole) × (exchanged.replies ≡ [])
AsksNothing (Err fault) run = ⊥

abbrev pub RunsAs : Bool → List ℕ → List ℕ → ℕ → Result Exchanged RunFault → List Entry → Type 0
RunsAs true address stream limit result run = Asks address stream limit result run
RunsAs false address stream limit result run = AsksNothing result run

-- the requests are the frames with which the stream begins
abbrev pub RunsTo : List ℕ → List ℕ → ℕ → Result Exchanged RunFault → List Entry → Type 0
RunsTo address stream limit result run = RunsAs (has_frame stream) address stream limit result run
