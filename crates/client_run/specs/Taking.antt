-- What the steps of an exchange come to: to connect, to ask for a turn, to take it, and to take turn after turn.
use Rattle.std.specs.Prelude.{◌≡◌, ℕ, ◌⊎◌, true, List, [], ◌∷◌, Option, Some, None, Result, Ok, Err}
use Rattle.ports.specs.Links.{piece_of}
use Rattle.ports.specs.Playing.{is_turn_answer}
use Rattle.ports.specs.declared.entry.Entry.{Entry}
use Rattle.ports.specs.declared.entry.Entry.TheVariants.{Listen, Next}
use Rattle.ports.specs.declared.links.ListenAnswer.TheVariants as listen
use Rattle.ports.specs.declared.links.Turn.{Turn}
use Rattle.ports.specs.declared.links.Want.{Want}
use Rattle.ports.specs.declared.links.What.TheVariants.{Failed}
use Rattle.riemann_client.specs.Client.{Represents, replies_of, stream_of, wants_in}
use Rattle.riemann_client.specs.Exchange.{begun}
use Rattle.riemann_client.specs.Turning.{TurnsFrom}
use Rattle.riemann_client.specs.declared.client.Client.{Client}
use Rattle.riemann_client.specs.declared.progress.Progress.{Progress}
use Rattle.riemann_client.specs.declared.progress.Progress.TheVariants as progress
use Rattle.client_run.specs.Runs.{TurnsTo, progress_in}
use Rattle.client_run.specs.declared.outcome.Outcome.{Outcome}
use Rattle.client_run.specs.declared.outcome.Outcome.TheVariants.{Whole, Unasked, Refused, Lost}
use Rattle.client_run.specs.declared.outcome.RunFault.{RunFault}
use Rattle.client_run.specs.declared.outcome.RunFault.TheVariants.{Links, Memory}

-- ---- one call

-- the call of `listen` on the address, which succeeded or failed; none where memory ran out
abbrev pub ListensOn : List ℕ → Result ℕ RunFault → List Entry → Type 0
ListensOn address (Ok secs) run = run ≡ Listen address (listen.Ready secs) ∷ []
ListensOn address (Err Links) run = run ≡ Listen address listen.Failed ∷ []
ListensOn address (Err Memory) run = run ≡ []

-- a turn was asked for, and the links failed
pub record AskFails (wants : List Want) (run : List Entry) : Type 0 where
  pub turn : Turn
  pub are : run ≡ Next wants turn [] ∷ []
  pub failed : turn.what ≡ Failed

-- a turn was asked for, whose bytes are in the buffer, or why none came
abbrev pub AsksFor : List Want → List ℕ → Result Turn RunFault → List Entry → Type 0
AsksFor wants buf (Ok turn) run = run ≡ Next wants turn (piece_of turn.what buf) ∷ []
AsksFor wants buf (Err Links) run = AskFails wants run
AsksFor wants buf (Err Memory) run = run ≡ []

-- ---- one turn

-- the outcome of an exchange of which a turn came to this, if it is over
abbrev pub answer_of : Progress → Result (Option Outcome) RunFault
answer_of progress.More = Ok None
answer_of progress.Whole = Ok (Some Whole)
answer_of (progress.Unasked number) = Ok (Some (Unasked number))
answer_of (progress.Refused number place why) = Ok (Some (Refused number place why))
answer_of progress.Lost = Ok (Some Lost)
answer_of progress.Memory = Err Memory

-- the turn came, and the client took it
pub record DoesTurn (client client' : Client) (progress : Progress) (run : List Entry) : Type 0 where
  pub turn : Turn
  pub piece : List ℕ
  pub calls : List Entry
  pub are : run ≡ Next (wants_in client) turn piece ∷ calls
  pub came : is_turn_answer turn.what ≡ true
  pub does : TurnsFrom turn piece client client' progress calls

abbrev pub TakesTurn : Client → Client → Result (Option Outcome) RunFault → List Entry → Type 0
TakesTurn client client' (Ok None) run = DoesTurn client client' progress.More run
TakesTurn client client' (Ok (Some outcome)) run = DoesTurn client client' (progress_in outcome) run
TakesTurn client client' (Err Links) run = AskFails (wants_in client) run
TakesTurn client client' (Err Memory) run = (run ≡ []) ⊎ DoesTurn client client' progress.Memory run

-- ---- turn after turn, from a client to which nothing has come

abbrev pub TakesAll : Client → Client → ℕ → Result Outcome RunFault → List Entry → Type 0
TakesAll client client' limit result run = (start : ℕ) → Represents client (begun start) → wants_in client ≡ []
    → TurnsTo (stream_of client) start limit (replies_of client') result run
