-- What the steps of a run come to: to listen, to ask for a turn, to do it, and to take turn after turn.
use Rattle.std.specs.Prelude.{◌≡◌, ℕ, Bool, true, false, List, [], ◌∷◌, Result, Ok, Err}
use Rattle.conn_core.specs.Hub.{Follows}
use Rattle.conn_core.specs.Turning.{TurnsFrom}
use Rattle.conn_core.specs.declared.hub.Hub.{Hub}
use Rattle.conn_core.specs.declared.stop.Stop.{Stop}
use Rattle.conn_core.specs.declared.stop.Stop.TheVariants.{SinkFault, Memory as NoMemory}
use Rattle.conn_core.specs.event_core.Core.{CoreConfig}
use Rattle.ports.specs.Links.{piece_of}
use Rattle.ports.specs.Writing.{SinkReport}
use Rattle.ports.specs.declared.entry.Entry.{Entry}
use Rattle.ports.specs.declared.entry.Entry.TheVariants.{Listen, Next}
use Rattle.ports.specs.declared.links.ListenAnswer.TheVariants as listen
use Rattle.ports.specs.declared.links.Turn.{Turn}
use Rattle.ports.specs.declared.links.Want.{Want}
use Rattle.hub_run.specs.Runs.{AskFails, RunReport, TurnsTo}
use Rattle.hub_run.specs.declared.fault.RunFault.{RunFault}
use Rattle.hub_run.specs.declared.fault.RunFault.TheVariants.{Links, Sink, Memory}

-- the call of `listen` on the address, which succeeded or failed; none where memory ran out
abbrev pub ListensOn : List ℕ → Result ℕ RunFault → List Entry → Type 0
ListensOn address (Ok secs) run = run ≡ Listen address (listen.Ready secs) ∷ []
ListensOn address (Err Links) run = run ≡ Listen address listen.Failed ∷ []
ListensOn address (Err Sink) run = ⊥
ListensOn address (Err Memory) run = run ≡ []

-- a turn was asked for, whose bytes are in the buffer, or why none came
abbrev pub AsksFor : List Want → List ℕ → Result Turn RunFault → List Entry → Type 0
AsksFor wants buf (Ok turn) run = run ≡ Next wants turn (piece_of turn.what buf) ∷ []
AsksFor wants buf (Err Links) run = AskFails wants run
AsksFor wants buf (Err Sink) run = ⊥
AsksFor wants buf (Err Memory) run = run ≡ []

abbrev pub fault_of : Stop → RunFault
fault_of SinkFault = Sink
fault_of NoMemory = Memory

-- where the lines of a turn went: to the sink, or to another if it is quiet
abbrev pub GoTo : Bool → SinkReport → SinkReport → SinkReport → SinkReport → Type 0
GoTo true old new into into' = new ≡ old
GoTo false old new into into' = (old ≡ into) × (new ≡ into')

-- the turn was done, or the hub stopped in the middle of it
pub record DoesTurn (quiet : Bool) (turn : Turn) (piece : List ℕ) (hub hub' : Hub) (old new : RunReport)
    (result : Result (Unit {0}) Stop) (run : List Entry) : Type 0 where
  pub into : SinkReport
  pub into' : SinkReport
  pub lines : GoTo quiet old.sink new.sink into into'
  pub does : TurnsFrom turn piece hub hub' old.patterns new.patterns old.forks new.forks into into' result run

abbrev pub TurnsOn : Hub → ℕ → ℕ → RunReport → RunReport → Result Hub RunFault → List Entry → Type 0
TurnsOn hub limit quiet old new result run =
    (config : CoreConfig) → Follows hub config [] → TurnsTo config limit quiet old new result run
