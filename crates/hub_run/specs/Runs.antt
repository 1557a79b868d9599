-- What a run of a server comes to.
use Rattle.std.specs.Prelude.{◌≡◌, ◌≢◌, ℕ, ◌+◌, ◌<◌, ◌≤◌, ◌⊎◌, List, [], ◌∷◌, ◌++◌, length, take, Result, Ok, Err}
use Rattle.std.specs.List.{AllByRecursion}
use Rattle.conn_core.specs.Hub.{Follows}
use Rattle.conn_core.specs.Turning.{GotFirstLines, GotLines}
use Rattle.conn_core.specs.declared.hub.Hub.{Hub}
use Rattle.ev_types.specs.declared.item.Notice.{Notice}
use Rattle.conn_core.specs.event_core.Core.{CoreConfig, forks_by}
use Rattle.ev_types.specs.Clock.{first_moment}
use Rattle.conn_core.specs.hub_meaning.Legal.{AreSettled, IsLegal}
use Rattle.conn_core.specs.hub_meaning.Links.{wants_of}
use Rattle.conn_core.specs.hub_meaning.Runs.{notices_after, state_after}
use Rattle.conn_core.specs.hub_meaning.Verdicts.{AfterVerdicts, PatternsReport}
use Rattle.ports.specs.Calls.{AddsCalls, LinksReport}
use Rattle.ports.specs.Writing.{SinkReport}
use Rattle.ports.specs.declared.entry.Entry.{Entry}
use Rattle.ports.specs.declared.entry.Entry.TheVariants.{Listen, Next}
use Rattle.ports.specs.declared.links.ListenAnswer.TheVariants as listen
use Rattle.ports.specs.declared.links.Turn.{Turn}
use Rattle.ports.specs.declared.links.Want.{Want}
use Rattle.ports.specs.declared.links.What.TheVariants.{Failed}
use Rattle.hub_run.specs.Apart.{KeysHaveTheirOwn}
use Rattle.hub_run.specs.Taken.{HasEnded, IsOneTurn, MayGoOn, TakenTurn, entries_of, entries_of_turn, steps_of}
use Rattle.hub_run.specs.Taken.{verdicts_of}
use Rattle.hub_run.specs.declared.fault.RunFault.{RunFault}
use Rattle.hub_run.specs.declared.fault.RunFault.TheVariants.{Links, Sink, Memory}
use Rattle.hub_run.specs.declared.setup.Setup.{Setup}

-- calls were made of links, of which the fact holds; of a log that is not reported it holds for some calls
pub record AddsRun (before now : LinksReport) (P : List Entry → Type 0) : Type 0 where
  pub run : List Entry
  pub grew : AddsCalls before now run
  pub holds : P run

-- what changes in a run beside the links
pub record RunReport : Type 0 where
  -- what is known of the patterns of queries
  pub patterns : PatternsReport
  -- how many forks were entered
  pub forks : ℕ
  -- the sink of the notice lines
  pub sink : SinkReport

abbrev pub run_report : PatternsReport → ℕ → SinkReport → RunReport
run_report patterns forks sink = record { patterns = patterns; forks = forks; sink = sink }

-- the core of a server that reads the clock first at `secs`
abbrev pub config_at : Setup → ℕ → CoreConfig
config_at setup secs = record { plan = setup.plan; expiry = setup.expiry; start = first_moment secs }

-- ---- turns

-- The lines of the notices of these turns were put, but for those of the first `quiet` turns. While all are quiet, the
-- sink stays as it is.
pub record PutsLines (config : CoreConfig) (quiet : ℕ) (turns : List TakenTurn) (old new : SinkReport) : Type 0 where
  pub put : List Notice
  pub notices : notices_after config (steps_of turns) ≡ notices_after config (steps_of (take quiet turns)) ++ put
  pub got : GotLines old put new
  pub still : length turns ≤ quiet → new ≡ old

-- Whole turns. Each call may come when it comes; at the end of each turn all links are settled; the lines of the
-- notices were written, but for those of the first `quiet` turns, and the forks counted that were entered.
pub record TakesTurns (config : CoreConfig) (quiet : ℕ) (old new : RunReport) (turns : List TakenTurn) : Type 0 where
  pub legal : IsLegal config (steps_of turns)
  pub settled : AreSettled (state_after config (steps_of turns)).links
  pub each : AllByRecursion IsOneTurn turns
  pub verdicts : AfterVerdicts old.patterns new.patterns (verdicts_of turns)
  pub lines : PutsLines config quiet turns old.sink new.sink
  -- of the same notices, those of each host are its own
  pub apart : KeysHaveTheirOwn config (state_after config (steps_of turns)).arrivals
      (notices_after config (steps_of turns))
  pub forks : new.forks ≡ old.forks + forks_by config (state_after config (steps_of turns)).arrivals

-- A turn after these was not finished for this fault. The first of its lines were written, but not all of them, and
-- none if it is quiet. The sink failed only if it had a line.
pub record CutShort (config : CoreConfig) (quiet : ℕ) (fault : RunFault) (turns : List TakenTurn) (old new : RunReport)
    (run : List Entry) : Type 0 where
  pub last : TakenTurn
  pub are : run ≡ entries_of_turn last
  pub one : IsOneTurn last
  pub legal : IsLegal config (steps_of (turns ++ last ∷ []))
  pub verdicts : AfterVerdicts old.patterns new.patterns last.verdicts
  pub made : List Notice
  pub notices : notices_after config (steps_of (turns ++ last ∷ [])) ≡ notices_after config (steps_of turns) ++ made
  pub lines : GotFirstLines old.sink made new.sink
  pub still : length turns < quiet → new.sink ≡ old.sink
  pub apart : KeysHaveTheirOwn config (state_after config (steps_of (turns ++ last ∷ []))).arrivals
      (notices_after config (steps_of turns) ++ made)
  pub some : fault ≡ Sink → made ≢ []

-- nothing was done
pub record NotBegun (old new : RunReport) (run : List Entry) : Type 0 where
  pub is : run ≡ []
  pub same : new ≡ old

-- a turn was asked for, and the links failed
pub record AskFails (wants : List Want) (run : List Entry) : Type 0 where
  pub turn : Turn
  pub are : run ≡ Next wants turn [] ∷ []
  pub failed : turn.what ≡ Failed

-- what was done after these turns, when this fault came: a turn was asked for in vain, or not finished
abbrev pub FailsAfter : CoreConfig → ℕ → List TakenTurn → RunReport → RunReport → RunFault → List Entry → Type 0
FailsAfter config quiet turns old new Links run =
    AskFails (wants_of (state_after config (steps_of turns)).links) run × (new ≡ old)
FailsAfter config quiet turns old new Sink run = CutShort config quiet Sink turns old new run
FailsAfter config quiet turns old new Memory run =
    NotBegun old new run ⊎ CutShort config quiet Memory turns old new run

-- it took its last turn
pub record TakesAll (config : CoreConfig) (limit quiet : ℕ) (old new : RunReport) (hub : Hub)
    (run : List Entry) : Type 0 where
  pub turns : List TakenTurn
  pub are : run ≡ entries_of turns
  pub takes : TakesTurns config quiet old new turns
  pub ended : HasEnded limit turns
  pub follows : Follows hub config (steps_of turns)

-- after some whole turns, which led to the report `mid`, this fault came
pub record StopsShort (config : CoreConfig) (limit quiet : ℕ) (old new : RunReport) (fault : RunFault)
    (run : List Entry) : Type 0 where
  pub turns : List TakenTurn
  pub rest : List Entry
  pub are : run ≡ entries_of turns ++ rest
  pub mid : RunReport
  pub takes : TakesTurns config quiet old mid turns
  pub going : MayGoOn limit turns
  pub fails : FailsAfter config quiet turns mid new fault rest

-- turn after turn, from a hub to which nothing has come
abbrev pub TurnsTo : CoreConfig → ℕ → ℕ → RunReport → RunReport → Result Hub RunFault → List Entry → Type 0
TurnsTo config limit quiet old new (Ok hub) run = TakesAll config limit quiet old new hub run
TurnsTo config limit quiet old new (Err fault) run = StopsShort config limit quiet old new fault run

-- ---- a run

abbrev pub opening : Setup → ℕ → Entry
opening setup secs = Listen setup.address (listen.Ready secs)

-- it listened, and then took turns
pub record Ran (setup : Setup) (limit quiet : ℕ) (old new : RunReport) (result : Result Hub RunFault)
    (run : List Entry) : Type 0 where
  pub secs : ℕ
  pub after : List Entry
  pub opens : run ≡ opening setup secs ∷ after
  pub took : TurnsTo (config_at setup secs) limit quiet old new result after

-- the address can't be listened on
pub record CannotListen (setup : Setup) (old new : RunReport) (run : List Entry) : Type 0 where
  pub is : run ≡ Listen setup.address listen.Failed ∷ []
  pub same : new ≡ old

-- it listened, and memory ran out before the first turn was asked for
pub record CannotOpen (setup : Setup) (old new : RunReport) (run : List Entry) : Type 0 where
  pub secs : ℕ
  pub is : run ≡ opening setup secs ∷ []
  pub same : new ≡ old

-- what a run comes to, where the lines of the first `quiet` turns are not put
abbrev pub RunsQuietly : Setup → ℕ → ℕ → RunReport → RunReport → Result Hub RunFault → List Entry → Type 0
RunsQuietly setup limit quiet old new (Ok hub) run = Ran setup limit quiet old new (Ok hub) run
RunsQuietly setup limit quiet old new (Err Links) run =
    CannotListen setup old new run ⊎ Ran setup limit quiet old new (Err Links) run
RunsQuietly setup limit quiet old new (Err Sink) run = Ran setup limit quiet old new (Err Sink) run
RunsQuietly setup limit quiet old new (Err Memory) run =
    NotBegun old new run ⊎ (CannotOpen setup old new run ⊎ Ran setup limit quiet old new (Err Memory) run)

-- the same, where the lines of all turns are put
abbrev pub RunsTo : Setup → ℕ → RunReport → RunReport → Result Hub RunFault → List Entry → Type 0
RunsTo setup limit old new result run = RunsQuietly setup limit 0 old new result run
