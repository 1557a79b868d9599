-- What the occurrence of a turn does, once the seconds up to its moment have passed.
use Rattle.std.specs.Prelude.{◌≡◌, ℕ, List, ◌++◌, Option, Result, OnOk}
use Rattle.hub_link.specs.event_core.Core.{CoreConfig, Heard}
use Rattle.hub_link.specs.hub_meaning.Legal.{AreSettled, IsLegalFrom, VerdictsIn}
use Rattle.hub_link.specs.hub_meaning.Runs.{RunState, occurred, plain, state_from}
use Rattle.hub_link.specs.hub_meaning.Verdicts.{AfterVerdicts, PatternsReport, Refusal}
use Rattle.list_laws.specs.declared.memory.Memory.{Memory}
use Rattle.hub_link.specs.msg_replies.Arriving.{Reported}
use Rattle.ports.specs.declared.entry.Entry.{Entry}
use Rattle.ports.specs.declared.links.What.{What}
use Rattle.stream_meaning.specs.Arrivals.{Arrival}
use Rattle.conn_core.specs.Hub.{RepresentsState}
use Rattle.conn_core.specs.declared.hub.Hub.{Hub}

-- The hub is at the state after these calls, in which all links are settled. The notices of the new arrivals were
-- appended, and the forks counted.
pub record Done (hub : Hub) (config : CoreConfig) (state after : RunState) (old new : Reported) : Type 0 where
  pub at : RepresentsState hub config after
  pub settled : AreSettled after.links
  pub more : List Arrival
  pub arrivals : after.arrivals ≡ state.arrivals ++ more
  pub heard : Heard config state.arrivals more old.notices old.forks new.notices new.forks

-- the occurrence, with these verdicts on its messages, and then these calls
pub record Occurs (what : What) (piece : List ℕ) (hub : Hub) (patterns patterns' : PatternsReport) (old new : Reported)
    (result : Result (Unit {0}) Memory) (config : CoreConfig) (state : RunState) (run : List Entry) : Type 0 where
  pub verdicts : List (Option Refusal)
  pub reported : AfterVerdicts patterns patterns' verdicts
  pub possible : VerdictsIn config what piece verdicts state
  pub legal : IsLegalFrom config (plain run) (occurred config what piece verdicts state)
  pub done :
      OnOk result
      (Done hub config state (state_from config (plain run) (occurred config what piece verdicts state)) old new)

abbrev pub OccursFrom : What → List ℕ → Hub → Hub → PatternsReport → PatternsReport → Reported → Reported
    → Result (Unit {0}) Memory → List Entry → Type 0
OccursFrom what piece hub hub' patterns patterns' old new result run =
    (config : CoreConfig) (state : RunState) → RepresentsState hub config state → AreSettled state.links
    → Occurs what piece hub' patterns patterns' old new result config state run
