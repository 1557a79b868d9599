-- What a hub represents.
use Rattle.std.specs.Prelude.{◌≡◌, Bool, List}
use Rattle.hub_link.specs.event_core.Core.{CoreConfig, Represents, config_of, now_of}
use Rattle.hub_link.specs.event_core.declared.arrivals.Core.{Core}
use Rattle.hub_link.specs.hub_meaning.Legal.{AreSettled, IsLegal}
use Rattle.hub_link.specs.hub_meaning.Runs.{RunState, Step, state_after}
use Rattle.ports.specs.declared.links.Want.{Want}
use Rattle.conn_core.specs.Keeping.{Keeps}
use Rattle.conn_core.specs.declared.hub.Hub.{Hub}

abbrev pub core_of : Hub → Core
core_of hub = hub.core

-- what it waits for on its links
abbrev pub wants_in : Hub → List Want
wants_in hub = hub.table.wants

-- a turn stopped: no other is taken
abbrev pub has_stopped : Hub → Bool
has_stopped hub = hub.stopped

-- its core and its links are as in this state
pub record RepresentsState (hub : Hub) (config : CoreConfig) (state : RunState) : Type 0 where
  pub arrivals : Represents hub.core state.arrivals
  pub config_is : config_of hub.core ≡ config
  pub now : now_of hub.core ≡ state.now
  pub links : Keeps hub.table state.links

-- these steps may come one after another, and the hub is as they leave it, when the next turn may be asked for
pub record Follows (hub : Hub) (config : CoreConfig) (steps : List Step) : Type 0 where
  pub legal : IsLegal config steps
  pub state : RepresentsState hub config (state_after config steps)
  pub settled : AreSettled (state_after config steps).links
