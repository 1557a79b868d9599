-- What was noticed while a test is played.
use Rattle.std.specs.Prelude.{◌≡◌, List}
use Rattle.ev_types.specs.declared.item.Notice.{Notice}
use Rattle.stream_meaning.specs.Arrivals.{Arrival}
use Rattle.event_core.specs.declared.arrivals.Core.{Core}
use Rattle.event_core.specs.Core.{Represents, config_of, notices_by}

-- the core is as these arrivals leave it, and their notices are these
pub record Played (core : Core) (arrivals : List Arrival) (notices : List Notice) : Type 0 where
  pub state : Represents core arrivals
  pub heard : notices ≡ notices_by (config_of core) arrivals
