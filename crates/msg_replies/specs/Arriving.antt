-- What arrives at the core, what it gives, and what is counted.
use Rattle.std.specs.Prelude.{◌≡◌, ℕ, List, ◌++◌}
use Rattle.ev_types.specs.declared.item.Notice.{Notice}
use Rattle.event_core.specs.declared.arrivals.Core.{Core}
use Rattle.event_core.specs.Core.{Heard, Represents, config_of}
use Rattle.stream_meaning.specs.Arrivals.{Arrival}

-- the notices and the number of forks that were reported so far
pub record Reported : Type 0 where
  pub notices : List Notice
  pub forks : ℕ

abbrev pub reported : List Notice → ℕ → Reported
reported notices forks = record { notices = notices; forks = forks }

-- after these arrivals came more
pub record Arrives (core core' : Core) (arrivals more : List Arrival) (old new : Reported) : Type 0 where
  pub represents : Represents core' (arrivals ++ more)
  pub config : config_of core' ≡ config_of core
  pub heard : Heard (config_of core) arrivals more old.notices old.forks new.notices new.forks
