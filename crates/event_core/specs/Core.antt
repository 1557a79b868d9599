-- What a core represents, and what it gives for what arrives.
use Rattle.std.specs.Prelude.{◌≡◌, ℕ, ◌+◌, ◌≤◌, Bool, false, IsTrue, List, ◌++◌, Result, IsErr, OnErr, OnOk}
use Rattle.ev_types.specs.declared.item.Notice.{Notice}
use Rattle.list_laws.specs.declared.memory.Memory.{Memory}
use Rattle.list_laws.specs.Prefix.{IsPrefix}
use Rattle.step_count.specs.Count.{StepCount}
use Rattle.stream_meaning.specs.History.{moment_of}
use Rattle.stream_meaning.specs.Arrivals.{Arrival}
pub use Rattle.stream_meaning.specs.Arrivals.{CoreConfig, state_by, notices_by}
use Rattle.event_core.specs.declared.arrivals.Core.{Core}
use Rattle.event_core.specs.Counts.{forks_in, visits_to}
use Rattle.event_core.specs.Streams.{plan_of, Holds}

-- what a core is made with, and keeps
abbrev pub config_of : Core → CoreConfig
config_of core = record { plan = plan_of core.streams; expiry = core.clock.expiry; start = core.clock.start }

-- the moment of the last second that has passed
abbrev pub now_of : Core → ℕ
now_of core = core.clock.moment

-- a call ran out of memory
abbrev pub is_poisoned : Core → Bool
is_poisoned core = core.poisoned

-- how many forks are due over these arrivals, and how often an item comes to a `by`
abbrev pub forks_by : CoreConfig → List Arrival → ℕ
forks_by config arrivals = forks_in config.plan (state_by config arrivals).history

-- the core is as these arrivals leave it
pub record Represents (core : Core) (arrivals : List Arrival) : Type 0 where
  pub sound : is_poisoned core ≡ false
  pub holds : Holds core.streams (state_by (config_of core) arrivals)
  pub now : now_of core ≡ moment_of (state_by (config_of core) arrivals).history

-- after the first arrivals came more, and of those just the notices were appended, and the forks counted
pub record Heard (config : CoreConfig) (first more : List Arrival) (old : List Notice) (forks_before : ℕ)
    (new : List Notice) (forks_after : ℕ) : Type 0 where
  pub made : List Notice
  pub reported : new ≡ old ++ made
  pub notices : notices_by config (first ++ more) ≡ notices_by config first ++ made
  pub forks : forks_before + forks_by config (first ++ more) ≡ forks_after + forks_by config first

-- how many entries are visited over the arrivals, at most: one for each fork that is due, and two for each event that
-- is reaped
abbrev pub visits_by : CoreConfig → List Arrival → ℕ
visits_by config arrivals = visits_to config.plan (state_by config arrivals)

-- after the first arrivals came more, and no more entries were visited than those need
abbrev pub VisitedFor : CoreConfig → List Arrival → List Arrival → ℕ → ℕ → Type 0
VisitedFor config first more entries_before entries_after =
    entries_after + visits_by config first ≤ entries_before + visits_by config (first ++ more)

-- The core receives more arrivals: what it represents then, what notices it gave and what was counted. Or memory ran
-- out.
pub record Receives {G : Type 0} (more : List Arrival) (core core' : Core) (old new : List Notice)
    (before after : StepCount G) (result : Result (Unit {0}) Memory) : Type 0 where
  pub config : config_of core' ≡ config_of core
  pub represents : OnOk result ((arrivals : List Arrival) → Represents core arrivals
      → Represents core' (arrivals ++ more))
  pub heard : OnOk result ((arrivals : List Arrival) → Represents core arrivals
      → Heard (config_of core) arrivals more old before.forks new after.forks)
  pub entries : (arrivals : List Arrival) → Represents core arrivals
      → VisitedFor (config_of core) arrivals more before.entries after.entries
  pub began : (arrivals : List Arrival) → Represents core arrivals → after.began ≡ before.began
  pub poisoned : IsTrue (is_poisoned core) → IsErr result
  pub sound : OnOk result (is_poisoned core' ≡ false)
  pub err : OnErr result (IsTrue (is_poisoned core'))
  pub prefix : IsPrefix old new
