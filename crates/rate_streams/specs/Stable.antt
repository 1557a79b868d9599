-- What a `stable` keeps of what came.
use Rattle.std.specs.Prelude.{◌≡◌, ℕ, ◌+◌, ◌-◌, ◌<◌, Bool, false, ◌&&◌, nat_lt, nat_le, if◌then◌else◌, List, [], length}
use Rattle.std.specs.Prelude.{None}
use Rattle.ev_types.specs.declared.item.Item.{Item}
use Rattle.stream_meaning.specs.History.{History, moment_of}
use Rattle.stream_meaning.specs.Runs.{last_value, run, run_began, stable_items}
use Rattle.stream_plan.specs.Tree.{KindTree, Stable}
use Rattle.rate_streams.specs.declared.stable.StableState.{StableState}

abbrev pub stable_kind : StableState → KindTree
stable_kind state = Stable state.secs state.field

abbrev pub stable_poisoned : StableState → Bool
stable_poisoned state = state.poisoned

-- what a stream of the state's kind passes on at the last entry
abbrev pub stable_passes : StableState → History → List Item
stable_passes state = stable_items state.secs state.field

-- events are waiting, and their run has held long enough at this moment
abbrev pub is_stable_due : StableState → ℕ → Bool
is_stable_due state now = nat_lt 0 (length state.waiting) && nat_le state.secs (now - state.began)

-- The state holds what the stream has to know of this history.
pub record StableRepresents (state : StableState) (h : History) : Type 0 where
  pub sound : state.poisoned ≡ false
  pub positive : 0 < state.secs
  -- what the field held in the last event
  pub last : state.last ≡ last_value state.field None h
  -- the moment at which the present run began
  pub began : state.began ≡ run_began state.field h
  -- the events of the run, until it has held long enough
  pub waiting : state.waiting
      ≡ (if nat_lt (moment_of h) (run_began state.field h + state.secs) then run state.field h else [])
