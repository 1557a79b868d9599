-- What the state of a fixed time window represents.
use Rattle.std.specs.Prelude.{◌≡◌, ℕ, ℤ, pos, Bool, false, List, [], ◌∷◌, map, filter, Option, Some, None}
use Rattle.std.specs.Ordering.{int_eq}
use Rattle.ev_types.specs.declared.event.Event.{Event}
use Rattle.ev_types.specs.declared.item.Emission.{Emission}
use Rattle.stream_meaning.specs.Came.{events}
use Rattle.stream_meaning.specs.Emitted.{emitted}
use Rattle.stream_meaning.specs.History.{History}
use Rattle.stream_meaning.specs.Windows.{fixed_time_items, stretch_of, greatest}
use Rattle.stream_plan.specs.Tree.{KindTree, FixedTime}
use Rattle.window_streams.specs.declared.fixed_time.FixedTimeState.{FixedTimeState}

abbrev pub fixed_time_kind : FixedTimeState → KindTree
fixed_time_kind state = FixedTime state.secs

abbrev pub fixed_time_poisoned : FixedTimeState → Bool
fixed_time_poisoned state = state.poisoned

abbrev pub fixed_time_emissions : FixedTimeState → History → List Emission
fixed_time_emissions state h = emitted (fixed_time_items state.secs h)

abbrev pub first_time : List Event → Option ℤ
first_time [] = None
first_time (first ∷ more) = Some first.time

-- the number of the latest stretch
abbrev pub latest_stretch : ℕ → List Event → ℤ
latest_stretch secs [] = pos 0
latest_stretch secs (first ∷ more) = greatest (stretch_of secs first first) (map (stretch_of secs first) more)

-- the events whose times are in it
abbrev pub latest_events : ℕ → List Event → List Event
latest_events secs [] = []
latest_events secs (first ∷ more) =
    filter (λ other. int_eq (stretch_of secs first other) (latest_stretch secs (first ∷ more))) (first ∷ more)

pub record FixedTimeRepresents (state : FixedTimeState) (h : History) : Type 0 where
  pub sound : state.poisoned ≡ false
  pub first : state.first ≡ first_time (events h)
  pub latest : pos state.latest ≡ latest_stretch state.secs (events h)
  pub waiting : state.waiting ≡ latest_events state.secs (events h)
