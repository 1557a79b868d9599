-- What the state of a moving time window represents.
use Rattle.std.specs.Prelude.{◌≡◌, ℕ, ℤ, Bool, false, List, [], ◌∷◌, map, filter, Option, Some, None}
use Rattle.ev_types.specs.declared.event.Event.{Event}
use Rattle.ev_types.specs.declared.item.Emission.{Emission}
use Rattle.stream_meaning.specs.Came.{events}
use Rattle.stream_meaning.specs.Emitted.{emitted}
use Rattle.stream_meaning.specs.History.{History}
use Rattle.stream_meaning.specs.Windows.{moving_time_items, greatest, time_of, is_recent}
use Rattle.stream_plan.specs.Tree.{KindTree, MovingTime}
use Rattle.window_streams.specs.declared.moving_time.MovingTimeState.{MovingTimeState}

abbrev pub moving_time_kind : MovingTimeState → KindTree
moving_time_kind state = MovingTime state.secs

abbrev pub moving_time_poisoned : MovingTimeState → Bool
moving_time_poisoned state = state.poisoned

abbrev pub moving_time_emissions : MovingTimeState → History → List Emission
moving_time_emissions state h = emitted (moving_time_items state.secs h)

-- the greatest time of the events
abbrev pub greatest_time : List Event → Option ℤ
greatest_time [] = None
greatest_time (first ∷ more) = Some (greatest first.time (map time_of more))

-- the events of the last seconds up to it
abbrev pub recent_events : ℕ → List Event → List Event
recent_events secs [] = []
recent_events secs (first ∷ more) = filter (is_recent secs (greatest first.time (map time_of more))) (first ∷ more)

pub record MovingTimeRepresents (state : MovingTimeState) (h : History) : Type 0 where
  pub sound : state.poisoned ≡ false
  pub latest : state.latest ≡ greatest_time (events h)
  pub recent : state.recent ≡ recent_events state.secs (events h)
