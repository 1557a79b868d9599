-- What the state of a moving event window represents.
use Rattle.std.specs.Prelude.{◌≡◌, Bool, false, List}
use Rattle.ev_types.specs.declared.item.Emission.{Emission}
use Rattle.stream_meaning.specs.Came.{events, last_of}
use Rattle.stream_meaning.specs.Emitted.{emitted}
use Rattle.stream_meaning.specs.History.{History}
use Rattle.stream_meaning.specs.Windows.{moving_event_items}
use Rattle.stream_plan.specs.Tree.{KindTree, MovingEvent}
use Rattle.window_streams.specs.declared.moving_event.MovingEventState.{MovingEventState}

abbrev pub moving_event_kind : MovingEventState → KindTree
moving_event_kind state = MovingEvent state.count

abbrev pub moving_event_poisoned : MovingEventState → Bool
moving_event_poisoned state = state.poisoned

abbrev pub moving_event_emissions : MovingEventState → History → List Emission
moving_event_emissions state h = emitted (moving_event_items state.count h)

-- the last `count` events are kept, or all where fewer came
pub record MovingEventRepresents (state : MovingEventState) (h : History) : Type 0 where
  pub sound : state.poisoned ≡ false
  pub latest : state.latest ≡ last_of state.count (events h)
