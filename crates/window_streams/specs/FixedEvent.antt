-- What the state of a fixed event window represents.
use Rattle.std.specs.Prelude.{◌≡◌, ◌%◌, ◌<◌, Bool, false, List, ◌++◌, length}
use Rattle.ev_types.specs.declared.event.Event.{Event}
use Rattle.ev_types.specs.declared.item.Emission.{Emission}
use Rattle.stream_meaning.specs.Came.{events}
use Rattle.stream_meaning.specs.Emitted.{emitted}
use Rattle.stream_meaning.specs.History.{History}
use Rattle.stream_meaning.specs.Windows.{fixed_event_items}
use Rattle.stream_plan.specs.Tree.{KindTree, FixedEvent}
use Rattle.window_streams.specs.declared.fixed_event.FixedEventState.{FixedEventState}

abbrev pub fixed_event_kind : FixedEventState → KindTree
fixed_event_kind state = FixedEvent state.count

abbrev pub fixed_event_poisoned : FixedEventState → Bool
fixed_event_poisoned state = state.poisoned

abbrev pub fixed_event_emissions : FixedEventState → History → List Emission
fixed_event_emissions state h = emitted (fixed_event_items state.count h)

-- the events are those of whole vectors, and then fewer than one more vector takes, which are kept
pub record FixedEventRepresents (state : FixedEventState) (h : History) : Type 0 where
  pub sound : state.poisoned ≡ false
  pub passed : List Event
  pub whole : length passed % state.count ≡ 0
  pub waiting : events h ≡ passed ++ state.waiting
  pub short : length state.waiting < state.count
