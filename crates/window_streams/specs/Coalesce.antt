-- What the state of a stream that passes on the last events represents.
use Rattle.std.specs.Prelude.{◌≡◌, ◌<◌, Bool, false, List, length}
use Rattle.ev_types.specs.declared.item.Emission.{Emission}
use Rattle.stream_meaning.specs.Came.{timed_events}
use Rattle.stream_meaning.specs.Coalesce.{coalesced, coalesce_items}
use Rattle.stream_meaning.specs.Deadlines.{next_window}
use Rattle.stream_meaning.specs.Emitted.{emitted}
use Rattle.stream_meaning.specs.History.{History, begun}
use Rattle.stream_plan.specs.Tree.{KindTree, Coalesce}
use Rattle.window_streams.specs.declared.coalesce.CoalesceState.{CoalesceState}

abbrev pub coalesce_kind : CoalesceState → KindTree
coalesce_kind state = Coalesce state.secs

abbrev pub coalesce_poisoned : CoalesceState → Bool
coalesce_poisoned state = state.poisoned

abbrev pub coalesce_emissions : CoalesceState → History → List Emission
coalesce_emissions state h = emitted (coalesce_items state.secs h)

-- the events are kept that pass at the next boundary, which is known where there are some
pub record CoalesceRepresents (state : CoalesceState) (h : History) : Type 0 where
  pub sound : state.poisoned ≡ false
  pub start : state.start ≡ begun h
  pub last : state.last ≡ coalesced state.secs (next_window state.secs h) (timed_events h)
  pub boundary : 0 < length state.last → state.boundary ≡ next_window state.secs h
