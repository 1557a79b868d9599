-- What a `batch` keeps of what came.
use Rattle.std.specs.Prelude.{◌≡◌, ℕ, ◌%◌, ◌<◌, ◌==◌, Bool, false, not, ◌&&◌, nat_lt, nat_le, List, length}
use Rattle.ev_types.specs.declared.item.Item.{Item}
use Rattle.stream_meaning.specs.Came.{last_of}
use Rattle.stream_meaning.specs.History.{History, begun, window_of}
use Rattle.stream_meaning.specs.Rates.{events_now, batch_items}
use Rattle.stream_plan.specs.Tree.{KindTree, Batch}
use Rattle.rate_streams.specs.Windows.{number_at}
use Rattle.rate_streams.specs.declared.batch.BatchState.{BatchState}

abbrev pub batch_kind : BatchState → KindTree
batch_kind state = Batch state.count state.windows.secs

abbrev pub batch_poisoned : BatchState → Bool
batch_poisoned state = state.poisoned

-- what a stream of the state's kind passes on at the last entry
abbrev pub batch_passes : BatchState → History → List Item
batch_passes state = batch_items state.count state.windows.secs

-- the waiting events fill a batch
abbrev pub is_batch_full : BatchState → Bool
is_batch_full state = nat_le state.count (length state.waiting)

-- events are waiting, and their window has ended by this moment
abbrev pub is_batch_due : BatchState → ℕ → Bool
is_batch_due state now = nat_lt 0 (length state.waiting) && not (number_at state.windows now == state.window)

-- The state holds what the stream has to know of this history.
pub record BatchRepresents (state : BatchState) (h : History) : Type 0 where
  pub sound : state.poisoned ≡ false
  pub positive : 0 < state.count
  pub start : state.windows.start ≡ begun h
  -- the last events of the present window that are in no batch yet
  pub waiting : state.waiting ≡ last_of (length (events_now state.windows.secs h) % state.count)
      (events_now state.windows.secs h)
  -- and the number of that window
  pub window : 0 < length state.waiting → state.window ≡ window_of state.windows.secs h
