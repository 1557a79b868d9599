-- What a `rollup` keeps of what came.
use Rattle.std.specs.Prelude.{◌≡◌, ℕ, ◌+◌, ◌-◌, ◌<◌, ◌≤◌, ◌==◌, Bool, false, not, ◌&&◌, nat_lt, if◌then◌else◌, List}
use Rattle.std.specs.Prelude.{length, drop}
use Rattle.ev_types.specs.declared.item.Item.{Item}
use Rattle.stream_meaning.specs.History.{History, begun, window_of}
use Rattle.stream_meaning.specs.Rates.{events_now, rolls_into, allowed, one_if, rollup_items}
use Rattle.stream_plan.specs.Tree.{KindTree, Rollup}
use Rattle.rate_streams.specs.Windows.{number_at}
use Rattle.rate_streams.specs.declared.rollup.RollupState.{RollupState}

abbrev pub rollup_kind : RollupState → KindTree
rollup_kind state = Rollup state.count state.windows.secs

abbrev pub rollup_poisoned : RollupState → Bool
rollup_poisoned state = state.poisoned

-- what a stream of the state's kind passes on at the last entry
abbrev pub rollup_passes : RollupState → History → List Item
rollup_passes state = rollup_items state.count state.windows.secs

-- how many more events may pass one by one in this window, the last one that was entered or a later one
abbrev pub room_in : RollupState → ℕ → ℕ
room_in state window = if window == state.window then state.room else state.count

-- events are waiting, and their window has ended by this moment
abbrev pub is_rollup_due : RollupState → ℕ → Bool
is_rollup_due state now = nat_lt 0 (length state.waiting) && not (number_at state.windows now == state.window)

-- the calls of the present window: its events, and the vector that was rolled up into it
abbrev pub calls_now : ℕ → ℕ → History → ℕ
calls_now n secs h = length (events_now secs h) + one_if (rolls_into n secs (window_of secs h) h)

-- The state holds what the stream has to know of this history.
pub record RollupRepresents (state : RollupState) (h : History) : Type 0 where
  pub sound : state.poisoned ≡ false
  pub positive : 0 < state.count
  pub start : state.windows.start ≡ begun h
  pub reached : state.window ≤ window_of state.windows.secs h
  -- what the calls of the present window leave of the count
  pub room : room_in state (window_of state.windows.secs h) ≡ state.count - calls_now state.count state.windows.secs h
  -- the events of the present window that did not pass one by one
  pub waiting : state.waiting ≡ drop (allowed state.count state.windows.secs (window_of state.windows.secs h) h)
      (events_now state.windows.secs h)
  -- and the number of that window
  pub window : 0 < length state.waiting → state.window ≡ window_of state.windows.secs h
