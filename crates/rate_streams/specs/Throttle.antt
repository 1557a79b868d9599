-- What a `throttle` keeps of what came.
use Rattle.std.specs.Prelude.{◌≡◌, ℕ, ◌≤◌, ◌==◌, Bool, false, if◌then◌else◌, List, min}
use Rattle.ev_types.specs.declared.item.Item.{Item}
use Rattle.stream_meaning.specs.History.{History, begun, window_of}
use Rattle.stream_meaning.specs.Rates.{count_in, throttle_items}
use Rattle.stream_plan.specs.Tree.{KindTree, Throttle}
use Rattle.rate_streams.specs.declared.throttle.ThrottleState.{ThrottleState}

abbrev pub throttle_kind : ThrottleState → KindTree
throttle_kind state = Throttle state.count state.windows.secs

abbrev pub throttle_poisoned : ThrottleState → Bool
throttle_poisoned state = state.poisoned

-- what a stream of the state's kind passes on at the last entry
abbrev pub throttle_passes : ThrottleState → History → List Item
throttle_passes state = throttle_items state.count state.windows.secs

-- how many events passed in this window, the last one or a later one
abbrev pub passed_in : ThrottleState → ℕ → ℕ
passed_in state window = if window == state.window then state.passed else 0

-- The state holds what the stream has to know of this history.
pub record ThrottleRepresents (state : ThrottleState) (h : History) : Type 0 where
  pub sound : state.poisoned ≡ false
  pub start : state.windows.start ≡ begun h
  -- in the present window, and in each later one, as many events passed as came, up to the count
  pub passed : (window : ℕ) → window_of state.windows.secs h ≤ window
      → passed_in state window ≡ min (count_in state.windows.secs window h) state.count
