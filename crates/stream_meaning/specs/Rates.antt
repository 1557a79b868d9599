-- Streams that count events in windows. The first tick of a window is the one at which its number comes.
use Rattle.std.specs.Prelude.{ℕ, zero, suc, ◌+◌, ◌-◌, ◌%◌, Bool, false, nat_lt, ◌==◌, if◌then◌else◌, List, [], ◌∷◌}
use Rattle.std.specs.Prelude.{◌++◌, length, drop}
use Rattle.ev_types.specs.declared.event.Event.{Event}
use Rattle.ev_types.specs.declared.item.Item.{Item}
use Rattle.ev_types.specs.declared.item.Item.TheVariants.{One, Many}
use Rattle.stream_meaning.specs.History.{History, since, ◌▸◌, Tick, In, window_of}
use Rattle.stream_meaning.specs.Came.{events_in, each, vector, last_of}

-- how many events came in this window
abbrev pub count_in : ℕ → ℕ → History → ℕ
count_in secs window h = length (events_in secs window h)

-- the events in the window of the last entry
abbrev pub events_now : ℕ → History → List Event
events_now secs h = events_in secs (window_of secs h) h

-- throttle: an event before which fewer than n came in its window
abbrev pub throttle_items : ℕ → ℕ → History → List Item
throttle_items n secs (since start) = []
throttle_items n secs (h ▸ Tick) = []
throttle_items n secs (h ▸ In (One event)) = if nat_lt (length (events_now secs h)) n then each (event ∷ []) else []
throttle_items n secs (h ▸ In (Many es)) = []

-- batch: at an event whose count in its window is a multiple of n the last n; when the window ends, what is left over
abbrev pub batch_items : ℕ → ℕ → History → List Item
batch_items n secs (since start) = []
batch_items n secs (h ▸ Tick) =
    if window_of secs (h ▸ Tick) == window_of secs h then []
    else vector (last_of (length (events_now secs h) % n) (events_now secs h))
batch_items n secs (h ▸ In (One event)) =
    let now = events_now secs h ++ event ∷ [] in
    if length now % n == 0 then vector (last_of n now) else []
batch_items n secs (h ▸ In (Many es)) = []

abbrev pub one_if : Bool → ℕ
one_if test = if test then 1 else 0

-- the events of the window before this one are rolled up into one vector, which counts as one in this window
abbrev pub rolls_into : ℕ → ℕ → ℕ → History → Bool
rolls_into n secs zero h = false
rolls_into n secs (suc window) h = nat_lt n (count_in secs window h + one_if (rolls_into n secs window h))

-- how many events of this window pass one by one
abbrev pub allowed : ℕ → ℕ → ℕ → History → ℕ
allowed n secs window h = n - one_if (rolls_into n secs window h)

-- rollup: the first n of a window one by one, each as a vector; when the window ends, the others in one, which counts
-- in the next, so that of that one only n - 1 events pass one by one
abbrev pub rollup_items : ℕ → ℕ → History → List Item
rollup_items n secs (since start) = []
rollup_items n secs (h ▸ Tick) =
    let window = window_of secs h in
    if window_of secs (h ▸ Tick) == window then []
    else (if rolls_into n secs (suc window) h then vector (drop (allowed n secs window h) (events_in secs window h))
    else [])
rollup_items n secs (h ▸ In (One event)) =
    let window = window_of secs h in
    if nat_lt (count_in secs window h + one_if (rolls_into n secs window h)) n then vector (event ∷ []) else []
rollup_items n secs (h ▸ In (Many es)) = []
