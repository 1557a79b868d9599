-- Streams that pass on vectors of events, by their number or by their own times.
use Rattle.std.specs.Prelude.{ℕ, ℤ, Bool, pos, negsuc, ◌/◌, ◌%◌, ◌-ℤ◌, int_lt, ◌==◌, if◌then◌else◌, List, [], ◌∷◌, ◌++◌}
use Rattle.std.specs.Prelude.{length, filter, map}
use Rattle.std.specs.Int.{int_max}
use Rattle.std.specs.Ordering.{int_eq}
use Rattle.ev_types.specs.declared.event.Event.{Event}
use Rattle.ev_types.specs.declared.item.Item.{Item}
use Rattle.ev_types.specs.declared.item.Item.TheVariants.{One, Many}
use Rattle.stream_meaning.specs.History.{History, since, ◌▸◌, Tick, In}
use Rattle.stream_meaning.specs.Came.{events, vector, last_of}

-- fixed event window: at each n-th event the last n
abbrev pub fixed_event_items : ℕ → History → List Item
fixed_event_items n (since start) = []
fixed_event_items n (h ▸ Tick) = []
fixed_event_items n (h ▸ In (One event)) =
    let came = events h ++ event ∷ [] in
    if length came % n == 0 then vector (last_of n came) else []
fixed_event_items n (h ▸ In (Many es)) = []

-- moving event window: at each event the last n, or all where fewer came
abbrev pub moving_event_items : ℕ → History → List Item
moving_event_items n (since start) = []
moving_event_items n (h ▸ Tick) = []
moving_event_items n (h ▸ In (One event)) = vector (last_of n (events h ++ event ∷ []))
moving_event_items n (h ▸ In (Many es)) = []

-- the greatest whole number that n times is not above a
abbrev pub floor_div : ℤ → ℕ → ℤ
floor_div (pos a) n = pos (a / n)
floor_div (negsuc a) n = negsuc (a / n)

-- the number of the stretch of `secs` seconds in which the event's time lies; stretches are counted from a first event
abbrev pub stretch_of : ℕ → Event → Event → ℤ
stretch_of secs first event = floor_div (event.time -ℤ first.time) secs

-- the greatest of these numbers
abbrev pub greatest : ℤ → List ℤ → ℤ
greatest a [] = a
greatest a (b ∷ bs) = greatest (int_max a b) bs

-- the events of the latest stretch, where this event's stretch is a later one
abbrev pub stretch_before : ℕ → List Event → Event → List Event
stretch_before secs [] event = []
stretch_before secs (first ∷ more) event =
    let latest = greatest (stretch_of secs first first) (map (stretch_of secs first) more) in
    if int_lt latest (stretch_of secs first event)
    then filter (λ other. int_eq (stretch_of secs first other) latest) (first ∷ more) else []

-- fixed time window: at the first event of a later stretch the events of the latest one before
abbrev pub fixed_time_items : ℕ → History → List Item
fixed_time_items secs (since start) = []
fixed_time_items secs (h ▸ Tick) = []
fixed_time_items secs (h ▸ In (One event)) = vector (stretch_before secs (events h) event)
fixed_time_items secs (h ▸ In (Many es)) = []

abbrev pub time_of : Event → ℤ
time_of event = event.time

-- the greatest time of an event and of those before it
abbrev pub latest_time : List Event → Event → ℤ
latest_time before event = greatest event.time (map time_of before)

-- the event's time is less than `secs` seconds before the latest
abbrev pub is_recent : ℕ → ℤ → Event → Bool
is_recent secs latest event = int_lt (latest -ℤ pos secs) event.time

-- moving time window: at an event of the last n seconds, all events of these seconds in the order in which they came
abbrev pub moving_time_items : ℕ → History → List Item
moving_time_items secs (since start) = []
moving_time_items secs (h ▸ Tick) = []
moving_time_items secs (h ▸ In (One event)) =
    let latest = latest_time (events h) event in
    if is_recent secs latest event then vector (filter (is_recent secs latest) (events h ++ event ∷ [])) else []
moving_time_items secs (h ▸ In (Many es)) = []
