-- Streams that compare an event with those before it.
use Rattle.std.specs.Prelude.{ℕ, ◌+◌, Bool, true, not, ◌&&◌, nat_le, ◌==◌, if◌then◌else◌, List, [], ◌∷◌, ◌++◌, length}
use Rattle.std.specs.Prelude.{Option, Some, None}
use Rattle.std.specs.List.{list_all}
use Rattle.ev_types.specs.declared.event.Event.{Event}
use Rattle.ev_types.specs.declared.field.Field.{Field}
use Rattle.ev_types.specs.declared.item.Item.{Item}
use Rattle.ev_types.specs.declared.item.Item.TheVariants.{One, Many}
use Rattle.ev_types.specs.declared.value.Value.{Value}
use Rattle.ev_types.specs.Field.{field_value}
use Rattle.ev_types.specs.Value.{same_value}
use Rattle.stream_meaning.specs.History.{History, since, ◌▸◌, Tick, In, moment_of}
use Rattle.stream_meaning.specs.Came.{events, each, last_of}

-- the event holds the value in the field
abbrev pub holds_value : Field → Value → Event → Bool
holds_value field value event = same_value (field_value event field) value

-- the event's field differs from this value, or there is none to compare it with
abbrev pub differs_from : Field → Option Value → Event → Bool
differs_from field None event = true
differs_from field (Some value) event = not (holds_value field value event)

-- what the field held in the last event, or at first what it is taken to have held
abbrev pub last_value : Field → Option Value → History → Option Value
last_value field init (since start) = init
last_value field init (h ▸ Tick) = last_value field init h
last_value field init (h ▸ In (One event)) = Some (field_value event field)
last_value field init (h ▸ In (Many es)) = last_value field init h

-- changed: an event whose field differs from that of the event before
abbrev pub changed_items : Field → Option Value → History → List Item
changed_items field init (since start) = []
changed_items field init (h ▸ Tick) = []
changed_items field init (h ▸ In (One event)) =
    if differs_from field (last_value field init h) event then each (event ∷ []) else []
changed_items field init (h ▸ In (Many es)) = []

-- there are at least n events, and the last n hold the value
abbrev pub has_run : ℕ → Field → Value → List Event → Bool
has_run n field value es = nat_le n (length es) && list_all (holds_value field value) (last_of n es)

-- runs: an event that is the last of n that hold the same
abbrev pub runs_items : ℕ → Field → History → List Item
runs_items n field (since start) = []
runs_items n field (h ▸ Tick) = []
runs_items n field (h ▸ In (One event)) =
    if has_run n field (field_value event field) (events h ++ event ∷ []) then each (event ∷ []) else []
runs_items n field (h ▸ In (Many es)) = []

-- the last events that hold the same, back to the last change
abbrev pub run : Field → History → List Event
run field (since start) = []
run field (h ▸ Tick) = run field h
run field (h ▸ In (One event)) =
    if differs_from field (last_value field None h) event then event ∷ [] else run field h ++ event ∷ []
run field (h ▸ In (Many es)) = run field h

-- the moment of the first of them
abbrev pub run_began : Field → History → ℕ
run_began field (since start) = start
run_began field (h ▸ Tick) = run_began field h
run_began field (h ▸ In (One event)) =
    if differs_from field (last_value field None h) event then moment_of h else run_began field h
run_began field (h ▸ In (Many es)) = run_began field h

-- stable: each event of the run at the second when the run has lasted `secs`, and from then on each event as it comes
abbrev pub stable_items : ℕ → Field → History → List Item
stable_items secs field (since start) = []
stable_items secs field (h ▸ Tick) = if moment_of (h ▸ Tick) == run_began field h + secs then each (run field h) else []
stable_items secs field (h ▸ In (One event)) =
    if nat_le (run_began field (h ▸ In (One event)) + secs) (moment_of h) then each (event ∷ []) else []
stable_items secs field (h ▸ In (Many es)) = []
