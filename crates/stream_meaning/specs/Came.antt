-- The events that came to a stream. A vector that comes to a stream of events counts for nothing.
use Rattle.std.specs.Prelude.{ℕ, ◌-◌, ◌==◌, if◌then◌else◌, List, [], ◌∷◌, ◌++◌, map, length, drop}
use Rattle.ev_types.specs.declared.event.Event.{Event}
use Rattle.ev_types.specs.declared.item.Item.{Item}
use Rattle.ev_types.specs.declared.item.Item.TheVariants.{One, Many}
use Rattle.stream_meaning.specs.History.{History, since, ◌▸◌, Tick, In, moment_of, window_of}

-- all events, in the order in which they came
abbrev pub events : History → List Event
events (since start) = []
events (h ▸ Tick) = events h
events (h ▸ In (One event)) = events h ++ event ∷ []
events (h ▸ In (Many es)) = events h

-- those that came in this window
abbrev pub events_in : ℕ → ℕ → History → List Event
events_in secs window (since start) = []
events_in secs window (h ▸ Tick) = events_in secs window h
events_in secs window (h ▸ In (One event)) =
    if window_of secs h == window then events_in secs window h ++ event ∷ [] else events_in secs window h
events_in secs window (h ▸ In (Many es)) = events_in secs window h

-- an event, and the moment at which it came
pub record Timed : Type 0 where
  pub event : Event
  pub at : ℕ

-- all events with their moments
abbrev pub timed_events : History → List Timed
timed_events (since start) = []
timed_events (h ▸ Tick) = timed_events h
timed_events (h ▸ In (One event)) = timed_events h ++ record { event = event; at = moment_of h } ∷ []
timed_events (h ▸ In (Many es)) = timed_events h

-- the last n of a list, or all where it has fewer
abbrev pub last_of : {A : Type 0} → ℕ → List A → List A
last_of n items = drop (length items - n) items

-- each event as an item of its own
abbrev pub each : List Event → List Item
each = map One

-- all events as one vector, and nothing for none: no vector is empty
abbrev pub vector : List Event → List Item
vector [] = []
vector (event ∷ es) = Many (event ∷ es) ∷ []
