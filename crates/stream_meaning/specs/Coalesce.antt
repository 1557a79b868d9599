-- Streams that pass on the last event of each host and service every n seconds.
use Rattle.std.specs.Prelude.{ℕ, ◌-◌, ◌%◌, Bool, not, ◌||◌, nat_le, ◌==◌, if◌then◌else◌, List, [], ◌∷◌, map, filter}
use Rattle.std.specs.List.{list_any}
use Rattle.ev_types.specs.declared.event.Event.{Event}
use Rattle.ev_types.specs.declared.item.Item.{Item}
use Rattle.ev_types.specs.Expiry.{is_expired}
use Rattle.index_log.specs.IndexKey.{same_index_key}
use Rattle.index_log.specs.Live.{placed_onto}
use Rattle.stream_meaning.specs.History.{History, since, ◌▸◌, Tick, In, begun, moment_of}
use Rattle.stream_meaning.specs.Came.{Timed, timed_events, vector}

-- the event is of this one's host and service
abbrev pub replaces : Timed → Timed → Bool
replaces older newer = same_index_key older.event newer.event

-- the last event of each host and service
abbrev pub newest : List Timed → List Timed
newest [] = []
newest (older ∷ later) = if list_any (replaces older) later then newest later else older ∷ newest later

-- it has not expired at t, or had not `secs` seconds before, or came in these seconds
abbrev pub still_passes : ℕ → ℕ → Timed → Bool
still_passes secs t timed =
    not (is_expired t timed.event) || not (is_expired (t - secs) timed.event) || nat_le (t - secs) timed.at

abbrev pub event_of : Timed → Event
event_of timed = timed.event

-- the last events that pass at the moment t, by host and service
abbrev pub coalesced : ℕ → ℕ → List Timed → List Event
coalesced secs t came = placed_onto [] (map event_of (filter (still_passes secs t) (newest came)))

-- coalesce: every n seconds the last events
abbrev pub coalesce_items : ℕ → History → List Item
coalesce_items secs (since start) = []
coalesce_items secs (h ▸ Tick) =
    let t = moment_of (h ▸ Tick) in
    if (t - begun h) % secs == 0 then vector (coalesced secs t (timed_events h)) else []
coalesce_items secs (h ▸ In item) = []
