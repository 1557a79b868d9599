-- What contracts see of an index, and the log that it represents.
use Rattle.std.specs.Prelude.{◌≡◌, ◌&&◌, ℕ, Bool, false, List, filter, map, Option, None, Some}
use denote.Ref.{Bor}
use Rattle.std.specs.List.{find}
use Rattle.std.specs.Ordering.{is_eq}
use Rattle.ev_types.specs.declared.event.Event.{Event}
use Rattle.ev_types.specs.declared.value.Value.{Value}
use Rattle.ev_types.specs.Field.{text_value}
use Rattle.ev_types.specs.Value.{same_value}
use Rattle.pred_eval.specs.Tree.{Tree}
use Rattle.pred_eval.specs.Host.{asked_host}
use Rattle.index_log.specs.Live.{IndexLog, live_events}
use Rattle.index_log.specs.IndexKey.{text_cmp}
pub use Rattle.stored_event.specs.Stored.{reply_len}

-- the live events in the order of the index, and whether a change ran out of memory, after which nothing is
-- known of them
pub record Index : Type 0 where
  pub events : List Event
  pub poisoned : Bool

-- the index holds what the log leaves live
pub record Represents (index : Index) (log : IndexLog) : Type 0 where
  pub sound : index.poisoned ≡ false
  pub live : index.events ≡ live_events log

-- the event is of this host and this service, each of which may be absent
abbrev pub is_at : Option (List ℕ) → Option (List ℕ) → Event → Bool
is_at host service event = is_eq (text_cmp event.host host) && is_eq (text_cmp event.service service)

-- the first event of a host and a service
abbrev pub event_at : Option (List ℕ) → Option (List ℕ) → List Event → Option Event
event_at host service = find (is_at host service)

-- the host of the event is this value, where nil is an absent host
abbrev pub is_of_value : Value → Event → Bool
is_of_value value event = same_value (text_value event.host) value

-- the events whose host is the value, or all where there is no value
abbrev pub of_value : Option Value → List Event → List Event
of_value None events = events
of_value (Some value) events = filter (is_of_value value) events

-- the events that a search for a rule looks at: those of the host that the rule asks for, or all where it asks for none
abbrev pub visited : Tree → List Event → List Event
visited rule events = of_value (asked_host rule) events

-- events that are lent from where they lie
abbrev pub events_lent : List (Bor Event) → List Event
events_lent = map (λ event. event.now)
