-- What is of one key. A key is what some fields hold, each of them the host or the service.
use Rattle.std.specs.Prelude.{◌≡◌, Bool, true, false, IsTrue, if◌then◌else◌, List, [], ◌∷◌, filter}
use Rattle.std.specs.List.{list_all}
use Rattle.ev_types.specs.declared.event.Event.{Event}
use Rattle.ev_types.specs.declared.field.Field.{Field}
use Rattle.ev_types.specs.declared.field.Field.TheVariants.{Host, Service}
use Rattle.ev_types.specs.declared.value.Value.{Value}
use Rattle.ev_types.specs.Key.{same_key, event_key}
use Rattle.index_log.specs.Live.{IndexLog, Write, Reap, live_events}

-- an index tells events apart by the field
abbrev pub is_index_field : Field → Bool
is_index_field Host = true
is_index_field Service = true
is_index_field _ = false

abbrev pub are_index_fields : List Field → Bool
are_index_fields = list_all is_index_field

-- the event holds these values in the fields
abbrev pub event_has : List Field → List Value → Event → Bool
event_has fields key event = same_key (event_key event fields) key

-- a log without the writes of other keys
abbrev pub log_of_key : List Field → List Value → IndexLog → IndexLog
log_of_key fields key [] = []
log_of_key fields key (Write event ∷ later) =
    if event_has fields key event then Write event ∷ log_of_key fields key later else log_of_key fields key later
log_of_key fields key (Reap t ∷ later) = Reap t ∷ log_of_key fields key later

-- the live events of a key are those of its own log, whatever was written of other keys
abbrev pub KeysHaveTheirLogs : Type 0
KeysHaveTheirLogs = (fields : List Field) (key : List Value) (log : IndexLog) → IsTrue (are_index_fields fields) →
    filter (event_has fields key) (live_events log) ≡ live_events (log_of_key fields key log)
