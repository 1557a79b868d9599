-- How an index keeps its events: the numbers of their keys in order, the events under these numbers, and the moments at
-- which they expire.
use Rattle.std.specs.Prelude.{◌≡◌, ℕ, ◌≤◌, ◌^◌, Bool, false, nat_le, eqb, List, [], ◌∷◌, map, length, Option, None}
use Rattle.std.specs.Prelude.{Some, if◌then◌else◌, ℤ, ◌-ℤ◌, int_lt, pos, unwrap_or}
use Rattle.std.specs.Option.{option_map}
use Rattle.std.specs.Map.{values_of, lookup}
use Rattle.std.specs.List.{All, list_any}
use Rattle.std.specs.List.Sorted.{IsStrictlySortedBy}
use Rattle.index_log.specs.IndexKey.{index_key_cmp, text_cmp}
use Rattle.std.specs.BTreeMap.{is_at}
use Rattle.ev_types.specs.declared.event.Event.{Event}
use Rattle.ev_types.specs.Expiry.{ends_key, is_late}
use Rattle.ev_types.specs.Limits.{default_ttl}
use Rattle.ev_types.specs.declared.value.Value.{Value}
use Rattle.ev_types.specs.declared.value.Value.TheVariants.{Nil, Number, Text}
use Rattle.key_map.specs.Keys.{IndexKey, key_cmp, Numbers, number_at, of_host, IsRising}
use Rattle.linked_slots.specs.Table.{value_at, IsLive}
use Rattle.tick_schedule.specs.Queue as queue
use Rattle.tick_schedule.specs.Queue.{moment_at}

abbrev pub key_of : Event → IndexKey
key_of event = (event.host, event.service)

-- the events, with one more before them where there is one
abbrev pub also : Option Event → List Event → List Event
also None events = events
also (Some event) events = event ∷ events

-- the events under these numbers
abbrev pub events_at : List (Option Event) → List ℕ → List Event
events_at table [] = []
events_at table (number ∷ numbers) = also (value_at table number) (events_at table numbers)

-- the events under the numbers of the keys, in key order
abbrev pub events_in : Numbers → List (Option Event) → List Event
events_in numbers table = events_at table (values_of numbers)

abbrev pub slot_at : List (Option Event) → Option ℕ → Option Event
slot_at table None = None
slot_at table (Some number) = value_at table number

-- the event of the key, if there is one
abbrev pub event_of : IndexKey → Numbers → List (Option Event) → Option Event
event_of key numbers table = slot_at table (number_at key numbers)

-- each number of a key has an event of that key, each event has the number of its key, and none ends its key
pub record IsLinked (numbers : Numbers) (table : List (Option Event)) : Type 0 where
  pub rising : IsRising numbers
  pub found : (key : IndexKey) (number : ℕ) → number_at key numbers ≡ Some number
      → option_map key_of (value_at table number) ≡ Some key
  pub placed : (number : ℕ) (event : Event) → value_at table number ≡ Some event
      → number_at (key_of event) numbers ≡ Some number
  pub current : (number : ℕ) (event : Event) → value_at table number ≡ Some event → ends_key event ≡ false

-- the moment has come, where there is one
abbrev pub is_by : ℕ → Option ℕ → Bool
is_by now None = false
is_by now (Some moment) = nat_le moment now

-- an event with this time and this ttl, if it has one, is late
abbrev pub is_past : ℕ → ℤ → Option ℕ → Bool
is_past now time ttl = int_lt (pos (unwrap_or ttl default_ttl)) (pos now -ℤ time)

abbrev pub is_late_in : ℕ → Option Event → Bool
is_late_in now None = false
is_late_in now (Some event) = is_late now event

-- at each moment exactly the events that are late are due
abbrev pub IsTimed : List (Option Event) → List (ℕ × ℕ) → Type 0
IsTimed table due =
    (number now : ℕ) → now ≤ 2 ^ 40 → is_by now (moment_at number due) ≡ is_late_in now (value_at table number)

pub record IsStored (numbers : Numbers) (table : List (Option Event)) (due : List (ℕ × ℕ)) (count : ℕ) : Type 0 where
  pub linked : IsLinked numbers table
  pub timed : IsTimed table due
  pub ordered : queue.IsRising due
  pub counted : count ≡ length numbers

-- the key has this event or none now, and every other key has what it had
abbrev pub Puts : IndexKey → Option Event → Numbers → List (Option Event) → Numbers → List (Option Event) → Type 0
Puts key slot numbers table numbers' table' = (other : IndexKey)
    → event_of other numbers' table' ≡ (if is_at (key_cmp key) other then slot else event_of other numbers table)

-- what a write leaves at the key of its event
abbrev pub slot_of : Event → Option Event
slot_of event = if ends_key event then None else Some event

-- each of these numbers has an event
abbrev pub AreLive : List (Option Event) → List ℕ → Type 0
AreLive table numbers = All (IsLive table) numbers

-- the events in key order, or none where the index is poisoned
abbrev pub events_unless : Bool → Numbers → List (Option Event) → List Event
events_unless poisoned numbers table = if poisoned then [] else events_in numbers table

-- the number is one of these
abbrev pub is_among : ℕ → List ℕ → Bool
is_among number numbers = list_any (eqb number) numbers

abbrev pub has_number : Option ℕ → List ℕ → Bool
has_number None numbers = false
has_number (Some number) numbers = is_among number numbers

-- each key whose number is one of these has no event now, and every other key has what it had
abbrev pub Keeps : List ℕ → Numbers → List (Option Event) → Numbers → List (Option Event) → Type 0
Keeps gone numbers table numbers' table' = (key : IndexKey)
    → event_of key numbers' table'
    ≡ (if has_number (number_at key numbers) gone then None else event_of key numbers table)

-- the events of the keys whose numbers are these, in key order
pub record Takes (gone : List ℕ) (numbers : Numbers) (table : List (Option Event)) (events : List Event) : Type 0 where
  pub rising : IsStrictlySortedBy index_key_cmp events
  pub taken : (key : IndexKey) → lookup (is_at (key_cmp key)) (map (λ event. (key_of event, event)) events)
      ≡ (if has_number (number_at key numbers) gone then event_of key numbers table else None)

-- the events under the numbers that are gone were taken out of the numbers and the table, in key order
pub record IsTaking (gone : List ℕ) (numbers : Numbers) (table : List (Option Event)) (numbers' : Numbers)
    (table' : List (Option Event)) (events : List Event) : Type 0 where
  pub origin : IsLinked numbers table
  pub linked : IsLinked numbers' table'
  pub slots : (number : ℕ) → value_at table' number ≡ (if is_among number gone then None else value_at table number)
  pub kept : Keeps gone numbers table numbers' table'
  pub taken : Takes gone numbers table events

-- the event is of this host, which may be absent
abbrev pub is_of_host : Option (List ℕ) → Event → Bool
is_of_host host event = is_at (text_cmp host) event.host

-- the numbers of the keys whose host is the value, or all where there is no value: no host is a number
abbrev pub numbers_of_value : Option Value → Numbers → Numbers
numbers_of_value None numbers = numbers
numbers_of_value (Some Nil) numbers = of_host None numbers
numbers_of_value (Some (Number n)) numbers = []
numbers_of_value (Some (Text host)) numbers = of_host (Some host) numbers
