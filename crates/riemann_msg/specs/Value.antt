-- What a message is, by what its fields hold. Of a field that may be there once the last one counts; a field that is
-- repeated keeps all, in order. Fields with another number, or of another type, count for nothing.
use Rattle.std.specs.Prelude.{ℕ, ◌==◌, ◌/◌, ◌%◌, not, Bool, if◌then◌else◌, List, [], ◌∷◌, ◌++◌, filter, Option, Some}
use Rattle.std.specs.Prelude.{None, unwrap_or, ℤ, pos, negsuc}
use Rattle.std.specs.Int.{w64, cast_signed, int_div_euclid}
use Rattle.std.specs.List.{concat, filter_map, last_or, list_any}
use Rattle.std.specs.Option.{option_map, option_and_then}
use Rattle.ev_types.specs.declared.event.Attr.{Attr}
use Rattle.ev_types.specs.declared.event.Event.{Event}
use Rattle.ev_types.specs.Set.{event_at}
use Rattle.pb_wire.specs.Spelling.{Content, Varint, Eight, Bytes, Four}
use Rattle.pb_wire.specs.ReadBack.{FieldValue, values_of}
use Rattle.riemann_msg.specs.declared.msg.Msg.{Msg}
use Rattle.riemann_msg.specs.declared.msg.QueryPart.{QueryPart}
use Rattle.riemann_msg.specs.Ttl.{seconds_of}
use Rattle.riemann_msg.specs.declared.fields.TheConstants.{ATTRIBUTES, DESCRIPTION, ERROR, EVENTS, HOST, KEY, METRIC_D}
use Rattle.riemann_msg.specs.declared.fields.TheConstants.{METRIC_F, METRIC_SINT64, OK, QUERY, SERVICE, STATE, STATES}
use Rattle.riemann_msg.specs.declared.fields.TheConstants.{STRING, TAGS, TIME, TIME_MICROS, TTL, VALUE}

-- ---- what a body holds, by its type

abbrev pub varint_in : Content → Option ℕ
varint_in (Varint value) = Some value
varint_in (Eight value) = None
varint_in (Bytes bytes) = None
varint_in (Four value) = None

abbrev pub eight_in : Content → Option ℕ
eight_in (Eight value) = Some value
eight_in (Varint value) = None
eight_in (Bytes bytes) = None
eight_in (Four value) = None

abbrev pub bytes_in : Content → Option (List ℕ)
bytes_in (Bytes bytes) = Some bytes
bytes_in (Varint value) = None
bytes_in (Eight value) = None
bytes_in (Four value) = None

abbrev pub four_in : Content → Option ℕ
four_in (Four value) = Some value
four_in (Varint value) = None
four_in (Eight value) = None
four_in (Bytes bytes) = None

-- zigzag form: the unsigned numbers 0, 1, 2, 3, 4 .. represent 0, -1, 1, -2, 2 ..
abbrev pub unzigzag : ℕ → ℤ
unzigzag value = if value % 2 == 0 then pos (value / 2) else negsuc (value / 2)

abbrev pub bool_in : Content → Option Bool
bool_in content = option_map (λ value. not (value == 0)) (varint_in content)

abbrev pub int64_in : Content → Option ℤ
int64_in content = option_map (cast_signed w64) (varint_in content)

abbrev pub sint64_in : Content → Option ℤ
sint64_in content = option_map unzigzag (varint_in content)

abbrev pub ttl_in : Content → Option ℕ
ttl_in content = option_and_then seconds_of (four_in content)

-- ---- what the fields with a number hold

abbrev pub field_in : {A : Type 0} → (Content → Option A) → ℕ → FieldValue → Option A
field_in read number value = if value.number == number then read value.content else None

abbrev pub all_in : {A : Type 0} → (Content → Option A) → ℕ → List FieldValue → List A
all_in read number values = filter_map (field_in read number) values

-- the last of them, or what was there before
abbrev pub later : {A : Type 0} → Option A → (Content → Option A) → ℕ → List FieldValue → Option A
later before read number values = last_or before (all_in read number values)

abbrev pub last_in : {A : Type 0} → (Content → Option A) → ℕ → List FieldValue → Option A
last_in read number values = later None read number values

abbrev pub is_among : ℕ → List ℕ → Bool
is_among number numbers = list_any (λ other. number == other) numbers

-- ---- attributes, events, states, queries, messages

abbrev pub attribute_from : List FieldValue → Attr
attribute_from values =
    record { key = unwrap_or (last_in bytes_in KEY values) []; value = last_in bytes_in VALUE values }

unfoldable pub attribute_of : List ℕ → Attr
attribute_of bytes = attribute_from (values_of bytes)

abbrev pub attribute_in : Content → Option Attr
attribute_in content = option_map attribute_of (bytes_in content)

-- the second that a time in microseconds lies in
abbrev pub second_of : ℤ → ℤ
second_of micros = int_div_euclid micros (pos 1000000)

-- the fields of an event: what it is, once more of them were read
abbrev pub event_with : Event → List FieldValue → Event
event_with event values = record {
  time = unwrap_or (last_in int64_in TIME values) event.time;
  state = later event.state bytes_in STATE values;
  service = later event.service bytes_in SERVICE values;
  host = later event.host bytes_in HOST values;
  description = later event.description bytes_in DESCRIPTION values;
  tags = event.tags ++ all_in bytes_in TAGS values;
  ttl = later event.ttl ttl_in TTL values;
  attributes = event.attributes ++ all_in attribute_in ATTRIBUTES values;
  time_micros = later event.time_micros int64_in TIME_MICROS values;
  metric = later event.metric sint64_in METRIC_SINT64 values;
  raw_d = later event.raw_d eight_in METRIC_D values;
  raw_f = later event.raw_f four_in METRIC_F values;
}

-- the time is that of time_micros, where that is there
abbrev pub rounded : Event → Event
rounded event = record event { time = unwrap_or (option_map second_of event.time_micros) event.time }

-- without a time of its own an event has the moment of reading
abbrev pub event_from : ℤ → List FieldValue → Event
event_from now values = rounded (event_with (event_at now) values)

unfoldable pub event_of : ℤ → List ℕ → Event
event_of now bytes = event_from now (values_of bytes)

abbrev pub event_in : ℤ → Content → Option Event
event_in now content = option_map (event_of now) (bytes_in content)

-- A state, as clients older than events send it, has some of the fields of an event, by the same numbers and types.
abbrev pub state_fields : List ℕ
state_fields = TIME ∷ STATE ∷ SERVICE ∷ HOST ∷ DESCRIPTION ∷ TAGS ∷ TTL ∷ []

unfoldable pub is_of_state : ℕ → Bool
is_of_state number = is_among number state_fields

-- it is the event of these; its other fields count for nothing
unfoldable pub state_of : ℤ → List ℕ → Event
state_of now bytes = event_from now (filter (λ value. is_of_state value.number) (values_of bytes))

abbrev pub state_in : ℤ → Content → Option Event
state_in now content = option_map (state_of now) (bytes_in content)

unfoldable pub query_of : List ℕ → QueryPart
query_of bytes = record { string = last_in bytes_in STRING (values_of bytes) }

-- several queries are read as one, whose body is their bodies one after the other
abbrev pub queries_joined : List (List ℕ) → Option QueryPart
queries_joined [] = None
queries_joined (part ∷ parts) = Some (query_of (concat (part ∷ parts)))

-- the events are the states in order, and after them the events in order
abbrev pub message_from : ℤ → List FieldValue → Msg
message_from now values = record {
  ok = last_in bool_in OK values;
  error = last_in bytes_in ERROR values;
  query = queries_joined (all_in bytes_in QUERY values);
  events = all_in (state_in now) STATES values ++ all_in (event_in now) EVENTS values;
}

-- the message that the bytes are, read at the moment now in seconds
unfoldable pub message_of : ℕ → List ℕ → Msg
message_of now bytes = message_from (pos now) (values_of bytes)
