-- How a message is spelled: its fields by rising number, each in its shortest spelling. Of an event the time is
-- written always, and of the other fields those that are there; tags and attributes in their order.
use Rattle.std.specs.Prelude.{◌≡◌, ℕ, ◌+◌, ◌*◌, ◌^◌, ◌≤◌, List, ◌∷◌, ◌++◌, map, Option, Result, Ok, Err, ℤ, pos, negsuc}
use Rattle.std.specs.Prelude.{IfSome, All}
use Rattle.std.specs.Int.{w64, cast_unsigned, from_bool}
use Rattle.std.specs.List.{flat_map}
use Rattle.std.specs.Option.{option_map, option_to_list}
use Rattle.ev_types.specs.declared.event.Attr.{Attr}
use Rattle.ev_types.specs.declared.event.Event.{Event}
use Rattle.ev_types.specs.Memory.{Memory}
use Rattle.pb_wire.specs.Spelling.{Content, Varint, Eight, Bytes, Four}
use Rattle.pb_wire.specs.ReadBack.{FieldValue, value_spelling}
use Rattle.riemann_msg.specs.declared.msg.Msg.{Msg}
use Rattle.riemann_msg.specs.declared.msg.QueryPart.{QueryPart}
use Rattle.riemann_msg.specs.Ttl.{IsSpellableTtl, bits_of}
use Rattle.riemann_msg.specs.declared.fields.TheConstants.{ATTRIBUTES, DESCRIPTION, ERROR, EVENTS, HOST, KEY, METRIC_D}
use Rattle.riemann_msg.specs.declared.fields.TheConstants.{METRIC_F, METRIC_SINT64, OK, QUERY, SERVICE, STATE, STRING}
use Rattle.riemann_msg.specs.declared.fields.TheConstants.{TAGS, TIME, TIME_MICROS, TTL, VALUE}

abbrev pub field : ℕ → Content → FieldValue
field number content = record { number = number; content = content }

-- a field that is written where it is there
abbrev pub optional : {A : Type 0} → ℕ → (A → Content) → Option A → List FieldValue
optional number content value = option_to_list (option_map (λ x. field number (content x)) value)

-- a field that is written once for each item
abbrev pub repeated : {A : Type 0} → ℕ → (A → Content) → List A → List FieldValue
repeated number content items = map (λ x. field number (content x)) items

-- the bytes of fields, one after the other
abbrev pub spelled : List FieldValue → List ℕ
spelled values = flat_map value_spelling values

-- zigzag form: 0, -1, 1, -2, 2 .. are spelled as the unsigned numbers 0, 1, 2, 3, 4 ..
abbrev pub zigzag : ℤ → ℕ
zigzag (pos n) = 2 * n
zigzag (negsuc n) = 2 * n + 1

abbrev pub int64 : ℤ → Content
int64 number = Varint (cast_unsigned w64 number)

abbrev pub sint64 : ℤ → Content
sint64 number = Varint (zigzag number)

unfoldable pub attribute_values : Attr → List FieldValue
attribute_values attribute = field KEY (Bytes attribute.key) ∷ optional VALUE Bytes attribute.value

abbrev pub attribute_content : Attr → Content
attribute_content attribute = Bytes (spelled (attribute_values attribute))

-- the fields up to 5, and those from 10 on
abbrev pub name_values : Event → List FieldValue
name_values event = field TIME (int64 event.time) ∷ (optional STATE Bytes event.state
    ++ (optional SERVICE Bytes event.service
    ++ (optional HOST Bytes event.host
    ++ optional DESCRIPTION Bytes event.description)))

abbrev pub number_values : Event → List FieldValue
number_values event = optional TIME_MICROS int64 event.time_micros
    ++ (optional METRIC_SINT64 sint64 event.metric
    ++ (optional METRIC_D Eight event.raw_d
    ++ optional METRIC_F Four event.raw_f))

unfoldable pub event_values : Event → List FieldValue
event_values event = name_values event
    ++ (repeated TAGS Bytes event.tags
    ++ (optional TTL (λ ttl. Four (bits_of ttl)) event.ttl
    ++ (repeated ATTRIBUTES attribute_content event.attributes
    ++ number_values event)))

abbrev pub event_content : Event → Content
event_content event = Bytes (spelled (event_values event))

unfoldable pub query_values : QueryPart → List FieldValue
query_values query = optional STRING Bytes query.string

abbrev pub query_content : QueryPart → Content
query_content query = Bytes (spelled (query_values query))

unfoldable pub message_values : Msg → List FieldValue
message_values msg = optional OK (λ ok. Varint (from_bool ok)) msg.ok
    ++ (optional ERROR Bytes msg.error
    ++ (optional QUERY query_content msg.query
    ++ repeated EVENTS event_content msg.events))

-- the bytes of a message
unfoldable pub spelling : Msg → List ℕ
spelling msg = spelled (message_values msg)

-- each ttl is one that can be spelled
abbrev pub IsSpellableEvent : Event → Type 0
IsSpellableEvent event = IfSome event.ttl IsSpellableTtl

abbrev pub IsSpellable : Msg → Type 0
IsSpellable msg = All IsSpellableEvent msg.events

-- a length that was counted, or that is more than a usize can count
abbrev pub Counts : Result ℕ Memory → ℕ → Type 0
Counts (Ok n) length = n ≡ length
Counts (Err memory) length = 2 ^ 64 ≤ length
