-- For which fault a message is refused: the first one in the list of its fields. Places count bytes from the start of
-- the message.
use Rattle.std.specs.Prelude.{◌≡◌, ℕ, ◌+◌, ◌==◌, if◌then◌else◌, List, [], ◌∷◌, length, slice_range, codes, Option, Some}
use Rattle.std.specs.Prelude.{None, Result, Ok, Err, is_some}
use Rattle.std.specs.Option.{option_map, option_or}
use Rattle.std.specs.Str.{is_utf8}
use Rattle.pb_wire.specs.declared.reader.Body.{Body}
use Rattle.pb_wire.specs.declared.reader.Body.TheVariants.{Varint, Eight, Bytes, Four}
use Rattle.pb_wire.specs.declared.reader.WireWhy.{WireWhy}
use Rattle.pb_wire.specs.declared.reader.WireWhy.TheVariants.{Short as wire_short, Varint as wire_varint}
use Rattle.pb_wire.specs.declared.reader.WireWhy.TheVariants.{Tag as wire_tag, Wire as wire_type}
use Rattle.pb_wire.specs.Fields.{FieldAt, fields_of, fields_fault}
use Rattle.pb_wire.specs.ReadBack.{values_of}
use Rattle.riemann_msg.specs.declared.fault.MsgFault.{MsgFault}
use Rattle.riemann_msg.specs.declared.fault.MsgFault.TheVariants.{Refused, Memory}
use Rattle.riemann_msg.specs.declared.fault.MsgWhy.{MsgWhy}
use Rattle.riemann_msg.specs.declared.fault.MsgWhy.TheVariants.{Short as why_short, Varint as why_varint}
use Rattle.riemann_msg.specs.declared.fault.MsgWhy.TheVariants.{Tag as why_tag, Wire as why_wire, Utf8 as why_utf8}
use Rattle.riemann_msg.specs.declared.fault.MsgWhy.TheVariants.{Key as why_key, Ttl as why_ttl}
use Rattle.riemann_msg.specs.Ttl.{seconds_of}
use Rattle.riemann_msg.specs.Value.{bytes_in, is_among, is_of_state, last_in}
use Rattle.riemann_msg.specs.declared.fields.TheConstants.{ATTRIBUTES, DESCRIPTION, ERROR, EVENTS, HOST, KEY, QUERY}
use Rattle.riemann_msg.specs.declared.fields.TheConstants.{SERVICE, STATE, STATES, STRING, TAGS, TTL, VALUE}

-- the name of a cause
abbrev pub why_name : MsgWhy → List ℕ
why_name why_short = codes "short"
why_name why_varint = codes "varint"
why_name why_tag = codes "tag"
why_name why_wire = codes "wire"
why_name why_utf8 = codes "utf8"
why_name why_key = codes "key"
why_name why_ttl = codes "ttl"

pub record Fault : Type 0 where
  pub place : ℕ
  pub why : MsgWhy

abbrev pub fault_at : ℕ → MsgWhy → Fault
fault_at place why = record { place = place; why = why }

-- the same fault, with its place counted from `start` bytes earlier
abbrev pub moved : ℕ → Fault → Fault
moved start fault = fault_at (start + fault.place) fault.why

-- ---- the fault of one body

abbrev pub text_fault : List ℕ → ℕ → Body → Option Fault
text_fault bytes place (Bytes start last) =
    if is_utf8 (slice_range bytes start last) then None else Some (fault_at place why_utf8)
text_fault bytes place (Varint value) = None
text_fault bytes place (Eight value) = None
text_fault bytes place (Four value) = None

abbrev pub ttl_fault : ℕ → Body → Option Fault
ttl_fault place (Four bits) = if is_some (seconds_of bits) then None else Some (fault_at place why_ttl)
ttl_fault place (Varint value) = None
ttl_fault place (Eight value) = None
ttl_fault place (Bytes start last) = None

-- that of the message that a body embeds
abbrev pub embedded_fault : (List ℕ → Option Fault) → List ℕ → Body → Option Fault
embedded_fault fault bytes (Bytes start last) = option_map (moved start) (fault (slice_range bytes start last))
embedded_fault fault bytes (Varint value) = None
embedded_fault fault bytes (Eight value) = None
embedded_fault fault bytes (Four value) = None

-- ---- the first fault of the fields, and after them that of the wire format

abbrev pub why_of : WireWhy → MsgWhy
why_of wire_short = why_short
why_of wire_varint = why_varint
why_of wire_tag = why_tag
why_of wire_type = why_wire

abbrev pub wire_fault : ℕ × WireWhy → Fault
wire_fault fault = fault_at fault.0 (why_of fault.1)

abbrev pub first_of : (FieldAt → Option Fault) → List FieldAt → Option Fault
first_of fault [] = None
first_of fault (field ∷ fields) = option_or (fault field) (first_of fault fields)

abbrev pub first_by : (FieldAt → Option Fault) → List ℕ → Option Fault
first_by fault bytes = option_or (first_of fault (fields_of bytes)) (option_map wire_fault (fields_fault bytes))

-- ---- attributes, events, states, queries, messages

abbrev pub attribute_field_fault : List ℕ → FieldAt → Option Fault
attribute_field_fault bytes field =
    if is_among field.number (KEY ∷ VALUE ∷ []) then text_fault bytes field.place field.body else None

-- an attribute without a key is refused just past its last byte
abbrev pub key_fault : List ℕ → Option Fault
key_fault bytes =
    if is_some (last_in bytes_in KEY (values_of bytes)) then None else Some (fault_at (length bytes) why_key)

unfoldable pub attribute_fault : List ℕ → Option Fault
attribute_fault bytes = option_or (first_by (attribute_field_fault bytes) bytes) (key_fault bytes)

abbrev pub event_field_fault : List ℕ → FieldAt → Option Fault
event_field_fault bytes field =
    if is_among field.number (STATE ∷ SERVICE ∷ HOST ∷ DESCRIPTION ∷ TAGS ∷ [])
    then text_fault bytes field.place field.body
    else (if field.number == TTL then ttl_fault field.place field.body
    else (if field.number == ATTRIBUTES then embedded_fault attribute_fault bytes field.body else None))

unfoldable pub event_fault : List ℕ → Option Fault
event_fault bytes = first_by (event_field_fault bytes) bytes

-- a field that a state does not have has no fault either
abbrev pub state_field_fault : List ℕ → FieldAt → Option Fault
state_field_fault bytes field = if is_of_state field.number then event_field_fault bytes field else None

unfoldable pub state_fault : List ℕ → Option Fault
state_fault bytes = first_by (state_field_fault bytes) bytes

abbrev pub query_field_fault : List ℕ → FieldAt → Option Fault
query_field_fault bytes field = if field.number == STRING then text_fault bytes field.place field.body else None

unfoldable pub query_fault : List ℕ → Option Fault
query_fault bytes = first_by (query_field_fault bytes) bytes

abbrev pub message_field_fault : List ℕ → FieldAt → Option Fault
message_field_fault bytes field =
    if field.number == ERROR then text_fault bytes field.place field.body
    else (if field.number == QUERY then embedded_fault query_fault bytes field.body
    else (if field.number == EVENTS then embedded_fault event_fault bytes field.body
    else (if field.number == STATES then embedded_fault state_fault bytes field.body else None)))

unfoldable pub first_fault : List ℕ → Option Fault
first_fault bytes = first_by (message_field_fault bytes) bytes

-- ---- what an answer says

-- a refusal is for this fault; memory may run out at any time
abbrev pub IsRefusedFor : Option Fault → MsgFault → Type 0
IsRefusedFor fault (Refused place why) = fault ≡ Some (fault_at place why)
IsRefusedFor fault Memory = Unit {0}

-- a value is read where there is no fault, and then this one
abbrev pub Decodes : {A : Type 0} → Option Fault → A → Result A MsgFault → Type 0
Decodes fault value (Ok read) = (fault ≡ None) × (read ≡ value)
Decodes fault value (Err refusal) = IsRefusedFor fault refusal
