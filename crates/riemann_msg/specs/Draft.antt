-- What is known of a message when its first fields were read: words of the private functions that read. No public
-- clause cites them.
use Rattle.std.specs.Prelude.{◌≡◌, ℕ, ◌==◌, if◌then◌else◌, is_some, ℤ, Result, Ok, Err, ◌++◌, List, [], ◌∷◌, Option}
use Rattle.std.specs.Prelude.{Some, None, unwrap_or}
use Rattle.std.specs.Str.{is_utf8}
use Rattle.std.specs.Option.{option_map}
use Rattle.std.specs.List.{fold}
use Rattle.ev_types.specs.Set.{event_at}
use Rattle.pb_wire.specs.declared.reader.Body.{Body}
use Rattle.pb_wire.specs.Fields.{FieldAt, fields_of}
use Rattle.pb_wire.specs.Spelling.{content_in}
use Rattle.pb_wire.specs.ReadBack.{FieldValue}
use Rattle.riemann_msg.specs.declared.read.AttrDraft.{AttrDraft}
use Rattle.riemann_msg.specs.declared.read.StateDraft.{StateDraft}
use Rattle.riemann_msg.specs.declared.read.MsgDraft.{MsgDraft}
use Rattle.riemann_msg.specs.declared.msg.Msg.{Msg}
use Rattle.riemann_msg.specs.declared.msg.QueryPart.{QueryPart}
use Rattle.riemann_msg.specs.declared.fault.MsgFault.{MsgFault}
use Rattle.riemann_msg.specs.declared.fault.MsgWhy.TheVariants.{Utf8 as why_utf8, Ttl as why_ttl}
use Rattle.riemann_msg.specs.Ttl.{seconds_of}
use Rattle.riemann_msg.specs.Fault.{Fault, fault_at, moved, IsRefusedFor, attribute_fault, query_fault, event_fault}
use Rattle.riemann_msg.specs.Fault.{state_fault}
use Rattle.riemann_msg.specs.Value.{all_in, bytes_in, bool_in, event_in, event_with, state_in, is_among, is_of_state}
use Rattle.riemann_msg.specs.Value.{later}
use Rattle.riemann_msg.specs.declared.fields.TheConstants.{ATTRIBUTES, DESCRIPTION, ERROR, EVENTS, HOST, KEY, OK, QUERY}
use Rattle.riemann_msg.specs.declared.fields.TheConstants.{SERVICE, STATE, STATES, STRING, TAGS, TTL, VALUE}

abbrev pub field_at : ℕ → Body → ℕ → FieldAt
field_at number body place = record { number = number; body = body; place = place }

abbrev pub value_at : List ℕ → FieldAt → FieldValue
value_at bytes field = record { number = field.number; content = content_in bytes field.body }

-- the drafts, once more fields were read
abbrev pub attribute_with : AttrDraft → List FieldValue → AttrDraft
attribute_with draft values =
    record { key = later draft.key bytes_in KEY values; value = later draft.value bytes_in VALUE values }

abbrev pub query_with : QueryPart → List FieldValue → QueryPart
query_with query values = record { string = later query.string bytes_in STRING values }

-- a field that a state does not have changes nothing
abbrev pub state_with : StateDraft → FieldValue → StateDraft
state_with draft value =
    if is_of_state value.number then record { event = event_with draft.event (value ∷ []) } else draft

abbrev pub fresh_state : ℤ → StateDraft
fresh_state now = record { event = event_at now }

abbrev pub no_query : QueryPart
no_query = record { string = None }

-- the fields of one more query
abbrev pub query_joined : Option QueryPart → List ℕ → Option QueryPart
query_joined query bytes =
    Some (fold (λ query field. query_with query (value_at bytes field ∷ [])) (unwrap_or query no_query)
    (fields_of bytes))

abbrev pub message_with : MsgDraft → List FieldValue → MsgDraft
message_with draft values = record {
  now = draft.now;
  ok = later draft.ok bool_in OK values;
  error = later draft.error bytes_in ERROR values;
  query = fold query_joined draft.query (all_in bytes_in QUERY values);
  states = draft.states ++ all_in (state_in draft.now) STATES values;
  events = draft.events ++ all_in (event_in draft.now) EVENTS values;
}

abbrev pub fresh_message : ℤ → MsgDraft
fresh_message now = record { now = now; ok = None; error = None; query = None; states = []; events = [] }

-- the message with the fields of the draft
abbrev pub message_in : MsgDraft → Msg
message_in draft =
    record { ok = draft.ok; error = draft.error; query = draft.query; events = draft.states ++ draft.events }

-- the fault of a body whose tag, and whose bytes, begin at these places of the whole message
abbrev pub utf8_fault : ℕ → List ℕ → Option Fault
utf8_fault place bytes = if is_utf8 bytes then None else Some (fault_at place why_utf8)

abbrev pub four_fault : ℕ → ℕ → ℕ → Option Fault
four_fault number bits place =
    if number == TTL then (if is_some (seconds_of bits) then None else Some (fault_at place why_ttl)) else None

abbrev pub bytes_fault : ℕ → List ℕ → ℕ → ℕ → Option Fault
bytes_fault number bytes start place =
    if is_among number (STATE ∷ SERVICE ∷ HOST ∷ DESCRIPTION ∷ TAGS ∷ []) then utf8_fault place bytes
    else (if number == ATTRIBUTES then option_map (moved start) (attribute_fault bytes) else None)

abbrev pub part_fault : ℕ → List ℕ → ℕ → ℕ → Option Fault
part_fault number bytes start place =
    if number == ERROR then utf8_fault place bytes
    else (if number == QUERY then option_map (moved start) (query_fault bytes)
    else (if number == EVENTS then option_map (moved start) (event_fault bytes)
    else (if number == STATES then option_map (moved start) (state_fault bytes) else None)))

-- a field is read into a draft where it has no fault
abbrev pub Puts : {A U : Type 0} → Option Fault → A → Result U MsgFault → A → Type 0
Puts fault wanted (Ok u) new = (fault ≡ None) × (new ≡ wanted)
Puts fault wanted (Err refusal) new = IsRefusedFor fault refusal
