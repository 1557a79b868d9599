-- Reading fields one after the other gives what all fields hold.
use Rattle.std.proofs.Common.{◌≡◌, ℕ, ◌+◌, ◌++◌, Bool, true, false, cond, eqb, List, [], ◌∷◌, length, map, Option, Some}
use Rattle.std.proofs.Common.{None, ℤ, pos, inl, inr, refl, sym, ap, ◌∙◌, append_assoc}
use Rattle.std.proofs.lemmas.List.{append-nil}
use Rattle.std.specs.Option.{option_map, option_or}
use Rattle.std.specs.Prelude.{All, IfSome, filter, slice_range, unwrap_or}
use Rattle.std.proofs.lemmas.Bool.{cases_eq, ne_eqb}
use Rattle.std.proofs.lemmas.List.Elements.{All-append, All-from_recursion}
use Rattle.std.specs.List.{AllByRecursion, flat_map, fold, last_or, filter_map, cons_option}
use Rattle.ev_types.specs.declared.event.Event.{Event}
use Rattle.ev_types.specs.Set.{event_at}
use Rattle.pb_wire.specs.declared.reader.Body.{Body}
use Rattle.pb_wire.specs.declared.reader.Body.TheVariants.{Varint as body_varint, Eight as body_eight}
use Rattle.pb_wire.specs.declared.reader.Body.TheVariants.{Bytes as body_bytes, Four as body_four}
use Rattle.pb_wire.specs.Fields.{FieldAt, fields_of, fields_fault}
use Rattle.pb_wire.specs.Spelling.{Content, Varint, Eight, Bytes, Four}
use Rattle.pb_wire.specs.ReadBack.{FieldValue, values_of}
use Rattle.riemann_msg.specs.declared.read.AttrDraft.{AttrDraft}
use Rattle.riemann_msg.specs.declared.read.MsgDraft.{MsgDraft}
use Rattle.riemann_msg.specs.declared.read.StateDraft.{StateDraft}
use Rattle.riemann_msg.specs.declared.msg.QueryPart.{QueryPart}
use Rattle.riemann_msg.specs.Value.{bytes_in, int64_in, ttl_in, event_from, event_with, rounded, is_of_state, field_in}
use Rattle.riemann_msg.specs.Value.{all_in, last_in, attribute_of, event_of, state_of, query_of, queries_joined}
use Rattle.riemann_msg.specs.Value.{message_of}
use Rattle.riemann_msg.specs.declared.fault.MsgFault.{MsgFault}
use Rattle.riemann_msg.specs.declared.fault.MsgFault.TheVariants.{Refused, Memory}
use Rattle.riemann_msg.specs.declared.fault.MsgWhy.TheVariants.{Key as why_key}
use Rattle.riemann_msg.specs.Fault.{Fault, fault_at, moved, first_by, first_of, wire_fault, IsRefusedFor}
use Rattle.riemann_msg.specs.Fault.{attribute_field_fault, event_field_fault, state_field_fault, query_field_fault}
use Rattle.riemann_msg.specs.Fault.{message_field_fault, attribute_fault, event_fault, state_fault, query_fault}
use Rattle.riemann_msg.specs.Fault.{key_fault}
use Rattle.riemann_msg.specs.Spelling.{field, IsSpellable, IsSpellableEvent}
use Rattle.riemann_msg.specs.Ttl.{IsSpellableTtl, seconds_of}
use Rattle.riemann_msg.proofs.TtlBits.{ttl_from_seconds}
use Rattle.riemann_msg.proofs.Joined.{IsWhole, values_of_all}
use Rattle.riemann_msg.specs.Draft.{fresh_message, field_at, query_joined, value_at, attribute_with, query_with}
use Rattle.riemann_msg.specs.Draft.{state_with, fresh_state, message_with, no_query, message_in}

-- what one field holds, and then what more fields hold
last_step : {A : Type 0} (o x : Option A) (xs : List A)
    → last_or (last_or o (cons_option x [])) xs ≡ last_or o (cons_option x xs)
last_step o None xs = refl
last_step o (Some x) xs = refl

all_step : {A : Type 0} (front : List A) (x : Option A) (xs : List A)
    → (front ++ cons_option x []) ++ xs ≡ front ++ cons_option x xs
all_step front None xs = ap (λ ys. ys ++ xs) (append-nil front)
all_step front (Some x) xs = append_assoc front (x ∷ []) xs

-- ---- attributes

attribute_fold : (bytes : List ℕ) (fields : List FieldAt) (draft : AttrDraft)
    → fold (λ draft field. attribute_with draft (value_at bytes field ∷ [])) draft fields
    ≡ attribute_with draft (map (value_at bytes) fields)
attribute_fold bytes [] draft = refl
attribute_fold bytes (f ∷ fields) draft =
    attribute_fold bytes fields (attribute_with draft (value_at bytes f ∷ [])) ∙ simp last_step

-- ---- queries

pub query_fold : (bytes : List ℕ) (fields : List FieldAt) (query : QueryPart)
    → fold (λ query field. query_with query (value_at bytes field ∷ [])) query fields
    ≡ query_with query (map (value_at bytes) fields)
query_fold bytes [] query = refl
query_fold bytes (f ∷ fields) query =
    query_fold bytes fields (query_with query (value_at bytes f ∷ [])) ∙ simp last_step

-- ---- events

time_after : (other time : ℤ) (xs : List ℤ)
    → unwrap_or (last_or None xs) time ≡ unwrap_or (last_or (Some time) xs) other
time_after other time [] = refl
time_after other time (x ∷ xs) = some x xs
  where
    some : (x : ℤ) (xs : List ℤ) → unwrap_or (last_or (Some x) xs) time ≡ unwrap_or (last_or (Some x) xs) other
    some x [] = refl
    some x (y ∷ ys) = some y ys

time_step : (time : ℤ) (x : Option ℤ) (xs : List ℤ)
    → unwrap_or (last_or None xs) (unwrap_or (last_or None (cons_option x [])) time)
    ≡ unwrap_or (last_or None (cons_option x xs)) time
time_step time None xs = refl
time_step time (Some x) xs = time_after time x xs

event_nothing : (event : Event) → event ≡ event_with event []
event_nothing event = simp append-nil

event_step : (event : Event) (value : FieldValue) (values : List FieldValue)
    → event_with (event_with event (value ∷ [])) values ≡ event_with event (value ∷ values)
event_step event value values = simp (last_step, all_step, time_step)

event_fold : (bytes : List ℕ) (fields : List FieldAt) (event : Event)
    → fold (λ event field. event_with event (value_at bytes field ∷ [])) event fields
    ≡ event_with event (map (value_at bytes) fields)
event_fold bytes [] event = event_nothing event
event_fold bytes (f ∷ fields) event =
    event_fold bytes fields (event_with event (value_at bytes f ∷ []))
    ∙ event_step event (value_at bytes f) (map (value_at bytes) fields)

-- ---- states

abbrev of_state : List FieldValue → List FieldValue
of_state values = filter (λ value. is_of_state value.number) values

abbrev state_grown : Event → List FieldValue → StateDraft
state_grown event values = record { event = event_with event values }

state_step : (test : Bool) (draft : StateDraft) (value : FieldValue) (values : List FieldValue)
    → state_grown (cond {A = StateDraft} test (record { event = event_with draft.event (value ∷ []) }) draft).event
    values
    ≡ state_grown draft.event (cond test (value ∷ values) values)
state_step true draft value values = ap (λ (event : Event). draft_of event) (event_step draft.event value values)
  where
    draft_of : Event → StateDraft
    draft_of event = record { event = event }
state_step false draft value values = refl

state_fold : (bytes : List ℕ) (fields : List FieldAt) (draft : StateDraft)
    → fold (λ draft field. state_with draft (value_at bytes field)) draft fields
    ≡ state_grown draft.event (of_state (map (value_at bytes) fields))
state_fold bytes [] draft = ap (λ (event : Event). draft_of event) (event_nothing draft.event)
  where
    draft_of : Event → StateDraft
    draft_of event = record { event = event }
state_fold bytes (f ∷ fields) draft =
    state_fold bytes fields (state_with draft (value_at bytes f))
    ∙ state_step (is_of_state f.number) draft (value_at bytes f) (of_state (map (value_at bytes) fields))

-- a state has no time in microseconds
no_micros : (values : List FieldValue) → all_in int64_in 10 (of_state values) ≡ []
unfolding is_of_state
no_micros [] = refl
no_micros (value ∷ values) = step value.number value.content (no_micros values)
  where
    kept : (test : Bool) (number : ℕ) (content : Content) → eqb number 10 ≡ false
        → all_in int64_in 10 (of_state values) ≡ []
        → all_in int64_in 10 (cond test (field number content ∷ of_state values) (of_state values)) ≡ []
    kept true number content other none = rw other none
    kept false number content other none = none

    step : (number : ℕ) (content : Content) → all_in int64_in 10 (of_state values) ≡ []
        → all_in int64_in 10 (of_state (field number content ∷ values)) ≡ []
    step number content none = elim (cases_eq number 10) [
      | inl is ↦ rw is none
      | inr other ↦ kept (is_of_state number) number content (ne_eqb number 10 other) none
    ]

-- ---- messages

queries_step : (query : Option QueryPart) (x : Option (List ℕ)) (parts : List (List ℕ))
    → fold query_joined (fold query_joined query (cons_option x [])) parts
    ≡ fold query_joined query (cons_option x parts)
queries_step query None parts = refl
queries_step query (Some part) parts = refl

message_nothing : (draft : MsgDraft) → draft ≡ message_with draft []
message_nothing draft = simp append-nil

message_fold : (bytes : List ℕ) (fields : List FieldAt) (draft : MsgDraft)
    → fold (λ draft field. message_with draft (value_at bytes field ∷ [])) draft fields
    ≡ message_with draft (map (value_at bytes) fields)
message_fold bytes [] draft = message_nothing draft
message_fold bytes (f ∷ fields) draft =
    message_fold bytes fields (message_with draft (value_at bytes f ∷ [])) ∙ simp (last_step, all_step, queries_step)

-- ---- what was read, where there is no fault

pub event_read : (now : ℤ) (bytes : List ℕ) (base : ℕ) (start read : Event) → start ≡ event_at now
    → first_by (event_field_fault bytes) bytes ≡ None
    → read ≡ fold (λ event field. event_with event (value_at bytes field ∷ [])) start (fields_of bytes)
    → (option_map (moved base) (event_fault bytes) ≡ None) × (rounded read ≡ event_of now bytes)
unfolding event_fault event_of values_of
event_read now bytes base start read fresh clean is =
    let grown : read ≡ event_with (event_at now) (map (value_at bytes) (fields_of bytes)) =
    is
    ∙ ap (λ (event : Event). fold (λ event field. event_with event (value_at bytes field ∷ [])) event (fields_of bytes))
    fresh
    ∙ event_fold bytes (fields_of bytes) (event_at now) in
    (rw clean refl, ap rounded grown)

pub state_read : (now : ℤ) (bytes : List ℕ) (base : ℕ) (start read : StateDraft) → start ≡ fresh_state now
    → first_by (state_field_fault bytes) bytes ≡ None
    → read ≡ fold (λ draft field. state_with draft (value_at bytes field)) start (fields_of bytes)
    → (option_map (moved base) (state_fault bytes) ≡ None) × (read.event ≡ state_of now bytes)
unfolding state_fault state_of values_of
state_read now bytes base start read fresh clean is =
    let values = of_state (map (value_at bytes) (fields_of bytes)) in
    let grown : read ≡ state_grown (event_at now) values =
    is
    ∙ ap (λ (draft : StateDraft). fold (λ draft field. state_with draft (value_at bytes field)) draft (fields_of bytes))
    fresh
    ∙ state_fold bytes (fields_of bytes) (fresh_state now) in
    let timed : event_with (event_at now) values ≡ event_from now values =
    rw (no_micros (map (value_at bytes) (fields_of bytes))) refl in
    (rw clean refl, ap (λ (draft : StateDraft). draft.event) grown ∙ timed)

attribute_grows : (bytes : List ℕ) (draft : AttrDraft)
    → draft
    ≡ fold (λ draft field. attribute_with draft (value_at bytes field ∷ [])) (record { key = None; value = None })
    (fields_of bytes)
    → draft ≡ record { key = last_in bytes_in 1 (values_of bytes); value = last_in bytes_in 2 (values_of bytes) }
unfolding values_of
attribute_grows bytes draft is = is ∙ attribute_fold bytes (fields_of bytes) (record { key = None; value = None })

pub attribute_read : (bytes : List ℕ) (base : ℕ) (draft : AttrDraft) (key : List ℕ)
    → first_by (attribute_field_fault bytes) bytes ≡ None
    → draft
    ≡ fold (λ draft field. attribute_with draft (value_at bytes field ∷ [])) (record { key = None; value = None })
    (fields_of bytes)
    → draft.key ≡ Some key
    → (option_map (moved base) (attribute_fault bytes) ≡ None)
    × (record { key = key; value = draft.value } ≡ attribute_of bytes)
unfolding attribute_fault attribute_of
attribute_read bytes base draft key clean is some =
    let all = attribute_grows bytes draft is in
    let reported : last_in bytes_in 1 (values_of bytes) ≡ Some key = sym (ap (λ (d : AttrDraft). d.key) all) ∙ some in
    (rw (clean, reported) refl, rw (reported, ap (λ (d : AttrDraft). d.value) all) refl)

pub attribute_keyless : (bytes : List ℕ) (base : ℕ) (draft : AttrDraft)
    → first_by (attribute_field_fault bytes) bytes ≡ None
    → draft
    ≡ fold (λ draft field. attribute_with draft (value_at bytes field ∷ [])) (record { key = None; value = None })
    (fields_of bytes)
    → draft.key ≡ None
    → option_map (moved base) (attribute_fault bytes) ≡ Some (fault_at (base + length bytes) why_key)
unfolding attribute_fault
attribute_keyless bytes base draft clean is none =
    let all = attribute_grows bytes draft is in
    let reported : last_in bytes_in 1 (values_of bytes) ≡ None = sym (ap (λ (d : AttrDraft). d.key) all) ∙ none in
    rw (clean, reported) refl

or_more : (base : ℕ) (o p : Option Fault) (y : Fault) → option_map (moved base) o ≡ Some y
    → option_map (moved base) (option_or o p) ≡ Some y
or_more base None p y e = absurd cc
or_more base (Some x) p y e = e

pub attribute_refused : (bytes : List ℕ) (base : ℕ) (refusal : MsgFault)
    → IsRefusedFor (option_map (moved base) (first_by (attribute_field_fault bytes) bytes)) refusal
    → IsRefusedFor (option_map (moved base) (attribute_fault bytes)) refusal
unfolding attribute_fault
attribute_refused bytes base (Refused place why) is = or_more base _ (key_fault bytes) (fault_at place why) is
attribute_refused bytes base Memory is = tt

-- ---- several queries are one

last_more : {A : Type 0} (o : Option A) (xs ys : List A) → last_or (last_or o xs) ys ≡ last_or o (xs ++ ys)
last_more o [] ys = refl
last_more o (x ∷ xs) ys = last_more (Some x) xs ys

filter_map_step : {B : Type 0} (x : Option B) (xs ys : List B) → cons_option x (xs ++ ys) ≡ cons_option x xs ++ ys
filter_map_step None xs ys = refl
filter_map_step (Some x) xs ys = refl

filter_map_more : {A B : Type 0} (f : A → Option B) (xs ys : List A)
    → filter_map f (xs ++ ys) ≡ filter_map f xs ++ filter_map f ys
filter_map_more f [] ys = refl
filter_map_more f (x ∷ xs) ys =
    ap (cons_option (f x)) (filter_map_more f xs ys) ∙ filter_map_step (f x) (filter_map f xs) (filter_map f ys)

query_more : (query : QueryPart) (xs ys : List FieldValue)
    → query_with (query_with query xs) ys ≡ query_with query (xs ++ ys)
query_more query xs ys =
    ap (λ (string : Option (List ℕ)). query_part string)
    (last_more query.string (all_in bytes_in 1 xs) (all_in bytes_in 1 ys)
    ∙ ap (last_or query.string) (sym (filter_map_more (field_in bytes_in 1) xs ys)))
  where
    query_part : Option (List ℕ) → QueryPart
    query_part string = record { string = string }

abbrev some_query : QueryPart → Option QueryPart
some_query query = Some query

joined_fold : (parts : List (List ℕ)) (query : QueryPart)
    → fold query_joined (Some query) parts ≡ Some (query_with query (flat_map values_of parts))
unfolding values_of
joined_fold [] query = refl
joined_fold (part ∷ parts) query =
    joined_fold parts (fold (λ query field. query_with query (value_at part field ∷ [])) query (fields_of part))
    ∙ ap (λ (q : QueryPart). some_query (query_with q (flat_map values_of parts)))
    (query_fold part (fields_of part) query)
    ∙ ap some_query (query_more query (values_of part) (flat_map values_of parts))

pub queries_read : (parts : List (List ℕ)) → AllByRecursion IsWhole parts
    → fold query_joined None parts ≡ queries_joined parts
unfolding query_of
queries_read [] whole = refl
queries_read (part ∷ parts) whole =
    joined_fold (part ∷ parts) no_query
    ∙ ap (λ (values : List FieldValue). some_query (query_with no_query values))
    (sym (values_of_all (part ∷ parts) whole))

-- ---- where a message has no fault, no query in it has one

or_none : {A : Type 0} (o p : Option A) → option_or o p ≡ None → (o ≡ None) × (p ≡ None)
or_none None p e = (refl, e)
or_none (Some x) p e = absurd cc

map_none : {A B : Type 0} (f : A → B) (o : Option A) → option_map f o ≡ None → o ≡ None
map_none f None e = refl
map_none f (Some x) e = absurd cc

query_whole : (part : List ℕ) → query_fault part ≡ None → IsWhole part
unfolding query_fault
query_whole part none =
    map_none wire_fault (fields_fault part)
    (or_none (first_of (query_field_fault part) (fields_of part)) (option_map wire_fault (fields_fault part)) none).1

-- the part of a query that a field may be
one_part : (bytes : List ℕ) (number place : ℕ) (body : Body) (parts : List (List ℕ))
    → message_field_fault bytes (field_at number body place) ≡ None → AllByRecursion IsWhole parts
    → AllByRecursion IsWhole (cons_option (field_in bytes_in 5 (value_at bytes (field_at number body place))) parts)
one_part bytes number place body parts none whole = elim (cases_eq number 5) [
  | inl is ↦ rw is (is_part place body (rw is at none))
  | inr other ↦ rw (ne_eqb number 5 other) whole
]
  where
    is_part : (place : ℕ) (body : Body) → message_field_fault bytes (field_at 5 body place) ≡ None
        → AllByRecursion IsWhole (cons_option (field_in bytes_in 5 (value_at bytes (field_at 5 body place))) parts)
    is_part place (body_varint value) none = whole
    is_part place (body_eight value) none = whole
    is_part place (body_four value) none = whole
    is_part place (body_bytes start last) none = (
      query_whole (slice_range bytes start last)
          (map_none (moved start) (query_fault (slice_range bytes start last)) none),
      whole,
    )

parts_whole : (bytes : List ℕ) (fields : List FieldAt) → first_of (message_field_fault bytes) fields ≡ None
    → AllByRecursion IsWhole (all_in bytes_in 5 (map (value_at bytes) fields))
parts_whole bytes [] none = tt
parts_whole bytes (field ∷ fields) none =
    let both = or_none (message_field_fault bytes field) (first_of (message_field_fault bytes) fields) none in
    one_part bytes field.number field.place field.body (all_in bytes_in 5 (map (value_at bytes) fields)) both.0
    (parts_whole bytes fields both.1)

-- ---- the whole message

pub message_read : (now : ℕ) (bytes : List ℕ) (start draft : MsgDraft) → start ≡ fresh_message (pos now)
    → first_by (message_field_fault bytes) bytes ≡ None
    → draft ≡ fold (λ draft field. message_with draft (value_at bytes field ∷ [])) start (fields_of bytes)
    → message_in draft ≡ message_of now bytes
unfolding message_of values_of
message_read now bytes start draft fresh clean is =
    let grown : draft ≡ message_with (fresh_message (pos now)) (map (value_at bytes) (fields_of bytes)) =
    is
    ∙ ap (λ (d : MsgDraft). fold (λ draft field. message_with draft (value_at bytes field ∷ [])) d (fields_of bytes))
    fresh
    ∙ message_fold bytes (fields_of bytes) (fresh_message (pos now)) in
    let parts =
    or_none (first_of (message_field_fault bytes) (fields_of bytes)) (option_map wire_fault (fields_fault bytes))
    clean in
    ap message_in grown
    ∙ ap
    (λ (query : Option QueryPart).
    record (message_in (message_with (fresh_message (pos now)) (map (value_at bytes) (fields_of bytes)))) {
      query = query;
    })
    (queries_read (all_in bytes_in 5 (map (value_at bytes) (fields_of bytes)))
    (parts_whole bytes (fields_of bytes) parts.0))

-- ---- each ttl that is read can be spelled

last_keeps : {B : Type 0} (P : B → Type 0) (o : Option B) (xs : List B) → AllByRecursion P xs → IfSome o P
    → IfSome (last_or o xs) P
last_keeps P o [] all first = first
last_keeps P o (x ∷ xs) all first = last_keeps P (Some x) xs all.1 all.0

one_kept : {B : Type 0} (P : B → Type 0) (found : Option B) (xs : List B) → IfSome found P → AllByRecursion P xs
    → AllByRecursion P (cons_option found xs)
one_kept P None xs reported all = all
one_kept P (Some x) xs reported all = (reported, all)

all_keep : {A B : Type 0} (P : B → Type 0) (f : A → Option B) (xs : List A) → ((x : A) → IfSome (f x) P)
    → AllByRecursion P (filter_map f xs)
all_keep P f [] each = tt
all_keep P f (x ∷ xs) each = one_kept P (f x) (filter_map f xs) (each x) (all_keep P f xs each)

ttl_spellable : (value : FieldValue) → IfSome (field_in ttl_in 8 value) IsSpellableTtl
ttl_spellable value = one (eqb value.number 8) value.content
  where
    reported : (bits : ℕ) (found : Option ℕ) → seconds_of bits ≡ found → IfSome found IsSpellableTtl
    reported bits None is = tt
    reported bits (Some seconds) is = (bits, ttl_from_seconds bits seconds is)

    one : (test : Bool) (content : Content) → IfSome (cond test (ttl_in content) None) IsSpellableTtl
    one false content = tt
    one true (Varint value) = tt
    one true (Eight value) = tt
    one true (Bytes bytes) = tt
    one true (Four bits) = reported bits (seconds_of bits) refl

values_spellable : (now : ℤ) (values : List FieldValue) → IsSpellableEvent (event_from now values)
values_spellable now values =
    last_keeps IsSpellableTtl None (all_in ttl_in 8 values)
    (all_keep IsSpellableTtl (field_in ttl_in 8) values ttl_spellable) tt

event_spellable : (now : ℤ) (bytes : List ℕ) → IsSpellableEvent (event_of now bytes)
unfolding event_of
event_spellable now bytes = values_spellable now (values_of bytes)

state_spellable : (now : ℤ) (bytes : List ℕ) → IsSpellableEvent (state_of now bytes)
unfolding state_of
state_spellable now bytes = values_spellable now (of_state (values_of bytes))

-- each event that the fields with a number hold
all_spellable : (event : List ℕ → Event) (number : ℕ) (values : List FieldValue)
    → ((bytes : List ℕ) → IsSpellableEvent (event bytes))
    → All IsSpellableEvent (all_in (λ content. option_map event (bytes_in content)) number values)
all_spellable event number values each =
    All-from_recursion IsSpellableEvent _
    (all_keep IsSpellableEvent (field_in (λ content. option_map event (bytes_in content)) number) values
    (λ value. one (eqb value.number number) value.content))
  where
    one : (test : Bool) (content : Content)
        → IfSome (cond test (option_map event (bytes_in content)) None) IsSpellableEvent
    one false content = tt
    one true (Varint value) = tt
    one true (Eight value) = tt
    one true (Four bits) = tt
    one true (Bytes bytes) = each bytes

pub message_spellable : (now : ℕ) (bytes : List ℕ) → IsSpellable (message_of now bytes)
unfolding message_of
message_spellable now bytes =
    All-append IsSpellableEvent _ _ (all_spellable (state_of (pos now)) 4 (values_of bytes) (state_spellable (pos now)))
    (all_spellable (event_of (pos now)) 6 (values_of bytes) (event_spellable (pos now)))
