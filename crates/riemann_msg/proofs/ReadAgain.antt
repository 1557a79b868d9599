-- A message that is written is read again.
use Rattle.std.proofs.Common.{◌≡◌, ℕ, ◌^◌, ◌<◌, ◌≤◌, Bool, true, false, cond, eqb, List, [], ◌++◌, length, Option, Some}
use Rattle.std.proofs.Common.{None, ℤ, pos, refl, ap, ◌∙◌, arith}
use Rattle.std.specs.Prelude.{IfSome, slice_range}
use Rattle.std.specs.Int.{from_bool}
use Rattle.std.specs.List.{AllByRecursion, filter_map}
use Rattle.std.specs.Option.{option_map, option_to_list, option_and_then}
use Rattle.std.specs.Str.{IsUtf8, is_utf8}
use Rattle.std.proofs.lemmas.Str.{is_utf8-from_IsUtf8}
use Rattle.std.proofs.lemmas.List.{append-nil}
use Rattle.ev_types.specs.declared.event.Event.{Event}
use Rattle.pb_wire.specs.declared.reader.Body.{Body}
use Rattle.pb_wire.specs.declared.reader.Body.TheVariants.{Varint as body_varint, Eight as body_eight}
use Rattle.pb_wire.specs.declared.reader.Body.TheVariants.{Bytes as body_bytes, Four as body_four}
use Rattle.pb_wire.specs.Spelling.{Content, Varint, Eight, Bytes, Four, content_in}
use Rattle.pb_wire.specs.ReadBack.{FieldValue}
use Rattle.riemann_msg.specs.declared.msg.Msg.{Msg}
use Rattle.riemann_msg.specs.declared.msg.QueryPart.{QueryPart}
use Rattle.riemann_msg.specs.Value.{bytes_in, bool_in, event_in, state_in, all_in, last_in, query_of, queries_joined}
use Rattle.riemann_msg.specs.Value.{message_from, message_of}
use Rattle.riemann_msg.specs.Fault.{Fault, query_field_fault, message_field_fault, event_fault, state_fault}
use Rattle.riemann_msg.specs.Fault.{query_fault, first_fault}
use Rattle.riemann_msg.specs.Spelling.{field, optional, repeated, spelled, event_values, event_content, query_values}
use Rattle.riemann_msg.specs.Spelling.{query_content, message_values, spelling}
use Rattle.riemann_msg.specs.ReadBack.{IsWellFormedEvent, IsWellFormedMessage, MessagesAreReadBack}
use Rattle.riemann_msg.specs.Draft.{field_at}
use Rattle.riemann_msg.proofs.FoundAgain.{found_in_both, found_in_option, found_in_map, none_in_option, none_in_list}
use Rattle.riemann_msg.proofs.FoundAgain.{some_in_option, some_in_list, last_of_option, some_if, all_if, BytesWithin}
use Rattle.riemann_msg.proofs.FoundAgain.{IsNumbered, all_optional, all_repeated, from_repeated, from_back, from_front}
use Rattle.riemann_msg.proofs.FoundAgain.{both_all, bodies_within, read_again, cond_none, utf8_none, no}
use Rattle.riemann_msg.proofs.EventAgain.{same_option, EventBack, numbered, all_numbers, text_numbered, event_back}

abbrev some_query : QueryPart → Option QueryPart
some_query query = Some query

abbrev some_event : Event → Option Event
some_event event = Some event

abbrev TextIsUtf8 : ℕ → Content → Type 0
TextIsUtf8 number (Bytes bytes) = eqb number 1 ≡ true → is_utf8 bytes ≡ true
TextIsUtf8 number (Varint value) = Unit {0}
TextIsUtf8 number (Eight value) = Unit {0}
TextIsUtf8 number (Four value) = Unit {0}

abbrev QueryClean : FieldValue → Type 0
QueryClean value = TextIsUtf8 value.number value.content

query_field_clean : (bytes : List ℕ) (number place : ℕ) (body : Body) → TextIsUtf8 number (content_in bytes body)
    → query_field_fault bytes (field_at number body place) ≡ None
query_field_clean bytes number place (body_bytes start last) clean =
    cond_none (eqb number 1) _ None (λ test. utf8_none (slice_range bytes start last) _ (clean test)) (λ _. refl)
query_field_clean bytes number place (body_varint value) clean =
    cond_none (eqb number 1) None None (λ _. refl) (λ _. refl)
query_field_clean bytes number place (body_eight value) clean =
    cond_none (eqb number 1) None None (λ _. refl) (λ _. refl)
query_field_clean bytes number place (body_four value) clean =
    cond_none (eqb number 1) None None (λ _. refl) (λ _. refl)

record QueryBack (query : QueryPart) : Type 0 where
  same : query_of (spelled (query_values query)) ≡ query
  clean : query_fault (spelled (query_values query)) ≡ None

query_string : (string : Option (List ℕ)) → last_in bytes_in 1 (optional 1 Bytes string) ≡ string
query_string None = refl
query_string (Some string) = refl

abbrev query_part : Option (List ℕ) → QueryPart
query_part string = record { string = string }

query_back : (query : QueryPart) → IfSome query.string IsUtf8 → length (spelled (query_values query)) < 2 ^ 64
    → QueryBack query
unfolding query_values query_of query_fault
query_back query utf8 short =
    let values = optional 1 Bytes query.string in
    let clean =
    all_optional QueryClean 1 Bytes query.string
    (some_if IsUtf8 (λ bytes. QueryClean (field 1 (Bytes bytes))) query.string utf8
    (λ bytes known _. is_utf8-from_IsUtf8 bytes known)) in
    let back =
    read_again query_field_fault QueryClean values
    (λ bytes field. query_field_clean bytes field.number field.place field.body)
    (text_numbered 1 query.string (omega arith) (omega arith) utf8) clean short in
    record {
      same =
          ap (λ (vs : List FieldValue). query_part (last_in bytes_in 1 vs)) back.0
          ∙ ap query_part (query_string query.string);
      clean = back.1;
    }

record PartClean (number : ℕ) (bytes : List ℕ) : Type 0 where
  text : eqb number 3 ≡ true → is_utf8 bytes ≡ true
  query : eqb number 5 ≡ true → query_fault bytes ≡ None
  event : eqb number 6 ≡ true → event_fault bytes ≡ None
  state : eqb number 4 ≡ true → state_fault bytes ≡ None

abbrev BodyClean : ℕ → Content → Type 0
BodyClean number (Bytes bytes) = PartClean number bytes
BodyClean number (Varint value) = Unit {0}
BodyClean number (Eight value) = Unit {0}
BodyClean number (Four value) = Unit {0}

abbrev MessageClean : FieldValue → Type 0
MessageClean value = BodyClean value.number value.content

nothing : (number : ℕ)
    → cond (eqb number 3) None
    (cond (eqb number 5) None (cond (eqb number 6) None (cond {A = Option Fault} (eqb number 4) None None)))
    ≡ None
nothing number =
    cond_none (eqb number 3) None _ (λ _. refl)
    (λ _. cond_none (eqb number 5) None _ (λ _. refl)
    (λ _.
    cond_none (eqb number 6) None _ (λ _. refl) (λ _. cond_none (eqb number 4) None None (λ _. refl) (λ _. refl))))

message_field_clean : (bytes : List ℕ) (number place : ℕ) (body : Body) → BodyClean number (content_in bytes body)
    → message_field_fault bytes (field_at number body place) ≡ None
message_field_clean bytes number place (body_bytes start last) clean =
    cond_none (eqb number 3) _ _ (λ test. utf8_none (slice_range bytes start last) _ (clean.text test))
    (λ _. cond_none (eqb number 5) _ _ (λ test. rw (clean.query test) refl)
    (λ _. cond_none (eqb number 6) _ _ (λ test. rw (clean.event test) refl)
    (λ _. cond_none (eqb number 4) _ None (λ test. rw (clean.state test) refl) (λ _. refl))))
message_field_clean bytes number place (body_varint value) clean = nothing number
message_field_clean bytes number place (body_eight value) clean = nothing number
message_field_clean bytes number place (body_four value) clean = nothing number

all_message : (P : FieldValue → Type 0) (msg : Msg) → AllByRecursion P (optional 2 (λ ok. Varint (from_bool ok)) msg.ok)
    → AllByRecursion P (optional 3 Bytes msg.error) → AllByRecursion P (optional 5 query_content msg.query)
    → AllByRecursion P (repeated 6 event_content msg.events) → AllByRecursion P (message_values msg)
unfolding message_values
all_message P msg ok error query events =
    all_numbers P (optional 2 (λ ok. Varint (from_bool ok)) msg.ok) (optional 3 Bytes msg.error)
    (optional 5 query_content msg.query) (repeated 6 event_content msg.events) ok error query events

any : {A : Type 0} (Q : A → Type 0) (o : Option A) → ((x : A) → Q x) → IfSome o Q
any Q None each = tt
any Q (Some x) each = each x

bool_fits : (ok : Bool) → from_bool ok < 2 ^ 64
bool_fits true = omega arith
bool_fits false = omega arith

bool_again : (ok : Bool) → bool_in (Varint (from_bool ok)) ≡ Some ok
bool_again true = refl
bool_again false = refl

message_numbered : (msg : Msg) → IsWellFormedMessage msg → AllByRecursion IsNumbered (message_values msg)
message_numbered msg reported =
    all_message IsNumbered msg
    (all_optional IsNumbered 2 (λ ok. Varint (from_bool ok)) msg.ok
    (any (λ ok. IsNumbered (field 2 (Varint (from_bool ok)))) msg.ok
    (λ ok. numbered 2 (Varint (from_bool ok)) (omega arith) (omega arith) (bool_fits ok))))
    (text_numbered 3 msg.error (omega arith) (omega arith) reported.error)
    (all_optional IsNumbered 5 query_content msg.query
    (any (λ query. IsNumbered (field 5 (query_content query))) msg.query
    (λ query. numbered 5 (query_content query) (omega arith) (omega arith) tt)))
    (all_repeated IsNumbered 6 event_content msg.events
    (all_if IsWellFormedEvent (λ event. IsNumbered (field 6 (event_content event))) msg.events reported.events
    (λ event _. numbered 6 (event_content event) (omega arith) (omega arith) tt)))

message_clean : (msg : Msg) → IsWellFormedMessage msg → IfSome msg.query QueryBack → AllByRecursion EventBack msg.events
    → AllByRecursion MessageClean (message_values msg)
message_clean msg reported query events =
    all_message MessageClean msg
    (all_optional MessageClean 2 (λ ok. Varint (from_bool ok)) msg.ok
    (any (λ ok. MessageClean (field 2 (Varint (from_bool ok)))) msg.ok (λ ok. tt)))
    (all_optional MessageClean 3 Bytes msg.error
    (some_if IsUtf8 (λ bytes. MessageClean (field 3 (Bytes bytes))) msg.error reported.error
    (λ bytes known. record {
      text = λ _. is_utf8-from_IsUtf8 bytes known;
      query = λ is. no is;
      event = λ is. no is;
      state = λ is. no is;
    })))
    (all_optional MessageClean 5 query_content msg.query
    (some_if QueryBack (λ query. MessageClean (field 5 (query_content query))) msg.query query
    (λ q back. record { text = λ is. no is; query = λ _. back.clean; event = λ is. no is; state = λ is. no is })))
    (all_repeated MessageClean 6 event_content msg.events
    (all_if EventBack (λ event. MessageClean (field 6 (event_content event))) msg.events events
    (λ event back. record { text = λ is. no is; query = λ is. no is; event = λ _. back.clean; state = λ is. no is })))

query_within : (n : ℕ) (query : Option QueryPart)
    → AllByRecursion (λ value. BytesWithin n value.content) (optional 5 query_content query)
    → IfSome query (λ query. length (spelled (query_values query)) ≤ n)
query_within n None all = tt
query_within n (Some query) all = all.0

some_both : {A : Type 0} (P Q R : A → Type 0) (o : Option A) → ((x : A) → P x → Q x → R x) → IfSome o P → IfSome o Q
    → IfSome o R
some_both P Q R None each p q = tt
some_both P Q R (Some x) each p q = each x p q

message_within : (n : ℕ) (msg : Msg) → length (spelled (message_values msg)) ≤ n
    → IfSome msg.query (λ query. length (spelled (query_values query)) ≤ n)
    × AllByRecursion (λ event. length (spelled (event_values event)) ≤ n) msg.events
unfolding message_values
message_within n msg short =
    let P : FieldValue → Type 0 = λ value. BytesWithin n value.content in
    let ok = optional 2 (λ ok. Varint (from_bool ok)) msg.ok in
    let error = optional 3 Bytes msg.error in
    let query = optional 5 query_content msg.query in
    let events = repeated 6 event_content msg.events in
    let following_ok : AllByRecursion P (error ++ (query ++ events)) =
    from_back P ok (error ++ (query ++ events)) (bodies_within n (message_values msg) short) in
    let following_error : AllByRecursion P (query ++ events) = from_back P error (query ++ events) following_ok in (
      query_within n msg.query (from_front P query events following_error),
      from_repeated P 6 event_content msg.events (from_back P query events following_error),
    )

message_ok : (msg : Msg) → last_in bool_in 2 (message_values msg) ≡ msg.ok
unfolding message_values
message_ok msg =
    simp (
      found_in_both,
      found_in_option,
      found_in_map,
      none_in_option,
      none_in_list,
      append-nil,
      last_of_option,
      some_in_option (λ ok. bool_in (Varint (from_bool ok))) msg.ok
          (any (λ ok. bool_in (Varint (from_bool ok)) ≡ Some ok) msg.ok bool_again),
    )

message_error : (msg : Msg) → last_in bytes_in 3 (message_values msg) ≡ msg.error
unfolding message_values
message_error msg =
    simp (
      found_in_both,
      found_in_option,
      found_in_map,
      none_in_option,
      none_in_list,
      same_option,
      append-nil,
      last_of_option,
    )

message_events : (now : ℤ) (msg : Msg)
    → filter_map (λ event. event_in now (event_content event)) msg.events ≡ msg.events
    → all_in (event_in now) 6 (message_values msg) ≡ msg.events
unfolding message_values
message_events now msg back = simp (found_in_both, found_in_option, found_in_map, none_in_option, back)

message_states : (now : ℤ) (msg : Msg) → all_in (state_in now) 4 (message_values msg) ≡ []
unfolding message_values
message_states now msg = simp (found_in_both, found_in_option, found_in_map, none_in_option, none_in_list, append-nil)

message_parts : (msg : Msg)
    → all_in bytes_in 5 (message_values msg)
    ≡ option_to_list (option_map (λ query. spelled (query_values query)) msg.query)
unfolding message_values
message_parts msg =
    simp (found_in_both, found_in_option, found_in_map, none_in_option, none_in_list, append-nil, mapped_option)
  where
    mapped_option : (o : Option QueryPart)
        → option_and_then (λ query. Some (spelled (query_values query))) o
        ≡ option_map (λ query. spelled (query_values query)) o
    mapped_option None = refl
    mapped_option (Some query) = refl

query_again : (query : Option QueryPart) → IfSome query QueryBack
    → queries_joined (option_to_list (option_map (λ query. spelled (query_values query)) query)) ≡ query
query_again None back = refl
query_again (Some query) back =
    ap (λ (bytes : List ℕ). some_query (query_of bytes)) (append-nil (spelled (query_values query)))
    ∙ ap some_query back.same

message_again : (now : ℤ) (msg : Msg) → IfSome msg.query QueryBack → AllByRecursion EventBack msg.events
    → message_from now (message_values msg) ≡ msg
message_again now msg query events =
    let all =
    some_in_list (λ event. event_in now (event_content event)) msg.events
    (all_if EventBack (λ event. event_in now (event_content event) ≡ Some event) msg.events events
    (λ event back. ap some_event (back.same now))) in
    rw (
      message_ok msg,
      message_error msg,
      message_states now msg,
      message_events now msg all,
      message_parts msg,
      query_again msg.query query,
    )
    refl

pub message_back : MessagesAreReadBack
unfolding message_of first_fault spelling
message_back now msg reported short =
    let within = message_within (length (spelled (message_values msg))) msg (omega arith) in
    let query =
    some_both (λ query. IfSome query.string IsUtf8)
    (λ query. length (spelled (query_values query)) ≤ length (spelled (message_values msg))) QueryBack msg.query
    (λ query utf8 short'. query_back query utf8 (omega arith)) reported.query within.0 in
    let events =
    both_all IsWellFormedEvent (λ event. length (spelled (event_values event)) ≤ length (spelled (message_values msg)))
    EventBack msg.events (λ event known short'. event_back event known (omega arith)) reported.events within.1 in
    let back =
    read_again message_field_fault MessageClean (message_values msg)
    (λ bytes field. message_field_clean bytes field.number field.place field.body) (message_numbered msg reported)
    (message_clean msg reported query events) short in
    (back.1, ap (message_from (pos now)) back.0 ∙ message_again (pos now) msg query events)
