-- In the bytes that are written for events, the fields from each place on are those of the other events.
use Rattle.std.proofs.Common.{◌≡◌, ℕ, ◌^◌, ◌<◌, ◌≤◌, List, [], ◌∷◌, length, map, None, refl, sym, ap, subst}
use Rattle.std.proofs.Common.{◌∙◌, arith}
use Rattle.std.specs.List.{AllByRecursion}
use Rattle.ev_types.specs.declared.event.Event.{Event}
use Rattle.pb_wire.specs.declared.reader.Next.{Next}
use Rattle.pb_wire.specs.declared.reader.Next.TheVariants.{End, Field, Refused}
use Rattle.pb_wire.specs.Fields.{Advances, Cursor, FieldAt, fault_from, fields_fault, fields_from, fields_of}
use Rattle.pb_wire.specs.ReadBack.{FieldValue, IsField, values_of}
use Rattle.pb_wire.proofs.ReadBackLaws.{fields_read_back}
use Rattle.riemann_msg.specs.Draft.{field_at, value_at}
use Rattle.riemann_msg.specs.ReadBack.{IsWellFormedEvent}
use Rattle.riemann_msg.specs.Spelling.{event_content, event_values, field, message_values, repeated, spelled, spelling}
use Rattle.riemann_msg.proofs.FoundAgain.{BytesWithin, all_if, all_repeated, bodies_within, from_repeated}
use Rattle.packed_msg.specs.Parts.{HoldsNext, IsWritten}
use Rattle.packed_msg.specs.Sent.{sent_of}

-- the fields from the place on are those that are written for the events
pub record Left (bytes : List ℕ) (place : ℕ) (events : List Event) : Type 0 where
  pub good : AllByRecursion IsWellFormedEvent events
  pub values : map (value_at bytes) (fields_from bytes place) ≡ repeated 6 event_content events
  pub fault : fault_from bytes place ≡ None

-- ---- all of them

sent_spelling : (events : List Event) → spelling (sent_of events) ≡ spelled (repeated 6 event_content events)
unfolding spelling message_values
sent_spelling events = refl

are_fields : (events : List Event) → length (spelled (repeated 6 event_content events)) < 2 ^ 32
    → AllByRecursion IsField (repeated 6 event_content events)
are_fields events few =
    let values = repeated 6 event_content events in
    let n = length (spelled values) in
    let within =
    from_repeated (λ value. BytesWithin n value.content) 6 event_content events
    (bodies_within n values (omega arith)) in
    all_repeated IsField 6 event_content events
    (all_if (λ event. length (spelled (event_values event)) ≤ n) (λ event. IsField (field 6 (event_content event)))
    events within (λ event short. record { positive = omega arith; small = omega arith; fits = omega arith }))

left_of : (bytes : List ℕ) (events : List Event) → AllByRecursion IsWellFormedEvent events
    → bytes ≡ spelled (repeated 6 event_content events) → length bytes < 2 ^ 32 → Left bytes 0 events
unfolding fields_of fields_fault values_of
left_of bytes events good is few =
    let back =
    fields_read_back (repeated 6 event_content events)
    (are_fields events (subst (λ (t : List ℕ). length t < 2 ^ 32) is few)) in
    record { good = good; values = ap values_of is ∙ back.0; fault = ap fields_fault is ∙ back.1 }

pub left_all : (bytes : List ℕ) (events : List Event) → AllByRecursion IsWellFormedEvent events
    → bytes ≡ spelling (sent_of events) → length bytes < 2 ^ 32 → Left bytes 0 events
left_all bytes events good is few = left_of bytes events good (is ∙ sent_spelling events) few

-- ---- after one more field

some_values : (bytes : List ℕ) (fields : List FieldAt) (value : FieldValue) (values : List FieldValue)
    → fields ≡ [] → map (value_at bytes) fields ≡ value ∷ values → ⊥
some_values bytes fields value values none is = cc (ap (map (value_at bytes)) none)

abbrev number_of : FieldValue → ℕ
number_of value = value.number

pub left_next : (bytes : List ℕ) (old new : Cursor) (next : Next) (event : Event) (events : List Event)
    → old.bytes ≡ bytes → Left bytes old.place (event ∷ events) → Advances old next new
    → IsWritten bytes next event × Left bytes new.place events
left_next bytes old new End event events is left steps =
    absurd (some_values bytes (fields_from bytes old.place) _ _ (rw is at steps.0.fields) left.values)
left_next bytes old new (Refused place why) event events is left steps =
    absurd (some_values bytes (fields_from bytes old.place) _ _ (rw is at steps.0.fields) left.values)
left_next bytes old new (Field number body place) event events is left steps =
    let values : value_at bytes (field_at number body place) ∷ map (value_at bytes) (fields_from bytes new.place)
    ≡ field 6 (event_content event) ∷ repeated 6 event_content events =
    sym (ap (map (value_at bytes)) (rw is at steps.fields)) ∙ left.values in
    let first : value_at bytes (field_at number body place) ≡ field 6 (event_content event) = cc in (
      (ap number_of first, ap (λ (value : FieldValue). value.content) first),
      record { good = left.good.1; values = cc; fault = sym (rw is at steps.fault) ∙ left.fault },
    )

pub left_end : (bytes : List ℕ) (old new : Cursor) (next : Next) → old.bytes ≡ bytes → Left bytes old.place []
    → Advances old next new → next ≡ End
left_end bytes old new End is left steps = refl
left_end bytes old new (Refused place why) is left steps = absurd (cc (left.fault, rw is at steps.0.fault_is))
left_end bytes old new (Field number body place) is left steps =
    absurd (cc (left.values, ap (map (value_at bytes)) (rw is at steps.fields)))

-- ---- in a loop

-- the fields from the place on are those of some events
abbrev pub SomeLeft : List ℕ → ℕ → Type 0
SomeLeft bytes place = (events : List Event) × Left bytes place events

pub some_next : (bytes : List ℕ) (old new : Cursor) (next : Next) (event : Event) → old.bytes ≡ bytes
    → SomeLeft bytes old.place → Advances old next new → HoldsNext bytes next event → SomeLeft bytes new.place
some_next bytes old new next event is left steps holds = step left.0 left.1
  where
    no_event : next ≡ End → HoldsNext bytes next event → ⊥
    no_event none holds = rw none at holds

    step : (events : List Event) → Left bytes old.place events → SomeLeft bytes new.place
    step [] left = absurd (no_event (left_end bytes old new next is left steps) holds)
    step (first ∷ events) left = (events, (left_next bytes old new next first events is left steps).1)

-- where more is left, the next field holds the bytes of a well-formed event
pub some_written : {A : Type 0} (bytes : List ℕ) (old new : Cursor) (next : Next) → old.bytes ≡ bytes
    → SomeLeft bytes old.place → Advances old next new → (next ≡ End → ⊥)
    → ((event : Event) → IsWellFormedEvent event → IsWritten bytes next event → A) → A
some_written {A = A} bytes old new next is left steps more found = step left.0 left.1
  where
    step : (events : List Event) → Left bytes old.place events → A
    step [] left = absurd (more (left_end bytes old new next is left steps))
    step (event ∷ events) left =
        found event left.good.0 (left_next bytes old new next event events is left steps).0
