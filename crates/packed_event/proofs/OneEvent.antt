-- An event that is written is read again, since the message of it alone is.
use Rattle.std.proofs.Common.{◌≡◌, ℕ, ◌+◌, ◌*◌, ◌^◌, ◌<◌, List, [], ◌∷◌, ◌++◌, length, map, Option, Some, None, pos}
use Rattle.std.proofs.Common.{refl, sym, ap, subst, ◌∙◌, length-append, arith}
use Rattle.std.proofs.lemmas.List.{append-nil}
use Rattle.std.specs.Option.{option_map, option_or}
use Rattle.std.specs.Prelude.{slice_range}
use Rattle.ev_types.specs.declared.event.Event.{Event}
use Rattle.pb_wire.specs.declared.reader.Body.{Body}
use Rattle.pb_wire.specs.declared.reader.Body.TheVariants.{Varint as body_varint, Eight as body_eight}
use Rattle.pb_wire.specs.declared.reader.Body.TheVariants.{Bytes as body_bytes, Four as body_four}
use Rattle.pb_wire.specs.Fields.{FieldAt, fields_of}
use Rattle.pb_wire.specs.ReadBack.{FieldValue, IsField, values_of}
use Rattle.pb_wire.specs.Spelling.{Bytes, content_in, field_spelling}
use Rattle.pb_wire.specs.Varint.{varint}
use Rattle.pb_wire.proofs.ReadBackLaws.{fields_read_back}
use Rattle.pb_wire.proofs.SpellingLaws.{varint_is}
use Rattle.riemann_msg.specs.declared.msg.Msg.{Msg}
use Rattle.riemann_msg.specs.Draft.{field_at, value_at}
use Rattle.riemann_msg.specs.Fault.{event_fault, first_fault, first_of, message_field_fault, moved}
use Rattle.riemann_msg.specs.ReadBack.{IsWellFormedEvent}
use Rattle.riemann_msg.specs.Spelling.{event_content, event_values, field, message_values, spelled, spelling}
use Rattle.riemann_msg.specs.Value.{event_of, message_from, message_of}
use Rattle.riemann_msg.proofs.ReadAgain.{message_back}

abbrev alone : Event → Msg
alone event = record { ok = None; error = None; query = None; events = event ∷ [] }

abbrev bytes_of : Event → List ℕ
bytes_of event = spelled (event_values event)

spelling_of : (event : Event) → spelling (alone event) ≡ spelled (field 6 (event_content event) ∷ [])
unfolding spelling message_values
spelling_of event = refl

size_of : (event : Event) → length (bytes_of event) < 2 ^ 32 → length (spelled (field 6 (event_content event) ∷ []))
    < 2 ^ 64
unfolding field_spelling
size_of event short =
    let tag = varint_is (6 * 8 + 2) (omega arith) in
    let head = varint_is (length (bytes_of event)) (omega arith) in
    omega (
      arith,
      tag.few,
      head.few,
      ap (length {A = ℕ}) (append-nil (field_spelling 6 (event_content event))),
      length-append (varint (6 * 8 + 2)) (varint (length (bytes_of event)) ++ bytes_of event),
      length-append (varint (length (bytes_of event))) (bytes_of event),
    )

-- ---- the one field of the message

record OneField (text : List ℕ) (fields : List FieldAt) (value : FieldValue) : Type 0 where
  one : FieldAt
  all : fields ≡ one ∷ []
  is : value_at text one ≡ value

one_field : (text : List ℕ) (fields : List FieldAt) (value : FieldValue) → map (value_at text) fields ≡ value ∷ []
    → OneField text fields value
one_field text [] value e = absurd cc
one_field text (one ∷ []) value e = record { one = one; all = refl; is = cc }
one_field text (one ∷ two ∷ fields) value e = absurd cc

or_none : {A : Type 0} (a b : Option A) → option_or a b ≡ None → a ≡ None
or_none None b e = refl
or_none (Some x) b e = absurd cc

map_none : {A B : Type 0} (f : A → B) (o : Option A) → option_map f o ≡ None → o ≡ None
map_none f None e = refl
map_none f (Some x) e = absurd cc

same_bytes : (a b : List ℕ) → Bytes a ≡ Bytes b → a ≡ b
same_bytes a b e = cc

clean_body : (text : List ℕ) (place : ℕ) (body : Body) (bytes : List ℕ) → content_in text body ≡ Bytes bytes
    → message_field_fault text (field_at 6 body place) ≡ None → event_fault bytes ≡ None
clean_body text place (body_bytes start last) bytes is clean =
    subst (λ (t : List ℕ). event_fault t ≡ None) (same_bytes (slice_range text start last) bytes is)
    (map_none (moved start) (event_fault (slice_range text start last)) clean)
clean_body text place (body_varint value) bytes is clean = absurd cc
clean_body text place (body_eight value) bytes is clean = absurd cc
clean_body text place (body_four value) bytes is clean = absurd cc

clean_field : (text : List ℕ) (one : FieldAt) (bytes : List ℕ) → value_at text one ≡ field 6 (Bytes bytes)
    → message_field_fault text one ≡ None → event_fault bytes ≡ None
clean_field text one bytes is clean =
    let number : one.number ≡ 6 = ap (λ (v : FieldValue). v.number) is in
    let content : content_in text one.body ≡ Bytes bytes = ap (λ (v : FieldValue). v.content) is in
    clean_body text one.place one.body bytes content
    (subst (λ (n : ℕ). message_field_fault text (field_at n one.body one.place) ≡ None) number clean)

first_clean : (text : List ℕ) (fields : List FieldAt) (bytes : List ℕ)
    (found : OneField text fields (field 6 (Bytes bytes)))
    → first_of (message_field_fault text) fields ≡ None → event_fault bytes ≡ None
first_clean text fields bytes found clean =
    let first : first_of (message_field_fault text) (found.one ∷ []) ≡ None =
    sym (ap (first_of (message_field_fault text)) found.all) ∙ clean in
    clean_field text found.one bytes found.is (or_none (message_field_fault text found.one) None first)

whole_clean : (text bytes : List ℕ) → values_of text ≡ field 6 (Bytes bytes) ∷ [] → first_fault text ≡ None
    → event_fault bytes ≡ None
unfolding first_fault values_of
whole_clean text bytes values clean =
    first_clean text (fields_of text) bytes (one_field text (fields_of text) (field 6 (Bytes bytes)) values)
    (or_none (first_of (message_field_fault text) (fields_of text)) _ clean)

first_event : (a b : Event) → a ∷ [] ≡ b ∷ [] → a ≡ b
first_event a b e = cc

same_event : (now : ℕ) (text bytes : List ℕ) (event : Event) → values_of text ≡ field 6 (Bytes bytes) ∷ []
    → message_of now text ≡ alone event → event_of (pos now) bytes ≡ event
unfolding message_of
same_event now text bytes event values is =
    let msg : message_from (pos now) (field 6 (Bytes bytes) ∷ []) ≡ alone event =
    sym (ap (message_from (pos now)) values) ∙ is in
    first_event (event_of (pos now) bytes) event (ap (λ (m : Msg). m.events) msg)

pub event_read_back : (now : ℕ) (event : Event) → IsWellFormedEvent event → length (bytes_of event) < 2 ^ 32
    → (event_fault (bytes_of event) ≡ None) × (event_of (pos now) (bytes_of event) ≡ event)
event_read_back now event good short =
    let value : FieldValue = field 6 (event_content event) in
    let text : List ℕ = spelled (value ∷ []) in
    let size : length text < 2 ^ 64 = size_of event short in
    let same = spelling_of event in
    let back =
    message_back now (alone event) (record { error = tt; query = tt; events = (good, tt) })
    (subst (λ (t : List ℕ). length t < 2 ^ 64) (sym same) size) in
    let clean : first_fault text ≡ None = sym (ap first_fault same) ∙ back.0 in
    let is : message_of now text ≡ alone event = sym (ap (message_of now) same) ∙ back.1 in
    let one : IsField value = record { positive = omega arith; small = omega arith; fits = omega arith } in
    let values : values_of text ≡ value ∷ [] = (fields_read_back (value ∷ []) (one, tt)).0 in
    (whole_clean text (bytes_of event) values clean, same_event now text (bytes_of event) event values is)
