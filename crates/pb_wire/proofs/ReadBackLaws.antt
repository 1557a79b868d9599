-- What is written is read again.
use Rattle.std.proofs.Common.{◌≡◌, ℕ, ◌+◌, ◌-◌, List, [], ◌∷◌, ◌++◌, length, map, refl, sym, ap, subst, ◌∙◌, arith}
use Rattle.std.proofs.Common.{append_assoc, length-append}
use Rattle.std.proofs.lemmas.List.{append-nil, drop_at}
use Rattle.std.specs.List.{AllByRecursion, flat_map, slice_range}
use Rattle.pb_wire.specs.declared.reader.Body.{Body}
use Rattle.pb_wire.specs.declared.reader.WireWhy.TheVariants.{Short}
use Rattle.pb_wire.specs.Fields.{FieldAt, next_at, fields_from, fields_end, fields_of, fields_fault, fault_in}
use Rattle.pb_wire.specs.Fields.{fault_from}
use Rattle.pb_wire.specs.Spelling.{Content, Varint, Eight, Bytes, Four, content_in, IsSpelling}
use Rattle.pb_wire.specs.ReadBack.{FieldValue, values_of, IsField, value_spelling, body_before, FieldIsReadBack}
use Rattle.pb_wire.specs.ReadBack.{FieldsAreReadBack}
use Rattle.pb_wire.proofs.Places.{At, at_slice, at_next}
use Rattle.pb_wire.proofs.FieldLaws.{field_again}
use Rattle.pb_wire.proofs.RowLaws.{nothing_past, next_at_field, next_place_field, from_field, from_none, end_of_all}
use Rattle.pb_wire.proofs.SpellingLaws.{spelling_is}

-- what is in a field's body is what it holds
content_back : (bytes : List ℕ) (place : ℕ) (text : List ℕ) (number : ℕ) (content : Content) → At bytes place text
    → IsSpelling text number content
    → content_in bytes (body_before (place + length text) content) ≡ content
content_back bytes place text number (Varint value) at is = refl
content_back bytes place text number (Eight value) at is = refl
content_back bytes place text number (Four value) at is = refl
content_back bytes place text number (Bytes body) at is =
    let size : List ℕ = is.body_is.0 in
    let whole : text ≡ is.tag ++ (size ++ body) = is.whole ∙ ap (λ (t : List ℕ). is.tag ++ t) is.body_is.2 in
    let parts : At bytes place (is.tag ++ (size ++ body)) = subst (λ (t : List ℕ). At bytes place t) whole at in
    let inner = at_next bytes (place + length is.tag) size body (at_next bytes place is.tag (size ++ body) parts) in
    let start : ℕ = place + length is.tag + length size in
    let last : place + length text ≡ start + length body =
    omega (arith, ap (length {A = ℕ}) whole, length-append is.tag (size ++ body), length-append size body) in
    let first : place + length text - length body ≡ start = omega arith in
    ap (λ (b : List ℕ). Bytes b)
    (ap (λ (n : ℕ). slice_range bytes n (place + length text)) first ∙ ap (slice_range bytes start) last
    ∙ at_slice bytes start body inner)

pub at_following : (before text after : List ℕ) → At (before ++ (text ++ after)) (length before) text
at_following before text after = record {
  within = omega (arith, length-append before (text ++ after));
  rest = after;
  is = drop_at before (text ++ after) (length before) refl;
}

pub field_reads_back : FieldIsReadBack
field_reads_back before after value is =
    let text : List ℕ = value_spelling value in
    let at = at_following before text after in
    let spelled = spelling_is value is in
    let read = field_again (before ++ (text ++ after)) (length before) text value.number value.content at spelled in (
      next_at_field _ _ _ read,
      next_place_field _ _ _ read,
      content_back (before ++ (text ++ after)) (length before) text value.number value.content at spelled,
    )

abbrev field_value : ℕ → Content → FieldValue
field_value number content = record { number = number; content = content }

abbrev field_at : ℕ → Body → ℕ → FieldAt
field_at number body place = record { number = number; body = body; place = place }

abbrev value_in : List ℕ → FieldAt → FieldValue
value_in bytes field = record { number = field.number; content = content_in bytes field.body }

rows : (values : List FieldValue) (bytes before : List ℕ) → bytes ≡ before ++ flat_map value_spelling values
    → AllByRecursion IsField values
    → (map (value_in bytes) (fields_from bytes (length before)) ≡ values)
    × (fields_end bytes (length before) ≡ length bytes)
rows [] bytes before is fields =
    let size : length bytes ≡ length before = ap (length {A = ℕ}) (is ∙ append-nil before) in
    let stop = from_none bytes (length before) Short (nothing_past bytes (length before) (omega arith)) in
    (ap (map (value_in bytes)) stop.0, stop.1 ∙ sym size)
rows (value ∷ values) bytes before is fields =
    let text : List ℕ = value_spelling value in
    let rest : List ℕ = flat_map value_spelling values in
    let at : At bytes (length before) text =
    subst (λ (all : List ℕ). At all (length before) text) (sym is) (at_following before text rest) in
    let spelled = spelling_is value fields.0 in
    let read = field_again bytes (length before) text value.number value.content at spelled in
    let step =
    from_field bytes (length before)
    (value.number, body_before (length before + length text) value.content, length before + length text) read in
    let content = content_back bytes (length before) text value.number value.content at spelled in
    let more = rows values bytes (before ++ text) (is ∙ sym (append_assoc before text rest)) fields.1 in
    let following : length (before ++ text) ≡ length before + length text = length-append before text in
    let same : value_in bytes
    (record {
      number = value.number;
      body = body_before (length before + length text) value.content;
      place = length before;
    })
    ≡ value =
    ap (λ (c : Content). field_value value.number c) content in (
      ap (map (value_in bytes))
          (step.0
          ∙ ap
          (λ (n : ℕ). field_at value.number (body_before (length before + length text) value.content) (length before)
          ∷ fields_from bytes n)
          (sym following))
          ∙ ap (λ (v : FieldValue). v ∷ map (value_in bytes) (fields_from bytes (length (before ++ text)))) same
          ∙ ap (λ (vs : List FieldValue). value ∷ vs) more.0,
      step.1 ∙ ap (fields_end bytes) (sym following) ∙ more.1,
    )

pub fields_read_back : FieldsAreReadBack
unfolding values_of fields_of fields_fault fault_from
fields_read_back values fields =
    let bytes : List ℕ = flat_map value_spelling values in
    let all = rows values bytes [] refl fields in
    (all.0, ap (λ (n : ℕ). fault_in (next_at bytes n)) all.1 ∙ ap fault_in (end_of_all bytes))
