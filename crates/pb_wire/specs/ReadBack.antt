-- What is spelled is read again.
use Rattle.std.specs.Prelude.{◌≡◌, ℕ, ◌+◌, ◌-◌, ◌^◌, ◌<◌, ◌≤◌, List, ◌++◌, length, map, None}
use Rattle.std.specs.List.{AllByRecursion, flat_map}
use Rattle.pb_wire.specs.declared.reader.Body.{Body}
use Rattle.pb_wire.specs.declared.reader.Body.TheVariants.{Varint as body_varint, Eight as body_eight}
use Rattle.pb_wire.specs.declared.reader.Body.TheVariants.{Bytes as body_bytes, Four as body_four}
use Rattle.pb_wire.specs.declared.reader.Next.TheVariants.{Field}
use Rattle.pb_wire.specs.Fields.{next_at, next_place, fields_of, fields_fault}
use Rattle.pb_wire.specs.Spelling.{Content, Varint, Eight, Bytes, Four, content_in, field_spelling, IsSpelling}

-- a field without its place: its number and what it holds
pub record FieldValue : Type 0 where
  pub number : ℕ
  pub content : Content

-- what the fields of the bytes hold, in order
unfoldable pub values_of : List ℕ → List FieldValue
values_of bytes =
    map (λ field. record { number = field.number; content = content_in bytes field.body }) (fields_of bytes)

-- what a field of its type can hold
abbrev pub Fits : Content → Type 0
Fits (Varint value) = value < 2 ^ 64
Fits (Eight value) = value < 2 ^ 64
Fits (Bytes bytes) = length bytes < 2 ^ 64
Fits (Four value) = value < 2 ^ 32

pub record IsField (value : FieldValue) : Type 0 where
  pub positive : 0 < value.number
  pub small : value.number < 2 ^ 29
  pub fits : Fits value.content

abbrev pub value_spelling : FieldValue → List ℕ
value_spelling value = field_spelling value.number value.content

-- fields that are written one after the other are read again, with no fault
abbrev pub FieldsAreReadBack : Type 0
FieldsAreReadBack = (values : List FieldValue) → AllByRecursion IsField values
    → (values_of (flat_map value_spelling values) ≡ values) × (fields_fault (flat_map value_spelling values) ≡ None)

-- the body as which a field is read whose spelling ends just before `after`
abbrev pub body_before : ℕ → Content → Body
body_before after (Varint value) = body_varint value
body_before after (Eight value) = body_eight value
body_before after (Bytes bytes) = body_bytes (after - length bytes) after
body_before after (Four value) = body_four value

-- a field that is written between other bytes is what is found at its place
abbrev pub FieldIsReadBack : Type 0
FieldIsReadBack = (before after : List ℕ) (value : FieldValue) → IsField value
    → let bytes = before ++ (value_spelling value ++ after) in
    let place = length before in
    let past = length before + length (value_spelling value) in
    (next_at bytes place ≡ Field value.number (body_before past value.content) place) × (next_place bytes place ≡ past)
    × (content_in bytes (body_before past value.content) ≡ value.content)

-- what is written is a spelling, and no spelling of the same field has fewer bytes
abbrev pub SpellingIsShortest : Type 0
SpellingIsShortest = (value : FieldValue) → IsField value → IsSpelling (value_spelling value) value.number value.content
    × ((text : List ℕ) → IsSpelling text value.number value.content → length (value_spelling value) ≤ length text)
