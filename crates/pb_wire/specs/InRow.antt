-- The fields of bytes are those of their longest prefix that is fields one after the other.
use Rattle.std.specs.Prelude.{◌≡◌, ℕ, ◌<◌, ◌≤◌, List, [], ◌∷◌, ◌++◌, length, drop, slice_range, IfSome, MatchOption}
use Rattle.pb_wire.specs.declared.reader.Body.{Body}
use Rattle.pb_wire.specs.declared.reader.Body.TheVariants.{Varint, Eight, Bytes, Four}
use Rattle.pb_wire.specs.Fields.{FieldAt, fields_of, fields_end, fields_from, fields_fault}
use Rattle.pb_wire.specs.Spelling.{content_in, IsSpelling}
use Rattle.pb_wire.specs.Cause.{IsCause}

-- a body of bytes ends where its field does
abbrev pub EndsAt : ℕ → Body → Type 0
EndsAt after (Bytes start last) = (start ≤ last) × (last ≡ after)
EndsAt after (Varint value) = Unit {0}
EndsAt after (Eight value) = Unit {0}
EndsAt after (Four value) = Unit {0}

-- the bytes have the field, spelled from its place to just before `after`
pub record IsFieldAt (bytes : List ℕ) (field : FieldAt) (after : ℕ) : Type 0 where
  pub within : after ≤ length bytes
  pub spelled : IsSpelling (slice_range bytes field.place after) field.number (content_in bytes field.body)
  pub ends : EndsAt after field.body

-- the bytes have the fields one after the other, the first at a place, and `last` is just past the last one
abbrev pub AreInRow : List ℕ → ℕ → List FieldAt → ℕ → Type 0
AreInRow bytes place [] last = place ≡ last
AreInRow bytes place (field ∷ fields) last =
    (field.place ≡ place) × (after : ℕ) × IsFieldAt bytes field after × AreInRow bytes after fields last

abbrev pub FieldsAreInRow : Type 0
FieldsAreInRow = (bytes : List ℕ) → AreInRow bytes 0 (fields_of bytes) (fields_end bytes 0)

-- Whatever fields are in a row from the start on, they are the first of these, and no more bytes.
abbrev pub FieldsAreLongest : Type 0
FieldsAreLongest = (bytes : List ℕ) (fields : List FieldAt) (last : ℕ) → AreInRow bytes 0 fields last
    → (fields_of bytes ≡ fields ++ fields_from bytes last) × (last ≤ fields_end bytes 0)

abbrev pub FaultIsAfter : Type 0
FaultIsAfter = (bytes : List ℕ) → MatchOption (fields_fault bytes) (fields_end bytes 0 ≡ length bytes)
    (λ fault. (fault.0 ≡ fields_end bytes 0) × (fault.0 < length bytes))

-- the fault is for the cause that the bytes from its place on have
abbrev pub FaultHasCause : Type 0
FaultHasCause = (bytes : List ℕ) → IfSome (fields_fault bytes) (λ fault. IsCause (drop fault.0 bytes) fault.1)
