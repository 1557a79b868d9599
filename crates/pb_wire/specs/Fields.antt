-- The fields that bytes spell, read forward. A field is a tag, which is a varint of 8 times the field's number and
-- the type of its body, and the body: a varint (type 0), eight bytes (1), a length as a varint and that many bytes
-- (2), or four bytes (5). Eight and four bytes are little-endian.
use Rattle.std.specs.Prelude.{◌≡◌, ℕ, zero, suc, ◌+◌, ◌/◌, ◌%◌, ◌^◌, ◌<◌, ◌≤◌, ◌==◌, ◌&&◌, nat_lt, nat_le}
use Rattle.std.specs.Prelude.{if◌then◌else◌, List, [], ◌∷◌, length, drop, slice_range, Option, Some, None, Result, Ok}
use Rattle.std.specs.Prelude.{Err}
use Rattle.std.specs.Int.{w32, w64, from_le_bytes}
use Rattle.pb_wire.specs.declared.reader.Body.{Body}
use Rattle.pb_wire.specs.declared.reader.Body.TheVariants.{Varint, Eight, Bytes, Four}
use Rattle.pb_wire.specs.declared.reader.Next.{Next}
use Rattle.pb_wire.specs.declared.reader.Next.TheVariants.{End, Field, Refused}
use Rattle.pb_wire.specs.declared.reader.WireWhy.{WireWhy}
use Rattle.pb_wire.specs.declared.reader.WireWhy.TheVariants.{Short, Tag, Wire}
use Rattle.pb_wire.specs.Varint.{varint_at}
use Rattle.pb_wire.specs.Cause.{IsCause}

-- a field: its number, its body, and the place of its tag's first byte
pub record FieldAt : Type 0 where
  pub number : ℕ
  pub body : Body
  pub place : ℕ

infixl 10 ◌>>=◌
abbrev pub ◌>>=◌ : {A B : Type 0} → Result A WireWhy → (A → Result B WireWhy) → Result B WireWhy
(Ok x) >>= f = f x
(Err why) >>= f = Err why

-- Each of these reads what is at a place, and gives it with the place just past it, or why it is refused.
unfoldable pub varint_from : List ℕ → ℕ → Result (ℕ × ℕ) WireWhy
varint_from bytes place = do
  read ← varint_at (drop place bytes)
  Ok (read.0, place + read.1)

unfoldable pub tag_from : List ℕ → ℕ → Result (ℕ × ℕ) WireWhy
tag_from bytes place = do
  tag ← varint_from bytes place
  if nat_lt tag.0 (2 ^ 32) && nat_lt 0 (tag.0 / 8) then Ok tag else Err Tag

unfoldable pub bytes_from : ℕ → List ℕ → ℕ → Result (List ℕ × ℕ) WireWhy
bytes_from size bytes place =
    if nat_le (place + size) (length bytes) then Ok (slice_range bytes place (place + size), place + size)
    else Err Short

abbrev pub varint_body : List ℕ → ℕ → Result (Body × ℕ) WireWhy
varint_body bytes place = do
  value ← varint_from bytes place
  Ok (Varint value.0, value.1)

abbrev pub eight_body : List ℕ → ℕ → Result (Body × ℕ) WireWhy
eight_body bytes place = do
  eight ← bytes_from 8 bytes place
  Ok (Eight (from_le_bytes w64 eight.0), eight.1)

abbrev pub bytes_body : List ℕ → ℕ → Result (Body × ℕ) WireWhy
bytes_body bytes place = do
  size ← varint_from bytes place
  body ← bytes_from size.0 bytes size.1
  Ok (Bytes size.1 body.1, body.1)

abbrev pub four_body : List ℕ → ℕ → Result (Body × ℕ) WireWhy
four_body bytes place = do
  four ← bytes_from 4 bytes place
  Ok (Four (from_le_bytes w32 four.0), four.1)

unfoldable pub body_from : ℕ → List ℕ → ℕ → Result (Body × ℕ) WireWhy
body_from type bytes place =
    if type == 0 then varint_body bytes place
    else (if type == 1 then eight_body bytes place
    else (if type == 2 then bytes_body bytes place
    else (if type == 5 then four_body bytes place
    else Err Wire)))

-- a field: its number, its body, and the place just past it
unfoldable pub field_from : List ℕ → ℕ → Result (ℕ × Body × ℕ) WireWhy
field_from bytes place = do
  tag ← tag_from bytes place
  body ← body_from (tag.0 % 8) bytes tag.1
  Ok (tag.0 / 8, body.0, body.1)

-- what is found at a place
abbrev pub seen : ℕ → Result (ℕ × Body × ℕ) WireWhy → Next
seen place (Ok read) = Field read.0 read.1 place
seen place (Err why) = Refused place why

unfoldable pub next_at : List ℕ → ℕ → Next
next_at bytes place = if nat_le (length bytes) place then End else seen place (field_from bytes place)

-- the place just past the field at a place, or that place itself where no field begins
abbrev pub past : ℕ → Result (ℕ × Body × ℕ) WireWhy → ℕ
past place (Ok read) = read.2
past place (Err why) = place

unfoldable pub next_place : List ℕ → ℕ → ℕ
next_place bytes place = past place (field_from bytes place)

-- the fields from a place on, at most n of them, and the place after the last one
abbrev pub and_more : ℕ → Result (ℕ × Body × ℕ) WireWhy → (ℕ → List FieldAt) → List FieldAt
and_more place (Ok read) more = record { number = read.0; body = read.1; place = place } ∷ more read.2
and_more place (Err why) more = []

unfoldable pub fields_within : ℕ → List ℕ → ℕ → List FieldAt
fields_within zero bytes place = []
fields_within (suc n) bytes place = and_more place (field_from bytes place) (fields_within n bytes)

unfoldable pub end_within : ℕ → List ℕ → ℕ → ℕ
end_within zero bytes place = place
end_within (suc n) bytes place = end_within n bytes (next_place bytes place)

-- the fields from a place on, and the place after them
unfoldable pub fields_from : List ℕ → ℕ → List FieldAt
fields_from bytes place = fields_within (length bytes) bytes place

unfoldable pub fields_end : List ℕ → ℕ → ℕ
fields_end bytes place = end_within (length bytes) bytes place

-- the place and the cause of a refusal
abbrev pub fault_in : Next → Option (ℕ × WireWhy)
fault_in End = None
fault_in (Field number body place) = None
fault_in (Refused place why) = Some (place, why)

unfoldable pub fault_from : List ℕ → ℕ → Option (ℕ × WireWhy)
fault_from bytes place = fault_in (next_at bytes (fields_end bytes place))

-- the fields of all the bytes, in order, and the fault at which they stop before the end
unfoldable pub fields_of : List ℕ → List FieldAt
fields_of bytes = fields_from bytes 0

unfoldable pub fields_fault : List ℕ → Option (ℕ × WireWhy)
fields_fault bytes = fault_from bytes 0

-- the bytes that a reader goes over, and the place that it has come to
pub record Cursor : Type 0 where
  pub bytes : List ℕ
  pub place : ℕ

-- a body of bytes lies within the first `size` bytes
abbrev pub LiesWithin : ℕ → Body → Type 0
LiesWithin size (Bytes start last) = (start ≤ last) × (last ≤ size)
LiesWithin size (Varint value) = Unit {0}
LiesWithin size (Eight value) = Unit {0}
LiesWithin size (Four value) = Unit {0}

-- a field was read: it was at the old place, and the fields after it are at the new one
pub record Passes (old : Cursor) (field : FieldAt) (new : Cursor) : Type 0 where
  pub number : (0 < field.number) × (field.number < 2 ^ 29)
  pub body : LiesWithin (length old.bytes) field.body
  pub place : field.place ≡ old.place
  pub rises : old.place < new.place
  pub within : new.place ≤ length old.bytes
  pub fields : fields_from old.bytes old.place ≡ field ∷ fields_from old.bytes new.place
  pub fault : fault_from old.bytes old.place ≡ fault_from old.bytes new.place

-- nothing more is read
pub record Stays (old : Cursor) (fault : Option (ℕ × WireWhy)) (new : Cursor) : Type 0 where
  pub unchanged : new ≡ old
  pub fields : fields_from old.bytes old.place ≡ []
  pub fault_is : fault_from old.bytes old.place ≡ fault

-- what an answer says of the fields that are left
abbrev pub Advances : Cursor → Next → Cursor → Type 0
Advances old End new = Stays old None new × (old.place ≡ length old.bytes)
Advances old (Field number body place) new = Passes old (record { number = number; body = body; place = place }) new
Advances old (Refused place why) new =
    Stays old (Some (place, why)) new × (place ≡ old.place) × (place < length old.bytes)
    × IsCause (drop place old.bytes) why
