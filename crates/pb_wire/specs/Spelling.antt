-- How fields are spelled.
use Rattle.std.specs.Prelude.{◌≡◌, ℕ, ◌+◌, ◌*◌, ◌^◌, ◌<◌, List, ◌++◌, length, slice_range}
use Rattle.std.specs.Int.{w32, w64, from_le_bytes, to_le_bytes}
use Rattle.pb_wire.specs.declared.reader.Body.{Body}
use Rattle.pb_wire.specs.declared.reader.Body.TheVariants.{Varint as body_varint, Eight as body_eight}
use Rattle.pb_wire.specs.declared.reader.Body.TheVariants.{Bytes as body_bytes, Four as body_four}
use Rattle.pb_wire.specs.declared.writer.PutBody.{PutBody}
use Rattle.pb_wire.specs.declared.writer.PutBody.TheVariants.{Varint as put_varint, Eight as put_eight}
use Rattle.pb_wire.specs.declared.writer.PutBody.TheVariants.{Bytes as put_bytes, Four as put_four}
use Rattle.pb_wire.specs.Varint.{IsVarint, varint}

-- what a field holds, apart from its place
pub data Content : Type 0 where
  Varint : ℕ → Content
  Eight : ℕ → Content
  Bytes : List ℕ → Content
  Four : ℕ → Content

-- what the body of a field of these bytes holds
abbrev pub content_in : List ℕ → Body → Content
content_in bytes (body_varint value) = Varint value
content_in bytes (body_eight value) = Eight value
content_in bytes (body_bytes start last) = Bytes (slice_range bytes start last)
content_in bytes (body_four value) = Four value

-- what is to be written
abbrev pub content_of : PutBody → Content
content_of (put_varint value) = Varint value
content_of (put_eight value) = Eight value
content_of (put_bytes bytes) = Bytes bytes.now
content_of (put_four value) = Four value

-- the type in the tag
abbrev pub wire_type : Content → ℕ
wire_type (Varint value) = 0
wire_type (Eight value) = 1
wire_type (Bytes bytes) = 2
wire_type (Four value) = 5

abbrev pub tag_of : ℕ → Content → ℕ
tag_of number content = number * 8 + wire_type content

-- the bytes spell the body, with varints in any form
abbrev pub IsBody : List ℕ → Content → Type 0
IsBody text (Varint value) = IsVarint text value
IsBody text (Eight value) = (length text ≡ 8) × (value ≡ from_le_bytes w64 text)
IsBody text (Bytes bytes) = (size : List ℕ) × IsVarint size (length bytes) × (text ≡ size ++ bytes)
IsBody text (Four value) = (length text ≡ 4) × (value ≡ from_le_bytes w32 text)

-- the bytes spell a field
pub record IsSpelling (text : List ℕ) (number : ℕ) (content : Content) : Type 0 where
  pub tag : List ℕ
  pub body : List ℕ
  pub whole : text ≡ tag ++ body
  pub positive : 0 < number
  pub small : tag_of number content < 2 ^ 32
  pub tag_is : IsVarint tag (tag_of number content)
  pub body_is : IsBody body content

-- the shortest spelling of a body, and of a field
abbrev pub body_spelling : Content → List ℕ
body_spelling (Varint value) = varint value
body_spelling (Eight value) = to_le_bytes w64 value
body_spelling (Bytes bytes) = varint (length bytes) ++ bytes
body_spelling (Four value) = to_le_bytes w32 value

unfoldable pub field_spelling : ℕ → Content → List ℕ
field_spelling number content = varint (tag_of number content) ++ body_spelling content

-- the tag and the length of a field of a number of bytes
unfoldable pub bytes_head : ℕ → ℕ → List ℕ
bytes_head number size = varint (number * 8 + 2) ++ varint size
