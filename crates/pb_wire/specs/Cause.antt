-- Why bytes begin with no field. The tag is looked at before the body.
use Rattle.std.specs.Prelude.{◌≡◌, ◌≢◌, ◌⊎◌, ℕ, ◌/◌, ◌%◌, ◌^◌, ◌<◌, ◌≤◌, List, ◌++◌, length, take}
use Rattle.std.specs.List.{AllByRecursion}
use Rattle.pb_wire.specs.declared.reader.WireWhy.{WireWhy}
use Rattle.pb_wire.specs.declared.reader.WireWhy.TheVariants.{Short, Varint, Tag, Wire}
use Rattle.pb_wire.specs.Varint.{IsVarint}
use Rattle.pb_wire.specs.Spelling.{Content, IsSpelling}

-- the byte has its high bit
abbrev pub IsHigh : ℕ → Type 0
IsHigh byte = 128 ≤ byte

-- the bytes end within a varint
pub record EndsInVarint (bytes : List ℕ) : Type 0 where
  pub few : length bytes < 10
  pub high : AllByRecursion IsHigh bytes

-- ten bytes with the high bit
pub record IsLongVarint (bytes : List ℕ) : Type 0 where
  pub ten : 10 ≤ length bytes
  pub high : AllByRecursion IsHigh (take 10 bytes)

-- the bytes are a varint of this value, and then the rest
pub record BeginsWith (bytes : List ℕ) (value : ℕ) (rest : List ℕ) : Type 0 where
  pub text : List ℕ
  pub whole : bytes ≡ text ++ rest
  pub varint : IsVarint text value

-- the tag is below 2^32, and the number in it is not 0
pub record IsTag (tag : ℕ) : Type 0 where
  pub small : tag < 2 ^ 32
  pub positive : 0 < tag / 8

-- the tag is at fault
abbrev pub IsTagCause : List ℕ → WireWhy → Type 0
IsTagCause bytes Short = EndsInVarint bytes
IsTagCause bytes Varint = IsLongVarint bytes
IsTagCause bytes Tag = (tag : ℕ) × (rest : List ℕ) × BeginsWith bytes tag rest × (IsTag tag → ⊥)
IsTagCause bytes Wire = ⊥

-- the type is one whose body begins with a varint: its value, or its length
abbrev pub HasVarint : ℕ → Type 0
HasVarint kind = (kind ≡ 0) ⊎ (kind ≡ 2)

-- the length is greater than the bytes that are left
abbrev pub EndsInBytes : List ℕ → Type 0
EndsInBytes bytes = (size : ℕ) × (rest : List ℕ) × BeginsWith bytes size rest × (length rest < size)

-- the bytes end within a body of this type
abbrev pub EndsInBody : ℕ → List ℕ → Type 0
EndsInBody kind bytes = (HasVarint kind × EndsInVarint bytes)
    ⊎ (((kind ≡ 1) × (length bytes < 8))
    ⊎ (((kind ≡ 5) × (length bytes < 4))
    ⊎ ((kind ≡ 2) × EndsInBytes bytes)))

-- a body of this type is at fault
abbrev pub IsBodyCause : ℕ → List ℕ → WireWhy → Type 0
IsBodyCause kind bytes Short = EndsInBody kind bytes
IsBodyCause kind bytes Varint = HasVarint kind × IsLongVarint bytes
IsBodyCause kind bytes Tag = ⊥
IsBodyCause kind bytes Wire = (kind ≢ 0) × (kind ≢ 1) × (kind ≢ 2) × (kind ≢ 5)

-- the tag is one of a field, and what follows it is at fault
pub record HasBodyCause (bytes : List ℕ) (why : WireWhy) : Type 0 where
  pub tag : ℕ
  pub body : List ℕ
  pub begins : BeginsWith bytes tag body
  pub is_tag : IsTag tag
  pub cause : IsBodyCause (tag % 8) body why

-- for this the bytes begin with no field
abbrev pub IsCause : List ℕ → WireWhy → Type 0
IsCause bytes why = IsTagCause bytes why ⊎ HasBodyCause bytes why

-- the bytes begin with a field
pub record BeginsWithField (bytes : List ℕ) : Type 0 where
  pub text : List ℕ
  pub rest : List ℕ
  pub whole : bytes ≡ text ++ rest
  pub number : ℕ
  pub content : Content
  pub spelled : IsSpelling text number content

-- bytes that begin with no field have a cause, which is one, and others have none
abbrev pub CausesAreFound : Type 0
CausesAreFound = (bytes : List ℕ) → BeginsWithField bytes ⊎ ((why : WireWhy) × IsCause bytes why)

abbrev pub CausesAreOne : Type 0
CausesAreOne = (bytes : List ℕ) (why other : WireWhy) → IsCause bytes why → IsCause bytes other → why ≡ other

abbrev pub FieldsHaveNone : Type 0
FieldsHaveNone = (bytes : List ℕ) (why : WireWhy) → BeginsWithField bytes → IsCause bytes why → ⊥
