-- Reading the bytes of an event from left to right, if they are those that this server writes: words of the private
-- functions that read. No public clause cites them.
use Rattle.std.specs.Prelude.{ℕ, zero, suc, ◌+◌, ◌-◌, ◌*◌, ◌%◌, ◌==◌, ◌≡◌, codes, nat_lt, nat_le, if◌then◌else◌, List}
use Rattle.std.specs.Prelude.{[], ◌∷◌, length, take, drop, Option, Some, None, ℤ}
use Rattle.std.specs.Int.{Width, w32, w64, byte_len, from_le_bytes, cast_signed}
use Rattle.std.specs.Option.{option_and_then, option_map}
use Rattle.std.specs.Ordering.{int_eq}
use Rattle.std.specs.Str.{is_utf8}
use Rattle.ev_types.specs.declared.event.Attr.{Attr}
use Rattle.ev_types.specs.declared.event.Event.{Event}
use Rattle.ev_types.specs.Text.{is_text}
use Rattle.riemann_msg.specs.Ttl.{seconds_of, bits_of}
use Rattle.riemann_msg.specs.Value.{second_of, unzigzag}
use Rattle.packed_event.specs.declared.names.Names.{Names}
use Rattle.packed_event.specs.declared.places.Places.{Places}
use Rattle.packed_event.specs.declared.places.Span.{Span}

infixl 10 ◌>>=◌
abbrev pub ◌>>=◌ : {A B : Type 0} → Option A → (A → Option B) → Option B
o >>= f = option_and_then f o

-- what a function returned, seen by view, is what reading gives
abbrev pub Gives : {X Y : Type 0} → (X → Y) → Option X → Option Y → Type 0
Gives view (Some x) read = read ≡ Some (view x)
Gives view None read = read ≡ None

-- ---- Each of these gives what it reads at the start of the bytes, and the bytes after it.

-- the digits of a varint after its first one, in at most n + 1 bytes, of which the last is not 0
unfoldable pub digits_within : ℕ → List ℕ → Option (ℕ × List ℕ)
digits_within zero [] = None
digits_within zero (byte ∷ rest) = if byte == 1 then Some (1, rest) else None
digits_within (suc n) [] = None
digits_within (suc n) (byte ∷ rest) =
    if nat_lt byte 128 then (if byte == 0 then None else Some (byte, rest)) else do
      more ← digits_within n rest
      Some (byte % 128 + 128 * more.0, more.1)

unfoldable pub varint_part : List ℕ → Option (ℕ × List ℕ)
varint_part [] = None
varint_part (byte ∷ rest) = if nat_lt byte 128 then Some (byte, rest) else do
  more ← digits_within 8 rest
  Some (byte % 128 + 128 * more.0, more.1)

unfoldable pub bytes_part : List ℕ → Option (List ℕ × List ℕ)
bytes_part bytes = do
  size ← varint_part bytes
  if nat_le size.0 (length size.1) then Some (take size.0 size.1, drop size.0 size.1) else None

unfoldable pub text_part : List ℕ → Option (List ℕ × List ℕ)
text_part bytes = do
  text ← bytes_part bytes
  if is_utf8 text.0 then Some text else None

-- a number of four or eight bytes
abbrev pub number_part : Width → List ℕ → Option (ℕ × List ℕ)
number_part w bytes =
    if nat_lt (length bytes) (byte_len w) then None
    else Some (from_le_bytes w (take (byte_len w) bytes), drop (byte_len w) bytes)

unfoldable pub int64_part : List ℕ → Option (ℤ × List ℕ)
int64_part bytes = do
  value ← varint_part bytes
  Some (cast_signed w64 value.0, value.1)

unfoldable pub sint64_part : List ℕ → Option (ℤ × List ℕ)
sint64_part bytes = do
  value ← varint_part bytes
  Some (unzigzag value.0, value.1)

-- a ttl in the bits that are written for it
unfoldable pub ttl_part : List ℕ → Option (ℕ × List ℕ)
ttl_part bytes = do
  bits ← number_part w32 bytes
  ttl ← seconds_of bits.0
  if bits_of ttl == bits.0 then Some (ttl, bits.1) else None

-- microseconds that lie in the second `time`
unfoldable pub micros_part : ℤ → List ℕ → Option (ℤ × List ℕ)
micros_part time bytes = do
  micros ← int64_part bytes
  if int_eq (second_of micros.0) time then Some micros else None

-- the bytes after the tag, if they begin with it
unfoldable pub after_tag : ℕ → List ℕ → Option (List ℕ)
after_tag tag [] = None
after_tag tag (byte ∷ bytes) = if byte == tag then Some bytes else None

-- a field that may be absent: its tag, and then its part
unfoldable pub optional : {A : Type 0} → ℕ → (List ℕ → Option (A × List ℕ)) → List ℕ → Option (Option A × List ℕ)
optional tag part [] = Some (None, [])
optional tag part (byte ∷ bytes) = if byte == tag then (do
  value ← part bytes
  Some (Some value.0, value.1))
    else Some (None, byte ∷ bytes)

-- a field that is there
unfoldable pub required : {A : Type 0} → ℕ → (List ℕ → Option (A × List ℕ)) → List ℕ → Option (A × List ℕ)
required tag part [] = None
required tag part (byte ∷ bytes) = if byte == tag then part bytes else None

-- a field that is there any number of times, at most n
unfoldable pub repeated_within : {A : Type 0} → ℕ → ℕ → (List ℕ → Option (A × List ℕ)) → List ℕ
    → Option (List A × List ℕ)
repeated_within zero tag part bytes = Some ([], bytes)
repeated_within (suc n) tag part [] = Some ([], [])
repeated_within (suc n) tag part (byte ∷ bytes) = if byte == tag then (do
  item ← part bytes
  items ← repeated_within n tag part item.1
  Some (item.0 ∷ items.0, items.1))
    else Some ([], byte ∷ bytes)

abbrev pub repeated : {A : Type 0} → ℕ → (List ℕ → Option (A × List ℕ)) → List ℕ → Option (List A × List ℕ)
repeated tag part bytes = repeated_within (length bytes) tag part bytes

-- what was read, if no bytes are left
abbrev pub at_end : {A : Type 0} → A → List ℕ → Option A
at_end value rest = if length rest == 0 then Some value else None

-- ---- attributes and events

-- the attribute that all the bytes are
abbrev pub attribute_in : List ℕ → Option Attr
attribute_in bytes = do
  key ← required 10 text_part bytes
  value ← optional 18 text_part key.1
  at_end (record { key = key.0; value = value.0 }) value.1

unfoldable pub attribute_part : List ℕ → Option (Attr × List ℕ)
attribute_part bytes = do
  inner ← bytes_part bytes
  attribute ← attribute_in inner.0
  Some (attribute, inner.1)

-- how many bytes a text has, if there is one
abbrev pub text_length : Option (List ℕ) → ℕ
text_length None = 0
text_length (Some text) = length text

-- the span of a text that ends before the rest of `total` bytes
abbrev pub span_before : ℕ → Option (List ℕ) → List ℕ → Option Span
span_before total text rest =
    option_map (λ (bytes : List ℕ). record { start = total - (length bytes + length rest); len = length bytes }) text

-- the time and the texts of an event, the spans of two, and the place after them, where the tags begin
pub record NamesRead : Type 0 where
  pub time : ℤ
  pub state : Option (List ℕ)
  pub service : Option (List ℕ)
  pub service_span : Option Span
  pub host : Option (List ℕ)
  pub host_span : Option Span
  pub description : Option (List ℕ)
  pub tags : ℕ

unfoldable pub names_part : ℕ → List ℕ → Option (NamesRead × List ℕ)
names_part total bytes = do
  time ← required 8 int64_part bytes
  state ← optional 18 text_part time.1
  service ← optional 26 text_part state.1
  host ← optional 34 text_part service.1
  description ← optional 42 text_part host.1
  Some (
    record {
      time = time.0;
      state = state.0;
      service = service.0;
      service_span = span_before total service.0 service.1;
      host = host.0;
      host_span = span_before total host.0 host.1;
      description = description.0;
      tags = total - length description.1;
    },
    description.1,
  )

-- what the code keeps of it
abbrev pub names_seen : NamesRead × List ℕ → Names × List ℕ
names_seen read = (
  record {
    time = read.0.time;
    ends_key = is_text (codes "expired") read.0.state;
    service = read.0.service_span;
    host = read.0.host_span;
    tags = read.0.tags;
  },
  read.1,
)

pub record NumbersRead : Type 0 where
  pub micros : Option ℤ
  pub metric : Option ℤ
  pub raw_d : Option ℕ
  pub raw_f : Option ℕ

-- the last fields of an event whose time was read
unfoldable pub numbers_part : ℤ → List ℕ → Option (NumbersRead × List ℕ)
numbers_part time bytes = do
  micros ← optional 80 (micros_part time) bytes
  metric ← optional 104 sint64_part micros.1
  raw_d ← optional 113 (number_part w64) metric.1
  raw_f ← optional 125 (number_part w32) raw_d.1
  Some (record { micros = micros.0; metric = metric.0; raw_d = raw_d.0; raw_f = raw_f.0 }, raw_f.1)

abbrev pub event_read : NamesRead → List (List ℕ) → Option ℕ → List Attr → NumbersRead → Event
event_read names tags ttl attributes numbers = record {
  host = names.host;
  service = names.service;
  state = names.state;
  description = names.description;
  tags = tags;
  time = names.time;
  time_micros = numbers.micros;
  ttl = ttl;
  metric = numbers.metric;
  raw_d = numbers.raw_d;
  raw_f = numbers.raw_f;
  attributes = attributes;
}

abbrev pub places_read : NamesRead → Option ℕ → Places
places_read names ttl = record {
  host = names.host_span;
  service = names.service_span;
  time = names.time;
  ttl = ttl;
  ends_key = is_text (codes "expired") names.state;
  tags = names.tags;
}

-- the event that all the bytes are, and the places of its parts
unfoldable pub packed_in : List ℕ → Option (Places × Event)
packed_in bytes = do
  names ← names_part (length bytes) bytes
  tags ← repeated 58 text_part names.1
  ttl ← optional 69 ttl_part tags.1
  attributes ← repeated 74 attribute_part ttl.1
  numbers ← numbers_part names.0.time attributes.1
  at_end (places_read names.0 ttl.0, event_read names.0 tags.0 ttl.0 attributes.0 numbers.0) numbers.1
