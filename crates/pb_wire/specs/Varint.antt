-- Base-128 varints of Protocol Buffers: seven bits a byte, the lowest first, and the high bit set in each byte
-- but the last.
use Rattle.std.specs.Prelude.{◌≡◌, ℕ, zero, suc, ◌+◌, ◌*◌, ◌/◌, ◌%◌, ◌^◌, ◌<◌, ◌≤◌, nat_lt, nat_le, if◌then◌else◌, List}
use Rattle.std.specs.Prelude.{[], ◌∷◌, length, take, Result, Ok, Err}
use Rattle.pb_wire.specs.declared.reader.WireWhy.{WireWhy}
use Rattle.pb_wire.specs.declared.reader.WireWhy.TheVariants.{Short, Varint}

-- the low seven bits of byte i count 128 ^ i
abbrev pub low_bits : List ℕ → ℕ
low_bits [] = 0
low_bits (b ∷ bytes) = b % 128 + 128 * low_bits bytes

-- exactly the last byte is below 128
abbrev pub IsLastAlone : List ℕ → Type 0
IsLastAlone [] = ⊥
IsLastAlone (b ∷ []) = b < 128
IsLastAlone (b ∷ c ∷ bytes) = (128 ≤ b) × IsLastAlone (c ∷ bytes)

-- the bytes are a varint of this value, shortest or not
pub record IsVarint (bytes : List ℕ) (value : ℕ) : Type 0 where
  pub last : IsLastAlone bytes
  pub few : length bytes ≤ 10
  pub sum : value ≡ low_bits bytes % 2 ^ 64

-- with how many bytes that have the high bit the bytes begin
abbrev pub high_bytes : List ℕ → ℕ
high_bytes [] = 0
high_bytes (b ∷ bytes) = if nat_lt b 128 then 0 else suc (high_bytes bytes)

-- the varint at the start: its value and how many bytes it has, or why it is refused
unfoldable pub varint_at : List ℕ → Result (ℕ × ℕ) WireWhy
varint_at bytes = let high = high_bytes bytes in
    if nat_le 10 high then Err Varint
    else (if nat_le (length bytes) high then Err Short
    else Ok (low_bits (take (suc high) bytes) % 2 ^ 64, suc high))

-- the shortest spelling of a number, in at most n + 1 bytes
unfoldable pub spelled_within : ℕ → ℕ → List ℕ
spelled_within zero value = value ∷ []
spelled_within (suc n) value =
    if nat_lt value 128 then value ∷ [] else (128 + value % 128) ∷ spelled_within n (value / 128)

-- the shortest spelling of a number below 2 ^ 64
unfoldable pub varint : ℕ → List ℕ
varint value = spelled_within 9 value
