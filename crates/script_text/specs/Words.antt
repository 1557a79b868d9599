-- What the words of a line say.
use Rattle.std.specs.Prelude.{ℕ, ◌^◌, ◌&&◌, nat_le, nat_lt, Bool, if◌then◌else◌, List, length, Option, Some, None}
use Rattle.std.specs.Prelude.{Result, Ok, Err}
use Rattle.std.specs.Str.{all_ascii_digits}
use Rattle.std.specs.Str.Parse.{digits_value}
use Rattle.hex.specs.Hex.{decode_of}
use Rattle.hex.specs.declared.error.FromHexError.{FromHexError}

-- 1 to 20 decimal digits with a value below 2^64; they may begin with zeros
abbrev pub is_number : List ℕ → Bool
is_number word =
    nat_le 1 (length word) && nat_le (length word) 20 && all_ascii_digits word && nat_lt (digits_value 10 word) (2 ^ 64)

-- the number that a word is
unfoldable pub number_of : List ℕ → Option ℕ
number_of word = if is_number word then Some (digits_value 10 word) else None

-- from 1 to 65,536 bytes
abbrev pub within_piece : Result (List ℕ) FromHexError → Option (List ℕ)
within_piece (Ok bytes) = if nat_le 1 (length bytes) && nat_le (length bytes) 65536 then Some bytes else None
within_piece (Err why) = None

-- the bytes that a word spells, with two hexadecimal digits each, in either case
unfoldable pub piece_of : List ℕ → Option (List ℕ)
piece_of word = within_piece (decode_of word)
