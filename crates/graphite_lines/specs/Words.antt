-- The words of a line, and which of them are paths, values and times.
use Rattle.std.specs.Prelude.{ℕ, ◌^◌, ◌==◌, nat_le, nat_lt, Bool, true, false, not, ◌&&◌, ◌||◌, List, [], ◌∷◌, length}
use Rattle.std.specs.Prelude.{drop, filter, if◌then◌else◌, ℤ, pos, negsuc}
use Rattle.std.specs.List.{after_first, before_first, list_all, list_any, slice_split}
use Rattle.std.specs.Str.{all_ascii_digits, is_utf8}
use Rattle.std.specs.Str.Parse.{digits_value, signed_digits_value, starts_with_minus}

-- a space or a tab
abbrev pub is_blank : ℕ → Bool
is_blank byte = byte == 32 || byte == 9

abbrev pub has_bytes : List ℕ → Bool
has_bytes [] = false
has_bytes (byte ∷ bytes) = true

-- the parts between blanks that are not empty
unfoldable pub words_of : List ℕ → List (List ℕ)
words_of line = filter has_bytes (slice_split is_blank line)

-- from 1 to `most` decimal digits
abbrev pub are_digits : ℕ → List ℕ → Bool
are_digits most word = nat_le 1 (length word) && nat_le (length word) most && all_ascii_digits word

-- ---- paths

-- no control character of ASCII
abbrev pub is_path_byte : ℕ → Bool
is_path_byte byte = nat_le 32 byte && not (byte == 127)

unfoldable pub is_path : List ℕ → Bool
is_path word = nat_le (length word) 1024 && list_all is_path_byte word && is_utf8 word

-- ---- values

-- the number fits 64 signed bits
abbrev pub fits_signed : ℤ → Bool
fits_signed (pos n) = nat_lt n (2 ^ 63)
fits_signed (negsuc n) = nat_lt n (2 ^ 63)

abbrev pub without_minus : List ℕ → List ℕ
without_minus word = drop (if starts_with_minus word then 1 else 0) word

-- an optional `-` and from 1 to 20 digits, whose number fits 64 signed bits
unfoldable pub is_whole : List ℕ → Bool
is_whole word = are_digits 20 (without_minus word) && fits_signed (signed_digits_value 10 word)

abbrev pub is_point : ℕ → Bool
is_point byte = byte == 46

-- from 1 to 20 digits `0`
unfoldable pub are_zeros : List ℕ → Bool
are_zeros word = nat_le 1 (length word) && nat_le (length word) 20 && list_all (λ digit. digit == 48) word

-- a whole number; after it may come a point and zeros
unfoldable pub is_value : List ℕ → Bool
is_value word =
    is_whole (before_first is_point word) && (not (list_any is_point word) || are_zeros (after_first is_point word))

-- the number before the point
abbrev pub value_of : List ℕ → ℤ
value_of word = signed_digits_value 10 (before_first is_point word)

-- ---- times

-- from 1 to 19 digits, whose number is at most 2^63 - 1
unfoldable pub is_time : List ℕ → Bool
is_time word = are_digits 19 word && nat_lt (digits_value 10 word) (2 ^ 63)

abbrev pub time_of : List ℕ → ℤ
time_of word = pos (digits_value 10 word)
