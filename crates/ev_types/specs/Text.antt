use Rattle.std.specs.Prelude.{ℕ, Bool, false, List, Option, Some, None}
use Rattle.std.specs.Str.{IsValidUpTo, bytes_eq}
use Rattle.std.specs.String.{string_bytes}
use Rattle.ev_types.specs.declared.text.Chars.{Chars}
use Rattle.ev_types.specs.declared.text.Chars.TheVariants.{Inline, Heap}
use Rattle.ev_types.specs.declared.text.TextFault.{TextFault}
use Rattle.ev_types.specs.declared.text.TextFault.TheVariants.{Utf8, Memory}

-- the bytes are not a text for this cause: their longest prefix that is UTF-8 is not all of them
abbrev pub IsNoText : List ℕ → TextFault → Type 0
IsNoText bytes (Utf8 place) = IsValidUpTo bytes place
IsNoText bytes Memory = Unit {0}

-- the text is there and has these bytes
abbrev pub is_text : List ℕ → Option (List ℕ) → Bool
is_text wanted None = false
is_text wanted (Some text) = bytes_eq text wanted

-- the bytes of a text's characters
abbrev pub chars_bytes : Chars → List ℕ
chars_bytes (Inline chars) = chars.bytes
chars_bytes (Heap chars) = string_bytes chars
