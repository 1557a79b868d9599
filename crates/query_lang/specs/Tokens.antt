-- The tokens of a query, read from the start of its text on.
use Rattle.std.specs.Prelude.{◌≡◌, ℕ, ℤ, pos, neg_ℤ, ◌+◌, ◌^◌, ◌==◌, ◌||◌, ◌&&◌, nat_lt, nat_le, Bool, true, false}
use Rattle.std.specs.Prelude.{if◌then◌else◌, unwrap_or, List, [], ◌∷◌, length, take, drop, Option, Some, None, codes}
use Rattle.std.specs.Char.{is_ascii_alphabetic, is_ascii_alphanumeric, is_ascii_digit}
use Rattle.std.specs.List.{prefix_len}
use Rattle.std.specs.Option.{option_map, option_and_then}
use Rattle.std.specs.Str.{bytes_eq, is_utf8}
use Rattle.std.specs.Str.Parse.{AllDigits, digits_value}
use Rattle.pred_eval.specs.declared.rule.Ordering.TheVariants.{Less, LessEqual, Greater, GreaterEqual}
use Rattle.string_literals.specs.Literals.{escaped}
use Rattle.query_lang.specs.declared.token.Token.{Token}
use Rattle.query_lang.specs.declared.token.Token.TheVariants.{Open, Close, And, Or, Not, True, False, Nil, Tagged}
use Rattle.query_lang.specs.declared.token.Token.TheVariants.{Operator, Name, Number, Quoted}
use Rattle.query_lang.specs.declared.token.Operator.TheVariants.{Equal, Unequal, Order, Wild, Search}

-- space, tab, CR and LF
abbrev pub is_blank : ℕ → Bool
is_blank b = (b == 32) || (b == 9) || (b == 13) || (b == 10)

abbrev pub past_blanks : List ℕ → List ℕ
past_blanks [] = []
past_blanks (b ∷ bytes) = if is_blank b then past_blanks bytes else b ∷ bytes

-- a letter or `_`
abbrev pub is_name_start : ℕ → Bool
is_name_start b = is_ascii_alphabetic b || (b == 95)

-- a letter, a digit, `_`, `-` or `.`
abbrev pub is_name_byte : ℕ → Bool
is_name_byte b = is_ascii_alphanumeric b || (b == 95) || (b == 45) || (b == 46)

-- `-` or a digit
abbrev pub is_number_start : ℕ → Bool
is_number_start b = (b == 45) || is_ascii_digit b

-- the word that the name is, where it is one
unfoldable pub word_of : List ℕ → Option Token
word_of name =
    if bytes_eq name (codes "and") then Some And
    else (if bytes_eq name (codes "or") then Some Or
    else (if bytes_eq name (codes "not") then Some Not
    else (if bytes_eq name (codes "true") then Some True
    else (if bytes_eq name (codes "false") then Some False
    else (if bytes_eq name (codes "nil") then Some Nil
    else (if bytes_eq name (codes "tagged") then Some Tagged
    else None))))))

-- the longest run of name bytes
unfoldable pub name_at : List ℕ → Token × List ℕ
name_at bytes = let size = prefix_len is_name_byte bytes in
    (unwrap_or (word_of (take size bytes)) (Name (take size bytes)), drop size bytes)

-- a minus or a digit, and digits
abbrev pub IsLiteral : List ℕ → Type 0
IsLiteral [] = ⊥
IsLiteral (b ∷ digits) = (is_number_start b ≡ true) × AllDigits 10 digits

-- the number that digits spell, a minus before them or not, where it has 64 bits
unfoldable pub number_of : List ℕ → Option ℤ
number_of [] = None
number_of (b ∷ digits) =
    if b == 45
    then (if nat_lt 0 (length digits) && nat_le (digits_value 10 digits) (2 ^ 63)
    then Some (neg_ℤ (pos (digits_value 10 digits))) else None)
    else (if nat_lt (digits_value 10 (b ∷ digits)) (2 ^ 63) then Some (pos (digits_value 10 (b ∷ digits))) else None)

-- the first byte is a name byte
abbrev pub goes_on : List ℕ → Bool
goes_on [] = false
goes_on (b ∷ bytes) = is_name_byte b

-- the first byte and the longest run of digits after it, with no name byte after these
unfoldable pub number_at : List ℕ → Option (Token × List ℕ)
number_at bytes = let size = 1 + prefix_len is_ascii_digit (drop 1 bytes) in
    if goes_on (drop size bytes) then None
    else option_map (λ number. (Number number, drop size bytes)) (number_of (take size bytes))

-- the byte that a byte of a string represents, with the one after it where it is a backslash, and the bytes after these
abbrev pub unescape : ℕ → List ℕ → Option (ℕ × List ℕ)
unescape b [] = if b == 92 then None else Some (b, [])
unescape b (c ∷ bytes) = if b == 92 then option_map (λ meant. (meant, bytes)) (escaped c) else Some (b, c ∷ bytes)

abbrev pub with_prefix : ℕ → Option (List ℕ × List ℕ) → Option (List ℕ × List ℕ)
with_prefix b = option_map (λ found. (b ∷ found.0, found.1))

-- what a string holds, and the bytes after its closing quote
abbrev pub quoted : List ℕ → Option (List ℕ × List ℕ)
quoted [] = None
quoted (b ∷ []) = if b == 34 then Some ([], []) else None
quoted (b ∷ c ∷ bytes) =
    if b == 34 then Some ([], c ∷ bytes)
    else (if b == 92 then option_and_then (λ meant. with_prefix meant (quoted bytes)) (escaped c)
    else with_prefix b (quoted (c ∷ bytes)))

-- a string after its opening quote. What it holds is UTF-8.
unfoldable pub string_at : List ℕ → Option (Token × List ℕ)
string_at bytes =
    option_and_then (λ found. if is_utf8 found.0 then Some (Quoted found.0, found.1) else None) (quoted bytes)

-- the symbols of two bytes, and those of one
unfoldable pub long_symbol : ℕ → ℕ → Option Token
long_symbol b c =
    if (b == 33) && (c == 61) then Some (Operator Unequal)
    else (if (b == 60) && (c == 61) then Some (Operator (Order LessEqual))
    else (if (b == 62) && (c == 61) then Some (Operator (Order GreaterEqual))
    else (if (b == 61) && (c == 126) then Some (Operator Wild)
    else (if (b == 126) && (c == 61) then Some (Operator Search)
    else None))))

unfoldable pub short_symbol : ℕ → Option Token
short_symbol b =
    if b == 40 then Some Open
    else (if b == 41 then Some Close
    else (if b == 61 then Some (Operator Equal)
    else (if b == 60 then Some (Operator (Order Less))
    else (if b == 62 then Some (Operator (Order Greater))
    else None))))

-- the longest symbol
abbrev pub or_short : ℕ → List ℕ → Option (Token × List ℕ) → Option (Token × List ℕ)
or_short b bytes (Some found) = Some found
or_short b bytes None = option_map (λ token. (token, bytes)) (short_symbol b)

abbrev pub symbol_at : List ℕ → Option (Token × List ℕ)
symbol_at [] = None
symbol_at (b ∷ []) = option_map (λ token. (token, [])) (short_symbol b)
symbol_at (b ∷ c ∷ bytes) = or_short b (c ∷ bytes) (option_map (λ token. (token, bytes)) (long_symbol b c))

-- the first token, and the bytes after it. It is unreadable where there is no token.
unfoldable pub token_at : List ℕ → Option (Token × List ℕ)
token_at [] = None
token_at (b ∷ bytes) =
    if is_name_start b then Some (name_at (b ∷ bytes))
    else (if is_number_start b then number_at (b ∷ bytes)
    else (if b == 34 then string_at bytes
    else symbol_at (b ∷ bytes)))
