-- What the bytes of a text are to a form.
use Rattle.std.specs.Prelude.{ℕ, ℤ, pos, neg_ℤ, ◌-◌, Bool, true, false, not, ◌==◌, ◌&&◌, ◌||◌, nat_lt, nat_le, ◌^◌}
use Rattle.std.specs.Prelude.{if◌then◌else◌, List, [], ◌∷◌, length, drop, codes, Option, Some, None, Result, Ok, Err}
use Rattle.std.specs.List.{list_all, take_while}
use Rattle.std.specs.Option.{option_map}
use Rattle.std.specs.Str.{bytes_eq, all_ascii_digits}
use Rattle.std.specs.Str.Parse.{digits_value}
use Rattle.sexp_read.specs.declared.fault.SexpWhy.{SexpWhy}
use Rattle.sexp_read.specs.declared.fault.SexpWhy.TheVariants.{Token, Number as bad_number}
use Rattle.sexp_read.specs.declared.piece.Class.{Class}
use Rattle.sexp_read.specs.declared.piece.Class.TheVariants.{Separator, Comment, Opens, Closes, Quote, Hash, Run}
use Rattle.sexp_read.specs.declared.piece.Quoted.{Quoted}
use Rattle.sexp_read.specs.declared.piece.Quoted.TheVariants.{Text as in_text, Pattern as in_pattern}
use Rattle.string_literals.specs.Literals.{escaped}
use Rattle.sexp_read.specs.Tree.{Atom, Number, Keyword, Symbol, Round, Square, Curly}

-- space, tab, CR, LF, comma
abbrev pub is_separator : ℕ → Bool
is_separator b = b == 32 || b == 9 || b == 13 || b == 10 || b == 44

-- what begins at a byte: `;` `(` `[` `{` `)` `]` `}` `"` `#` and the rest
abbrev pub class_of : ℕ → Class
class_of b =
    if is_separator b then Separator
    else (if b == 59 then Comment
    else (if b == 40 then Opens Round
    else (if b == 91 then Opens Square
    else (if b == 123 then Opens Curly
    else (if b == 41 then Closes Round
    else (if b == 93 then Closes Square
    else (if b == 125 then Closes Curly
    else (if b == 34 then Quote
    else (if b == 35 then Hash
    else Run)))))))))

-- a run goes on to a separator, a bracket, a quote or a comment
abbrev pub runs_on : Class → Bool
runs_on Hash = true
runs_on Run = true
runs_on _ = false

abbrev pub run_of : List ℕ → List ℕ
run_of bytes = take_while (λ b. runs_on (class_of b)) bytes

-- a comment goes on to the line's end
abbrev pub comment_of : List ℕ → List ℕ
comment_of bytes = take_while (λ b. not (b == 10)) bytes

abbrev pub is_digit : ℕ → Bool
is_digit b = nat_le 48 b && nat_le b 57

abbrev pub is_letter : ℕ → Bool
is_letter b = nat_le 65 b && nat_le b 90 || nat_le 97 b && nat_le b 122

-- names begin with a letter or `_`
abbrev pub is_name_start : ℕ → Bool
is_name_start b = is_letter b || b == 95

-- the names of keywords: a letter or `_`, and then letters, digits, `_` `-` `.`
abbrev pub is_name_byte : ℕ → Bool
is_name_byte b = is_letter b || is_digit b || b == 95 || b == 45 || b == 46

abbrev pub is_name : List ℕ → Bool
is_name [] = false
is_name (b ∷ bytes) = is_name_start b && list_all is_name_byte bytes

abbrev pub is_keyword : List ℕ → Bool
is_keyword [] = false
is_keyword (b ∷ bytes) = b == 58 && is_name bytes

-- symbols: a letter or `_`, and then letters, digits, `_` `.` `/` `?` `!` `*` `-`
abbrev pub is_symbol_byte : ℕ → Bool
is_symbol_byte b =
    is_letter b || is_digit b || b == 95 || b == 46 || b == 47 || b == 63 || b == 33 || b == 42 || b == 45

abbrev pub is_word : List ℕ → Bool
is_word [] = false
is_word (b ∷ bytes) = is_name_start b && list_all is_symbol_byte bytes

-- and the comparisons
abbrev pub is_comparison : List ℕ → Bool
is_comparison run = bytes_eq run (codes "=") || bytes_eq run (codes "not=") || bytes_eq run (codes "<")
    || bytes_eq run (codes "<=") || bytes_eq run (codes ">") || bytes_eq run (codes ">=")

abbrev pub is_symbol : List ℕ → Bool
is_symbol run = is_word run || is_comparison run

-- a digit, or a sign and a digit, begins a number
abbrev pub begins_with_digit : List ℕ → Bool
begins_with_digit [] = false
begins_with_digit (b ∷ bytes) = is_digit b

abbrev pub begins_number : List ℕ → Bool
begins_number [] = false
begins_number (b ∷ bytes) = is_digit b || (b == 45 || b == 43) && begins_with_digit bytes

-- the digits of a number, which has a minus sign or none, and its value, within 64 signed bits
abbrev pub magnitude : List ℕ → ℕ → Option ℕ
magnitude digits most =
    if nat_lt 0 (length digits) && all_ascii_digits digits
    && nat_le (digits_value 10 digits) most then Some (digits_value 10 digits) else None

abbrev pub signed : Bool → Option ℕ → Option ℤ
signed minus None = None
signed true (Some n) = Some (neg_ℤ (pos n))
signed false (Some n) = Some (pos n)

unfoldable pub number_of : List ℕ → Option ℤ
number_of [] = None
number_of (b ∷ bytes) =
    if b == 45 then signed true (magnitude bytes (2 ^ 63)) else signed false (magnitude (b ∷ bytes) (2 ^ 63 - 1))

abbrev pub number_atom : Option ℤ → Result Atom SexpWhy
number_atom (Some n) = Ok (Number n)
number_atom None = Err bad_number

-- what a run is
unfoldable pub atom_of : List ℕ → Result Atom SexpWhy
atom_of run =
    if begins_number run then number_atom (number_of run)
    else (if is_keyword run then Ok (Keyword (drop 1 run))
    else (if is_symbol run then Ok (Symbol run)
    else Err Token))

-- the bytes that a backslash and the byte after it represent: in a text its escape, in a pattern themselves
abbrev pub escape_of : Quoted → ℕ → Option (List ℕ)
escape_of in_text b = option_map (λ e. e ∷ []) (escaped b)
escape_of in_pattern b = Some (92 ∷ b ∷ [])
