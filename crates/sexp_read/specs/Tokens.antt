-- The tokens of a text, up to its end or to the first token that is faulty.
use Rattle.std.specs.Prelude.{ℕ, Bool, false, ◌+◌, ◌==◌, nat_lt, if◌then◌else◌, List, [], ◌∷◌, ◌++◌, length, drop}
use Rattle.std.specs.Prelude.{Option, Some, None, Result, Ok, Err}
use Rattle.sexp_read.specs.declared.fault.SexpWhy.{SexpWhy}
use Rattle.sexp_read.specs.declared.fault.SexpWhy.TheVariants.{Open, Escape}
use Rattle.sexp_read.specs.declared.piece.Class.{Class}
use Rattle.sexp_read.specs.declared.piece.Class.TheVariants.{Separator, Comment, Opens, Closes, Quote, Hash, Run}
use Rattle.sexp_read.specs.declared.piece.Quoted.{Quoted}
use Rattle.sexp_read.specs.declared.piece.Quoted.TheVariants.{Text as in_text, Pattern as in_pattern}
use Rattle.sexp_read.specs.declared.piece.Piece.{Piece}
use Rattle.sexp_read.specs.declared.piece.Piece.TheVariants.{Blank, Opening, Closing, Whole}
use Rattle.sexp_read.specs.Tree.{Bracket, Atom, Text, Pattern}
use Rattle.sexp_read.specs.Bytes.{class_of, run_of, comment_of, atom_of, escape_of}

-- a place and the cause for which a text is refused there
abbrev pub Fault : Type 0
Fault = ℕ × SexpWhy

-- what is read, with more bytes before it
abbrev pub with_prefix : List ℕ → Result (List ℕ × ℕ) Fault → Result (List ℕ × ℕ) Fault
with_prefix front (Ok read) = Ok (front ++ read.0, read.1)
with_prefix front (Err fault) = Err fault

-- the same, after a backslash at the place
abbrev pub with_escape : ℕ → Option (List ℕ) → Result (List ℕ × ℕ) Fault → Result (List ℕ × ℕ) Fault
with_escape place (Some front) read = with_prefix front read
with_escape place None read = Err (place, Escape)

-- What is quoted from a place on, after the opening quote of a text or pattern that begins at `start`, and the place
-- just past its closing quote. A backslash that is the last byte of the input does not begin an escape.
abbrev pub quoted_from : Quoted → ℕ → ℕ → List ℕ → Result (List ℕ × ℕ) Fault
quoted_from kind start place [] = Err (start, Open)
quoted_from kind start place (b ∷ []) = if b == 34 then Ok ([], place + 1) else Err (start, Open)
quoted_from kind start place (b ∷ c ∷ bytes) =
    if b == 34 then Ok ([], place + 1)
    else (if b == 92 then with_escape place (escape_of kind c) (quoted_from kind start (place + 2) bytes)
    else with_prefix (b ∷ []) (quoted_from kind start (place + 1) (c ∷ bytes)))

-- a piece of the text, and the place just past it
abbrev pub atom_in : Quoted → List ℕ → Atom
atom_in in_text text = Text text
atom_in in_pattern text = Pattern text

abbrev pub quoted_piece : Quoted → Result (List ℕ × ℕ) Fault → Result (Piece × ℕ) Fault
quoted_piece kind (Ok read) = Ok (Whole (atom_in kind read.0), read.1)
quoted_piece kind (Err fault) = Err fault

abbrev pub placed : ℕ → Result Atom SexpWhy → Result Atom Fault
placed start (Ok atom) = Ok atom
placed start (Err why) = Err (start, why)

abbrev pub run_piece : ℕ → Result Atom Fault → Result (Piece × ℕ) Fault
run_piece last (Ok atom) = Ok (Whole atom, last)
run_piece last (Err fault) = Err fault

abbrev pub is_quote : List ℕ → Bool
is_quote [] = false
is_quote (b ∷ bytes) = b == 34

-- the piece that begins at a place with the byte b
unfoldable pub run_at : ℕ → List ℕ → Result (Piece × ℕ) Fault
run_at place bytes = run_piece (place + length (run_of bytes)) (placed place (atom_of (run_of bytes)))

unfoldable pub quoted_at : Quoted → ℕ → ℕ → List ℕ → Result (Piece × ℕ) Fault
quoted_at kind start place bytes = quoted_piece kind (quoted_from kind start place bytes)

abbrev pub piece_by : Class → ℕ → ℕ → List ℕ → Result (Piece × ℕ) Fault
piece_by Separator place b bytes = Ok (Blank, place + 1)
piece_by Comment place b bytes = Ok (Blank, place + 1 + length (comment_of bytes))
piece_by (Opens bracket) place b bytes = Ok (Opening bracket, place + 1)
piece_by (Closes bracket) place b bytes = Ok (Closing bracket, place + 1)
piece_by Quote place b bytes = quoted_at in_text place (place + 1) bytes
piece_by Hash place b bytes =
    if is_quote bytes then quoted_at in_pattern place (place + 2) (drop 1 bytes) else run_at place (b ∷ bytes)
piece_by Run place b bytes = run_at place (b ∷ bytes)

unfoldable pub piece_at : ℕ → ℕ → List ℕ → Result (Piece × ℕ) Fault
piece_at place b bytes = piece_by (class_of b) place b bytes

-- a token: a bracket by its place, a closing one by the place just past it; or an atom by the place of its first byte
-- and the place just past its last one
pub data Token : Type 0 where
  Opened : Bracket → ℕ → Token
  Closed : Bracket → ℕ → Token
  Stood : Atom → ℕ → ℕ → Token

abbrev pub tokens_in : ℕ → Piece → ℕ → List Token
tokens_in start Blank last = []
tokens_in start (Opening bracket) last = Opened bracket start ∷ []
tokens_in start (Closing bracket) last = Closed bracket last ∷ []
tokens_in start (Whole atom) last = Stood atom start last ∷ []

-- tokens, and the fault after them where there is a faulty one
pub record Lexed : Type 0 where
  pub tokens : List Token
  pub fault : Option Fault

abbrev pub with_tokens : List Token → Lexed → Lexed
with_tokens tokens more = record { tokens = tokens ++ more.tokens; fault = more.fault }

abbrev pub and_then : ℕ → Result (Piece × ℕ) Fault → (ℕ → Lexed) → Lexed
and_then place (Ok read) more = with_tokens (tokens_in place read.0 read.1) (more read.1)
and_then place (Err fault) more = record { tokens = []; fault = Some fault }

-- what is from `next` on, in the bytes of a text that begin at a place
unfoldable pub lexed_from : ℕ → ℕ → List ℕ → Lexed
lexed_from next place [] = record { tokens = []; fault = None }
lexed_from next place (b ∷ bytes) =
    if nat_lt place next then lexed_from next (place + 1) bytes
    else and_then place (piece_at place b bytes) (λ last. lexed_from last (place + 1) bytes)

unfoldable pub lexed : List ℕ → Lexed
lexed text = lexed_from 0 0 text
