-- What is read of a text that goes on: the brackets that are open, and the forms before them.
use Rattle.std.specs.Prelude.{ℕ, ◌-◌, nat_le, if◌then◌else◌, List, [], ◌∷◌, length, map, reverse, Result, Ok, Err}
use Rattle.sexp_read.specs.declared.fault.SexpWhy.TheVariants.{Close, Deep}
use Rattle.sexp_read.specs.declared.piece.Piece.{Piece}
use Rattle.sexp_read.specs.declared.piece.Piece.TheVariants.{Blank, Opening, Closing, Whole}
use Rattle.sexp_read.specs.declared.read.Open.{Open}
use Rattle.sexp_read.specs.declared.read.Reader.{Reader}
use Rattle.sexp_read.specs.Tree.{Bracket, FormTree, FormTrees, Single, Group, none, also, form_trees}
use Rattle.sexp_read.specs.Tokens.{Fault}
use Rattle.sexp_read.specs.Grammar.{Brackets, same_bracket, deepest}

-- an open bracket, its place, and the forms before it between the same brackets
pub record Frame : Type 0 where
  pub bracket : Bracket
  pub place : ℕ
  pub before : FormTrees

-- the open brackets, the innermost first, and the forms after the innermost
pub record Reading : Type 0 where
  pub stack : List Frame
  pub forms : FormTrees

abbrev pub frame_of : Open → Frame
frame_of frame = record { bracket = frame.bracket; place = frame.place; before = form_trees frame.before.items }

abbrev pub frames_of : List Open → List Frame
frames_of frames = reverse (map frame_of frames)

abbrev pub reading_of : Reader → Reading
reading_of reader = record { stack = frames_of reader.«open».items; forms = form_trees reader.forms.items }

abbrev pub brackets_of : List Frame → Brackets
brackets_of stack = map (λ frame. (frame.bracket, frame.place)) stack

abbrev pub with_form : FormTrees → FormTree → FormTrees
with_form none form = also form none
with_form (also first forms) form = also first (with_form forms form)

-- what is read with one more piece
abbrev pub opened : Reading → Bracket → ℕ → Result Reading Fault
opened reading bracket place =
    if nat_le deepest (length reading.stack) then Err (place, Deep)
    else Ok (record {
      stack = record { bracket = bracket; place = place; before = reading.forms } ∷ reading.stack;
      forms = none;
    })

abbrev pub closed : List Frame → FormTrees → Bracket → ℕ → Result Reading Fault
closed [] forms bracket last = Err (last - 1, Close)
closed (frame ∷ stack) forms bracket last =
    if same_bracket frame.bracket bracket
    then Ok (record { stack = stack; forms = with_form frame.before (Group frame.bracket forms frame.place last) })
    else Err (last - 1, Close)

abbrev pub with_piece : Reading → ℕ → Piece → ℕ → Result Reading Fault
with_piece reading start Blank last = Ok reading
with_piece reading start (Opening bracket) last = opened reading bracket start
with_piece reading start (Closing bracket) last = closed reading.stack reading.forms bracket last
with_piece reading start (Whole atom) last =
    Ok (record { stack = reading.stack; forms = with_form reading.forms (Single atom start last) })
