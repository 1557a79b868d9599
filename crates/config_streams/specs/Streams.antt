-- Streams, and the streams below them.
use Rattle.std.specs.Prelude.{ℕ, Bool, true, false, ◌&&◌, ◌||◌, if◌then◌else◌, List, [], ◌∷◌, drop, Option, Some, None}
use Rattle.std.specs.Prelude.{Result, Ok, Err}
use Rattle.std.specs.Str.{bytes_eq}
use Rattle.sexp_read.specs.declared.piece.Bracket.TheVariants.{Round}
use Rattle.sexp_read.specs.Tree.{FormTree, FormTrees, Single, Group, none, also}
use Rattle.sexp_read.specs.declared.piece.Atom.TheVariants as form
use Rattle.stream_plan.specs.Kinds.{may_have_children}
use Rattle.stream_plan.specs.Tree.{KindTree, StreamTree, stream, StreamTrees}
use Rattle.stream_plan.specs.Tree as plan
use Rattle.config_terms.specs.declared.binding.Bound.{Bound}
use Rattle.config_terms.specs.declared.binding.Bound.TheVariants as bound
use Rattle.config_terms.specs.declared.fault.ConfigWhy.TheVariants as why
use Rattle.config_terms.specs.declared.word.StreamWord.{StreamWord}
use Rattle.config_terms.specs.declared.word.StreamWord.TheVariants as word
use Rattle.config_terms.specs.Steps.{Fault, ◌>>=◌, start_of, at_most}
use Rattle.config_terms.specs.Words.{stream_text, stream_word, else_text}
use Rattle.config_terms.specs.Arguments.{Env, bound_value}
use Rattle.config_streams.specs.Sources.{SourceTree, SourceTrees, source, with_source}
use Rattle.config_streams.specs.Sources as sources
use Rattle.config_streams.specs.Table.{row_of, read}

-- ---- what a form is in the place of a stream

-- streams, and the places of their forms
pub record Located : Type 0 where
  pub streams : StreamTrees
  pub places : SourceTrees

abbrev pub nowhere : Located
nowhere = record { streams = plan.none; places = sources.none }

-- the streams of a stream: its children, and those that get the rest
pub record Below : Type 0 where
  pub children : Located
  pub otherwise : Located

abbrev pub nothing : Below
nothing = record { children = nowhere; otherwise = nowhere }

-- a stream with its place, or the streams that get the rest
pub data Part : Type 0 where
  One : StreamTree → SourceTree → Part
  Rest : Located → Part

abbrev pub with_stream : StreamTrees → StreamTree → StreamTrees
with_stream plan.none one = plan.also one plan.none
with_stream (plan.also first streams) one = plan.also first (with_stream streams one)

abbrev pub with_one : Located → StreamTree → SourceTree → Located
with_one located one place =
    record { streams = with_stream located.streams one; places = with_source located.places place }

abbrev pub stream_of : KindTree → ℕ → Below → Part
stream_of kind start below =
    One (stream kind below.children.streams below.otherwise.streams)
    (source start below.children.places below.otherwise.places)

-- ---- the forms after a stream's own arguments

-- each form, by its place, and what it is in the place of a stream
abbrev pub Readings : Type 0
Readings = List (ℕ × Result Part Fault)

-- the place of the next form
abbrev pub next_place : Readings → Option ℕ
next_place [] = None
next_place (reading ∷ readings) = Some reading.0

abbrev pub with_child : Below → StreamTree → SourceTree → Below
with_child below one place = record { children = with_one below.children one place; otherwise = below.otherwise }

-- nothing may follow the streams that get the rest
abbrev pub ended : Below → Option ℕ → Result Below Fault
ended below None = Ok below
ended below (Some place) = Err (place, why.Arguments)

abbrev pub with_part : Below → Part → Option ℕ → Result Below Fault
with_part below (One one place) next = Ok (with_child below one place)
with_part below (Rest located) next = ended (record { children = below.children; otherwise = located }) next

unfoldable pub all_read : Below → Readings → Result Below Fault
all_read below [] = Ok below
all_read below (reading ∷ readings) =
    reading.1 >>= λ part.
    with_part below part (next_place readings) >>= λ more.
    all_read more readings

-- ---- a stream

abbrev pub is_where : StreamWord → Bool
is_where word.Where = true
is_where _ = false

abbrev pub is_where_in : Option StreamWord → Bool
is_where_in None = false
is_where_in (Some one) = is_where one

abbrev pub is_by : StreamWord → Bool
is_by word.By = true
is_by _ = false

abbrev pub is_by_in : Option StreamWord → Bool
is_by_in None = false
is_by_in (Some one) = is_by one

-- a symbol is the stream `index`, by that word or as its value
abbrev pub symbol_by : Option Bound → List ℕ → ℕ → Result Part Fault
symbol_by None name start =
    if bytes_eq name (stream_text word.Index)
    then Ok (One (stream plan.Index plan.none plan.none) (source start sources.none sources.none))
    else Err (start, why.Name)
symbol_by (Some bound.Index) name start =
    Ok (One (stream plan.Index plan.none plan.none) (source start sources.none sources.none))
symbol_by (Some _) name start = Err (start, why.Form)

-- a stream of the kind at the place; what has no streams has no more arguments than its own
abbrev pub followed : KindTree → ℕ → ℕ → FormTrees → Readings → Result Part Fault
followed kind start own forms readings =
    if may_have_children kind
    then (all_read nothing (drop own readings) >>= λ below. Ok (stream_of kind start below))
    else (at_most own forms >>= λ over. Ok (stream_of kind start nothing))

-- the streams that get the rest
abbrev pub rest_of : Readings → Result Part Fault
rest_of readings = all_read nothing readings >>= λ below. Ok (Rest below.children)

-- What a list of the name gives: a stream of this word, or the streams that get the rest. The truth values say whether
-- `else` may be there, and whether the form is below a `by`.
unfoldable pub worded : Bool → Bool → Env → List ℕ → Option StreamWord → ℕ → FormTrees → Readings → Result Part Fault
worded may_else in_fork env name None start forms readings =
    if may_else && bytes_eq name else_text then rest_of readings else Err (start, why.Form)
worded may_else in_fork env name (Some one) start forms readings =
    read (row_of in_fork one) env start 0 forms >>= λ found. followed found.0 start found.1 forms readings

-- what a form is in the place of a stream, and the same of each of some forms
unfoldable mutual
  pub part_at : Bool → Bool → Env → FormTree → Result Part Fault
  part_at may_else in_fork env (Single (form.Symbol name) start last) = symbol_by (bound_value name env) name start
  part_at may_else in_fork env (Group Round (also (Single (form.Symbol name) begin end) forms) start last) =
      worded may_else in_fork env name (stream_word name) start forms
      (parts_in (is_where_in (stream_word name)) (is_by_in (stream_word name) || in_fork) env forms)
  part_at may_else in_fork env f = Err (start_of f, why.Form)

  pub parts_in : Bool → Bool → Env → FormTrees → Readings
  parts_in may_else in_fork env none = []
  parts_in may_else in_fork env (also f forms) =
      (start_of f, part_at may_else in_fork env f) ∷ parts_in may_else in_fork env forms
