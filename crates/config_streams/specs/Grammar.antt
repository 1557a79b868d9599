-- The grammar of streams, as a relation: which forms, apart from their places, represent which streams. Words, their
-- arguments and their kinds are in the table. That a stream takes what comes to it, and how many streams there are, is
-- said of whole plans (`stream_plan`).
use Rattle.std.specs.Prelude.{◌≡◌, ℕ, Bool, true, false, ◌||◌, List, [], ◌∷◌, codes, Some, None, Ok}
use Rattle.sexp_read.specs.Tree.{FormTrees}
use Rattle.sexp_read.specs.Written.{BareTree, BareTrees, no_trees, and_trees, bare_trees, listed}
use Rattle.stream_plan.specs.Kinds.{may_have_children}
use Rattle.stream_plan.specs.Tree.{KindTree, StreamTree, stream, StreamTrees, none, also}
use Rattle.stream_plan.specs.Tree as kind
use Rattle.config_terms.specs.declared.binding.Bound.TheVariants as bound
use Rattle.config_terms.specs.declared.word.StreamWord.{StreamWord}
use Rattle.config_terms.specs.declared.word.StreamWord.TheVariants as word
use Rattle.config_terms.specs.Words.{stream_text, else_text}
use Rattle.config_terms.specs.Arguments.{Env, bound_value}
use Rattle.config_terms.specs.Grammar.{symbol, worded}
use Rattle.config_streams.specs.Table.{row_of, Matches}
use Rattle.config_streams.specs.Streams.{Below, is_by, parts_in, all_read}

-- forms, and others after them
abbrev pub and_then : BareTrees → BareTrees → BareTrees
and_then no_trees others = others
and_then (and_trees form forms) others = and_trees form (and_then forms others)

abbrev pub else_row : BareTrees → BareTrees
else_row rest = listed (worded else_text rest ∷ [])

-- the truth value says whether it is below a `by`
mutual
  pub data IsStream : Bool → Env → BareTree → StreamTree → Type 0 where
    index_word : {in_fork : Bool} {env : Env} → bound_value (codes "index") env ≡ None
        → IsStream in_fork env (symbol (codes "index")) (stream kind.Index none none)
    index_name : {in_fork : Bool} {env : Env} {name : List ℕ} → bound_value name env ≡ Some bound.Index
        → IsStream in_fork env (symbol name) (stream kind.Index none none)
    -- nothing follows the arguments of what may have no streams
    ending : {in_fork : Bool} {env : Env} {row : BareTrees} {one : KindTree} → (from : StreamWord)
        → Matches env (row_of in_fork from) row one no_trees → may_have_children one ≡ false
        → IsStream in_fork env (worded (stream_text from) row) (stream one none none)
    passing : {in_fork : Bool} {env : Env} {row forms : BareTrees} {one : KindTree} {children : StreamTrees}
        → (from : StreamWord) → Matches env (row_of in_fork from) row one forms
        → may_have_children one ≡ true → AreStreams (is_by from || in_fork) env forms children
        → IsStream in_fork env (worded (stream_text from) row) (stream one children none)
    -- `else` comes last
    where_else : {in_fork : Bool} {env : Env} {row forms rest : BareTrees} {one : KindTree}
        {children otherwise : StreamTrees}
        → Matches env (row_of in_fork word.Where) row one (and_then forms (else_row rest))
        → may_have_children one ≡ true → AreStreams in_fork env forms children → AreStreams in_fork env rest otherwise
        → IsStream in_fork env (worded (codes "where") row) (stream one children otherwise)

  -- streams in a row
  pub data AreStreams : Bool → Env → BareTrees → StreamTrees → Type 0 where
    no_streams : {in_fork : Bool} {env : Env} → AreStreams in_fork env no_trees none
    more_streams : {in_fork : Bool} {env : Env} {form : BareTree} {forms : BareTrees} {one : StreamTree}
        {streams : StreamTrees} → IsStream in_fork env form one → AreStreams in_fork env forms streams
        → AreStreams in_fork env (and_trees form forms) (also one streams)

-- ---- what is read

-- streams, and others after them
abbrev pub with_streams : StreamTrees → StreamTrees → StreamTrees
with_streams none others = others
with_streams (also one streams) others = also one (with_streams streams others)

-- the streams came after those that there were
pub record IsGrown (before : Below) (streams : StreamTrees) (below : Below) : Type 0 where
  pub children : below.children.streams ≡ with_streams before.children.streams streams
  pub otherwise : below.otherwise ≡ before.otherwise

-- forms that are streams are read as these
pub record AreReadAs (env : Env) (before : Below) (forms : FormTrees) (streams : StreamTrees) : Type 0 where
  pub below : Below
  pub read : all_read before (parts_in false false env forms) ≡ Ok below
  pub grown : IsGrown before streams below

-- forms that are read are streams, which are those that were read
pub record AreThose (env : Env) (before : Below) (forms : FormTrees) (below : Below) : Type 0 where
  pub streams : StreamTrees
  pub are : AreStreams false env (bare_trees forms) streams
  pub grown : IsGrown before streams below

abbrev pub StreamsAreRead : Type 0
StreamsAreRead =
    (env : Env) (before : Below) (forms : FormTrees) (streams : StreamTrees)
    → AreStreams false env (bare_trees forms) streams → AreReadAs env before forms streams

abbrev pub OnlyStreamsAreRead : Type 0
OnlyStreamsAreRead =
    (env : Env) (before : Below) (forms : FormTrees) (below : Below)
    → all_read before (parts_in false false env forms) ≡ Ok below → AreThose env before forms below
