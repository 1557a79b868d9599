-- A plan as a plain tree, apart from where it lies in memory. Plans are compared by their trees.
use Rattle.std.specs.Prelude.{ℕ, List, [], ◌∷◌, Option}
use Rattle.ev_types.specs.declared.field.Field.{Field}
use Rattle.ev_types.specs.declared.settings.Fold.{Fold}
use Rattle.ev_types.specs.declared.settings.Set.{Set}
use Rattle.ev_types.specs.declared.value.Value.{Value}
use Rattle.pred_eval.specs.Tree.{Tree, tree_of}
use Rattle.stream_plan.specs.declared.plan.Kind.{Kind}
use Rattle.stream_plan.specs.declared.plan.Kind.TheVariants as code
use Rattle.stream_plan.specs.declared.plan.Plan.{Plan}
use Rattle.stream_plan.specs.declared.plan.Stream.{Stream, Stream', Row_of-Stream, end_of-Stream, more_of-Stream}

pub data KindTree : Type 0 where
  Index : KindTree
  Notice : List ℕ → KindTree
  Sdo : KindTree
  Where : Tree → KindTree
  With : List Set → KindTree
  Default : List Set → KindTree
  Tag : List (List ℕ) → KindTree
  -- the fields, and after how many seconds without an event a fork ends, if one does
  By : List Field → Option ℕ → KindTree
  Changed : Field → Option Value → KindTree
  Runs : ℕ → Field → KindTree
  Throttle : ℕ → ℕ → KindTree
  Rollup : ℕ → ℕ → KindTree
  Batch : ℕ → ℕ → KindTree
  Stable : ℕ → Field → KindTree
  FixedEvent : ℕ → KindTree
  MovingEvent : ℕ → KindTree
  FixedTime : ℕ → KindTree
  MovingTime : ℕ → KindTree
  Coalesce : ℕ → KindTree
  Smap : Fold → KindTree

mutual
  pub data StreamTree : Type 0 where
    stream : KindTree → StreamTrees → StreamTrees → StreamTree

  pub data StreamTrees : Type 0 where
    none : StreamTrees
    also : StreamTree → StreamTrees → StreamTrees

abbrev pub kind_tree : Kind → KindTree
kind_tree code.Index = Index
kind_tree (code.Notice name) = Notice name
kind_tree code.Sdo = Sdo
kind_tree (code.Where rule) = Where (tree_of rule)
kind_tree (code.With sets) = With sets
kind_tree (code.Default sets) = Default sets
kind_tree (code.Tag tags) = Tag tags
kind_tree (code.By fields idle) = By fields idle
kind_tree (code.Changed field init) = Changed field init
kind_tree (code.Runs count field) = Runs count field
kind_tree (code.Throttle count secs) = Throttle count secs
kind_tree (code.Rollup count secs) = Rollup count secs
kind_tree (code.Batch count secs) = Batch count secs
kind_tree (code.Stable secs field) = Stable secs field
kind_tree (code.FixedEvent count) = FixedEvent count
kind_tree (code.MovingEvent count) = MovingEvent count
kind_tree (code.FixedTime secs) = FixedTime secs
kind_tree (code.MovingTime secs) = MovingTime secs
kind_tree (code.Coalesce secs) = Coalesce secs
kind_tree (code.Smap fold) = Smap fold

abbrev mutual
  pub stream_tree : Stream → StreamTree
  stream_tree (Stream' kind shape children shape' otherwise) =
      stream (kind_tree kind) (stream_trees children) (stream_trees otherwise)

  pub stream_trees : {m : _} → Row_of-Stream m → StreamTrees
  stream_trees end_of-Stream = none
  stream_trees (more_of-Stream s streams) = also (stream_tree s) (stream_trees streams)

abbrev pub list_trees : List Stream → StreamTrees
list_trees [] = none
list_trees (s ∷ streams) = also (stream_tree s) (list_trees streams)

abbrev pub plan_tree : Plan → StreamTrees
plan_tree plan = list_trees plan.streams.items
