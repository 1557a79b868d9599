-- The regular expressions of a plan.
use Rattle.std.specs.Prelude.{◌≡◌, ℕ, List, [], ◌++◌, None}
use Rattle.regex.specs.declared.string.regex.Regex.{Regex}
use Rattle.pred_eval.specs.Search.{AreReadFrom}
use Rattle.pred_eval.specs.Truth.{searches}
use Rattle.stream_plan.specs.Faults.{first_fault}
use Rattle.stream_plan.specs.Tree.{KindTree, Where, StreamTree, stream, StreamTrees, none, also}

abbrev pub kind_patterns : KindTree → List (List ℕ)
kind_patterns (Where rule) = searches rule
kind_patterns _ = []

-- their texts, those of each stream before those of the streams below it, its children before the others that follow it
unfoldable mutual
  pub stream_patterns : StreamTree → List (List ℕ)
  stream_patterns (stream kind children otherwise) =
      kind_patterns kind ++ (plan_patterns children ++ plan_patterns otherwise)

  pub plan_patterns : StreamTrees → List (List ℕ)
  plan_patterns none = []
  plan_patterns (also s streams) = stream_patterns s ++ plan_patterns streams

-- the plan has no fault, and its regular expressions are these, in the order of their texts
pub record IsReady (streams : StreamTrees) (patterns : List Regex) : Type 0 where
  pub faultless : first_fault streams ≡ None
  pub built : AreReadFrom (plan_patterns streams) patterns
