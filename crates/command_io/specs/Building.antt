-- What is known of a plan whose patterns were built, or were not.
use Rattle.std.specs.Prelude.{◌≡◌, ℕ, List, [], ◌∷◌, ◌++◌, slice_get, Some, Result, Ok, Err}
use Rattle.std.specs.Option.{option_map}
use Rattle.hub_meaning.specs.Verdicts.{PatternsReport}
use Rattle.ports.specs.Counts.{Rose}
use Rattle.pred_eval.specs.Search.{AreReadFrom}
use Rattle.pred_eval.specs.declared.patterns.BuildFault.{BuildFault}
use Rattle.pred_eval.specs.declared.patterns.BuildFault.TheVariants.{Pattern, Memory}
use Rattle.regex.specs.declared.string.regex.Regex.{Regex}
use Rattle.stream_plan.specs.Ready.{plan_patterns}
use Rattle.stream_plan.specs.Tree.{StreamTrees}

-- there are the regular expressions that the patterns of the plan are the texts of
abbrev pub AreBuilt : StreamTrees → Type 0
AreBuilt plan = (regexes : List Regex) × AreReadFrom (plan_patterns plan) regexes

-- the pattern of this number of these was refused: it is reported, and counted
pub record IsRefusedPattern (texts : List (List ℕ)) (number : ℕ) (old new : PatternsReport) : Type 0 where
  pub pattern : List ℕ
  pub numbered : slice_get texts number ≡ Some pattern
  pub reported : new.refused ≡ option_map (λ refused. refused ++ pattern ∷ []) old.refused
  pub rose : Rose old.refusals new.refusals

-- the plan with its patterns, or why they were not built
abbrev pub BuildsPlan : StreamTrees → PatternsReport → PatternsReport → Result StreamTrees BuildFault → Type 0
BuildsPlan plan old new (Ok ready) = (ready ≡ plan) × AreBuilt plan × (new ≡ old)
BuildsPlan plan old new (Err (Pattern number)) = IsRefusedPattern (plan_patterns plan) number old new
BuildsPlan plan old new (Err Memory) = new ≡ old
