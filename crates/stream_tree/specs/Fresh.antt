-- Nodes of streams to which nothing but ticks has come.
use Rattle.std.specs.Prelude.{◌≡◌, ℕ, ◌+◌, ◌≤◌, Bool, List, ◌++◌, length}
use Rattle.list_laws.specs.Counts.{greatest}
use Rattle.stream_plan.specs.Nesting.{EndsOutermost, AllEndOutermost}
use Rattle.stream_plan.specs.Ready.{stream_patterns, plan_patterns}
use Rattle.stream_plan.specs.Tree.{StreamTree, StreamTrees}
use Rattle.stream_meaning.specs.History.{History, begun, TicksAlone}
use Rattle.stream_tree.specs.declared.forest.Node.{Node}
use Rattle.stream_tree.specs.Forest.{IsStreamInRange, AreInRange, NodeRepresents, ForestRepresents}

-- The streams begin at this moment. Their regular expressions begin at this number, and the next number comes after
-- them. In a fork no fork of theirs ends.
pub record ForestIsFresh (streams : StreamTrees) (start first next : ℕ) (nodes : List Node) : Type 0 where
  pub represents : (before after : List (List ℕ)) (in_fork : Bool) (h : History) → TicksAlone h → begun h ≡ start →
      AreInRange streams → AllEndOutermost in_fork streams → length before ≡ first →
      length (before ++ (plan_patterns streams ++ after)) ≤ greatest →
      ForestRepresents (before ++ (plan_patterns streams ++ after)) streams nodes h
  pub following : first + length (plan_patterns streams) ≤ greatest → next ≡ first + length (plan_patterns streams)

pub record NodeIsFresh (s : StreamTree) (start first next : ℕ) (node : Node) : Type 0 where
  pub represents : (before after : List (List ℕ)) (in_fork : Bool) (h : History) → TicksAlone h → begun h ≡ start →
      IsStreamInRange s → EndsOutermost in_fork s → length before ≡ first →
      length (before ++ (stream_patterns s ++ after)) ≤ greatest →
      NodeRepresents (before ++ (stream_patterns s ++ after)) s node h
  pub following : first + length (stream_patterns s) ≤ greatest → next ≡ first + length (stream_patterns s)
