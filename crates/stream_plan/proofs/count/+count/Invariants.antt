use Rattle.std.proofs.Common.{◌≡◌, ◌≤◌, ◌+◌, min, drop, length}
use Rattle.list_laws.specs.Counts.{greatest}
use Rattle.stream_plan.specs.Ready.{plan_patterns}
use Rattle.stream_plan.specs.Tree.{list_trees}
use Rattle.stream_plan.proofs.count.+count.Given as goal

abbrev pub invariant-stream_pattern_count-loop-stream : goal.invariant-stream_pattern_count-loop-stream
invariant-stream_pattern_count-loop-stream l = record {
  counted : min (l.count + length (plan_patterns (list_trees (drop l.stream-index l.streams)))) greatest
      ≡ min (length (plan_patterns (list_trees l.streams))) greatest;
  small : l.count ≤ greatest;
}
