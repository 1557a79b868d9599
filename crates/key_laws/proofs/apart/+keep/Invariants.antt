use Rattle.std.proofs.Common.{◌≡◌, drop}
use Rattle.stream_plan.specs.Tree.{list_trees}
use Rattle.stream_meaning.specs.Keys.{plan_keeps}
use Rattle.key_laws.proofs.apart.+keep.Given as goal

abbrev pub invariant-plan_keeps-loop-stream : goal.invariant-plan_keeps-loop-stream
invariant-plan_keeps-loop-stream l =
    plan_keeps l.fields (list_trees (drop l.stream-index l.streams)) ≡ plan_keeps l.fields (list_trees l.streams)
