use Rattle.std.proofs.Common.{◌≡◌, drop}
use Rattle.stream_plan.specs.Tree.{list_trees}
use Rattle.key_laws.specs.Apart.{plan_apart}
use Rattle.key_laws.proofs.apart.+apart.Given as goal

abbrev pub invariant-plan_apart-loop-stream : goal.invariant-plan_apart-loop-stream
invariant-plan_apart-loop-stream l =
    plan_apart l.fields (list_trees (drop l.stream-index l.streams)) ≡ plan_apart l.fields (list_trees l.streams)
