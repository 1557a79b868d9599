use Rattle.std.proofs.Common.{take}
use Rattle.stream_plan.specs.Tree.{list_trees}
use Rattle.stream_tree.specs.Forest.{AllBare}
use Rattle.stream_tree.proofs.bare.are_bare.Given as goal

-- the streams up to the index are bare
abbrev pub invariant-loop-stream : goal.invariant-loop-stream
invariant-loop-stream l = AllBare (list_trees (take l.stream-index l.streams))
