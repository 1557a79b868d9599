use Rattle.std.proofs.Common.{◌≡◌, length, take}
use Rattle.stream_plan.specs.Tree.{list_trees}
use Rattle.stream_tree.specs.Fresh.{ForestIsFresh}
use Rattle.stream_tree.proofs.forest.+fresh.Given as goal

-- there is a node for each of the streams up to the index, and these are fresh
abbrev pub invariant-fresh_forest-loop-stream : goal.invariant-fresh_forest-loop-stream
invariant-fresh_forest-loop-stream l = record {
  many : length l.nodes.items ≡ l.stream-index;
  fresh : ForestIsFresh (list_trees (take l.stream-index l.streams)) l.start l.fn.next l.next l.nodes.items;
}
