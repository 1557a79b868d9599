use Rattle.std.proofs.Common.{◌+◌, length, drop}
use Rattle.stream_plan.specs.Faults.{preorder_in}
use Rattle.stream_plan.specs.Search.{Passes}
use Rattle.stream_plan.specs.Tree.{list_trees}
use Rattle.stream_plan.proofs.search.Search.+find.Given as goal

-- the streams up to the index are passed
abbrev pub invariant-find_among-loop-index : goal.invariant-find_among-loop-index
invariant-find_among-loop-index l =
    Passes l.fn.self l.self (preorder_in l.fn.self.path.items (length l.before) l.flow (list_trees l.streams))
    (preorder_in l.fn.self.path.items (length l.before + l.index) l.flow (list_trees (drop l.index l.streams)))
