use Rattle.stream_tree.specs.Forest.{nodes_of}
use Rattle.stream_tree.proofs.NextLaws.{DueSoFar}
use Rattle.stream_tree.proofs.next.+next.Given as goal

-- the moment is the least of the streams up to the index
abbrev pub invariant-forest_due-loop-i : goal.invariant-forest_due-loop-i
invariant-forest_due-loop-i l = DueSoFar l.streams (nodes_of l.forest) l.i l.due
