use Rattle.stream_tree.specs.Forest.{nodes_of}
use Rattle.stream_tree.proofs.UnseenLaws.{UnseenSoFar}
use Rattle.stream_tree.proofs.unseen.+unseen.Given as goal

-- with what the streams from the index on do, it is what all of them do
abbrev pub invariant-forest_unseen-loop-i : goal.invariant-forest_unseen-loop-i
invariant-forest_unseen-loop-i g l =
    UnseenSoFar l.patterns l.streams (nodes_of l.forest) (g.E.EventFields.event l.event) l.i l.unseen
