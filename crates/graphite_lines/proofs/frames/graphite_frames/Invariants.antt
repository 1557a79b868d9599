use Rattle.std.proofs.Common.{length}
use Rattle.graphite_lines.proofs.Texts.{AreTaken}
use Rattle.graphite_lines.proofs.frames.graphite_frames.Given as goal

abbrev pub invariant-lines : goal.invariant-lines
invariant-lines l = AreTaken l.host_part l.fn.text l.fn.out l.out l.fn.bad l.bad l.number l.left

abbrev pub decreases-lines : goal.decreases-lines
decreases-lines l = length l.left
