use Rattle.std.proofs.Common.{◌≡◌, length}
use Rattle.framing.specs.Frames.{partial}
use Rattle.command_files.proofs.left.bytes_left.Given as goal

abbrev pub invariant-frames : goal.invariant-frames
invariant-frames l = partial l.rest ≡ partial l.fn.bytes

abbrev pub decreases-frames : goal.decreases-frames
decreases-frames l = length l.rest
