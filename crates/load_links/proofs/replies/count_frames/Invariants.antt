use Rattle.std.proofs.Common.{◌≡◌, ◌+◌, ◌≤◌, length}
use Rattle.framing.specs.Frames.{frames_of}
use Rattle.load_links.proofs.replies.count_frames.Given as goal

abbrev pub invariant-frames : goal.invariant-frames
invariant-frames l =
    (l.count + length (frames_of l.rest) ≡ length (frames_of l.bytes)) × (l.count + length l.rest ≤ length l.bytes)

abbrev pub decreases-frames : goal.decreases-frames
decreases-frames l = length l.rest
