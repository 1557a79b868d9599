use Rattle.std.proofs.Common.{◌-◌, length}
use Rattle.msg_replies.specs.Arriving.{reported}
use Rattle.hub_link.proofs.HearLaws.{SoFar}
use Rattle.hub_link.proofs.frames.answer_frames.Given as goal

abbrev pub invariant-frames : goal.invariant-frames
invariant-frames g l =
    SoFar l.bytes l.taken l.initial.unsent l.unsent l.initial.core l.core
    (g.P.Patterns.report l.initial.patterns)
    (g.P.Patterns.report l.patterns)
    (reported l.initial.notices l.initial.steps.forks) (reported l.notices l.steps.forks)

abbrev pub decreases-frames : goal.decreases-frames
decreases-frames g l = length l.bytes - l.taken
