use Rattle.std.proofs.Common.{◌≡◌, List, map, take}
use Rattle.event_core.specs.Core.{Represents, now_of}
use Rattle.stream_meaning.specs.Arrivals.{Arrival, Post}
use Rattle.msg_replies.specs.Arriving.{Arrives, reported}
use Rattle.msg_replies.proofs.replies.post_plain.Given as goal

abbrev pub invariant-loop-event : goal.invariant-loop-event
invariant-loop-event g l =
    (now_of l.core ≡ now_of l.fn.core)
    × ((arrivals : List Arrival) → Represents l.fn.core arrivals
    → Arrives l.fn.core l.core arrivals (map Post (take l.event-index l.events))
    (reported l.fn.notices l.fn.steps.forks) (reported l.notices l.steps.forks))
