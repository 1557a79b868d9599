use Rattle.std.proofs.Common.{◌≡◌, List, drop, map, pos, replicate, take}
use Rattle.ev_types.specs.Set.{event_at}
use Rattle.event_core.specs.Core.{Represents, now_of}
use Rattle.stream_meaning.specs.Arrivals.{Arrival, Post}
use Rattle.msg_replies.specs.Arriving.{Arrives, reported}
use Rattle.msg_replies.proofs.replies.post_all.Given as goal

abbrev pub invariant-loop-event : goal.invariant-loop-event
invariant-loop-event g l =
    (now_of l.core ≡ now_of l.fn.core)
    × (drop l.event-index l.events ≡ drop l.event-index l.fn.events)
    × (take l.event-index l.events ≡ replicate l.event-index (event_at (pos 0)))
    × ((arrivals : List Arrival) → Represents l.fn.core arrivals
    → Arrives l.fn.core l.core arrivals (map Post (take l.event-index l.fn.events))
    (reported l.fn.notices l.fn.steps.forks) (reported l.notices l.steps.forks))
