use Rattle.std.proofs.Common.{◌≡◌, length}
use Rattle.std.specs.Cmp.Lexicographic.{pointwise}
use Rattle.stream_tests.specs.Same.{same_event}
use Rattle.stream_tests.proofs.same.same_events.Given as goal

abbrev pub invariant-events : goal.invariant-events
invariant-events l = pointwise same_event l.left l.right ≡ pointwise same_event l.a l.b

abbrev pub decreases-events : goal.decreases-events
decreases-events l = length l.left
