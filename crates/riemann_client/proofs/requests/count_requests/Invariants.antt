use Rattle.std.proofs.Common.{length}
use Rattle.riemann_client.proofs.RequestLaws.{CountedSoFar}
use Rattle.riemann_client.proofs.requests.count_requests.Given as goal

abbrev pub invariant-frames : goal.invariant-frames
invariant-frames l = CountedSoFar l.fn.frames l.rest l.requests

abbrev pub decreases-frames : goal.decreases-frames
decreases-frames l = length l.rest
