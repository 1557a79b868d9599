use Rattle.std.proofs.Common.{length}
use Rattle.riemann_client.specs.Requests.{IsAsSent}
use Rattle.riemann_client.proofs.AcceptLaws.{SoFarFrom}
use Rattle.riemann_client.proofs.replies.accept_all.Given as goal

abbrev pub invariant-frames : goal.invariant-frames
invariant-frames l = record {
  same : IsAsSent l.initial.requests l.requests;
  so_far : SoFarFrom l.now l.initial.input l.input l.initial.requests l.requests l.initial.replies l.replies;
}

abbrev pub decreases-frames : goal.decreases-frames
decreases-frames l = length l.input.bytes
