use Rattle.riemann_client.specs.Sending.{sendable}
use Rattle.riemann_client.proofs.LoopLaws.{SentSoFar}
use Rattle.riemann_client.proofs.client.Client.send_all.Given as goal

abbrev pub invariant-sends : goal.invariant-sends
invariant-sends g l =
    SentSoFar (g.L.Links.report l.initial.links) (g.L.Links.report l.links) l.initial.self l.self

abbrev pub decreases-sends : goal.decreases-sends
decreases-sends g l = sendable l.self
