use Rattle.hub_link.specs.Sending.{sendable}
use Rattle.hub_link.proofs.LoopLaws.{SentSoFar}
use Rattle.hub_link.proofs.link.HubLink.send_all.Given as goal

abbrev pub invariant-sends : goal.invariant-sends
invariant-sends g l =
    SentSoFar (g.L.Links.report l.initial.links) (g.L.Links.report l.links) l.initial.self l.self

abbrev pub decreases-sends : goal.decreases-sends
decreases-sends g l = sendable l.self
