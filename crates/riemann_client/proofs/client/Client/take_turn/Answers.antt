use Rattle.std.proofs.Common.{sym, subst}
use Rattle.riemann_client.specs.Client.{IsUnclosed, link_of}
use Rattle.riemann_client.proofs.KnownLaws.{known_after_turn}
use Rattle.riemann_client.proofs.client.Client.take_turn.Goals as goal

pub send_requests-requires : goal.send_requests-requires
send_requests-requires g c =
    subst (IsUnclosed (g.L.Links.report c.args.links.now).log) (sym c.hear.ensures.link)
    (known_after_turn (g.L.Links.report c.args.links.now).log c.args.turn (link_of c.args.self.now) c.requires.answered
    c.requires.known)

pub close_link-requires : goal.close_link-requires
close_link-requires g c =
    subst (IsUnclosed (g.L.Links.report c.args.links.now).log) (sym c.hear.ensures.link)
    (known_after_turn (g.L.Links.report c.args.links.now).log c.args.turn (link_of c.args.self.now) c.requires.answered
    c.requires.known)
