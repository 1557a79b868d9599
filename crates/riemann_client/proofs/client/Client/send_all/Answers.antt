use Rattle.riemann_client.proofs.LoopLaws.{SentSoFar, sent_more, sent_nothing}
use Rattle.riemann_client.proofs.client.Client.send_all.Goals as goal

pub sends-init : goal.sends-init
sends-init g c = sent_nothing (g.L.Links.report c.args.links.now) c.args.self.now c.requires

pub sends-preserved : goal.sends-preserved
sends-preserved g c =
    sent_more (g.L.Links.report c.args.links.now) (g.L.Links.report c.sends.links) (g.L.Links.report c.send.new.links)
    c.args.self.now c.sends.self c.send.new.self c.sends.invariant
    (record { keeps = c.send.ensures.keeps; known = c.send.ensures.known; sends = c.send.ensures.sends })

pub returns-in_err-send-clause-sends : goal.returns-in_err-send-clause-sends
returns-in_err-send-clause-sends g c =
    let all : SentSoFar (g.L.Links.report c.args.links.now) (g.L.Links.report c.send.new.links) c.args.self.now
    c.send.new.self =
    sent_more (g.L.Links.report c.args.links.now) (g.L.Links.report c.sends.links) (g.L.Links.report c.send.new.links)
    c.args.self.now c.sends.self c.send.new.self c.sends.invariant
    (record { keeps = c.send.ensures.keeps; known = c.send.ensures.known; sends = c.send.ensures.sends }) in
    all.sends
