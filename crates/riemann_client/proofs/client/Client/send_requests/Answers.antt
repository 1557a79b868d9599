use Rattle.riemann_client.specs.Sending.{Sends}
use Rattle.riemann_client.specs.Turning.{GoesOnFrom, SettlesTo}
use Rattle.riemann_client.proofs.SendLaws.{makes_then}
use Rattle.riemann_client.proofs.TurnLaws.{turn_settles}
use Rattle.riemann_client.proofs.client.Client.send_requests.Goals as goal

pub returns-in-Ok-clause-goes_on : goal.returns-in-Ok-clause-goes_on
returns-in-Ok-clause-goes_on g c =
    makes_then (g.L.Links.report c.args.links.now) (g.L.Links.report c.send_all.new.links)
    (g.L.Links.report c.settle.new.links)
    (Sends c.args.self.now c.send_all.new.self) (SettlesTo c.send_all.new.self c.settle.new.self c.settle.result)
    (GoesOnFrom c.args.self.now c.settle.new.self c.settle.result) c.in-Ok.ensures.sends c.settle.ensures.settles
    (λ first second sends settles. turn_settles c.args.self.now c.send_all.new.self c.settle.new.self first second
    c.in-Ok.ensures.keeps sends c.settle.result c.in-Ok.ensures.all settles)
