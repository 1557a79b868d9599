use Rattle.riemann_client.specs.Turning.{TurnsFrom}
use Rattle.riemann_client.proofs.SendLaws.{makes_weaken}
use Rattle.riemann_client.proofs.TurnLaws.{turn_noted}
use Rattle.riemann_client.proofs.client.Client.turn.Goals as goal

pub returns-clause-turns : goal.returns-clause-turns
returns-clause-turns g c =
    makes_weaken (g.L.Links.report c.args.links.now) (g.L.Links.report c.take_turn-progress.new.links)
    (TurnsFrom c.args.turn c.args.piece.now c.args.self.now c.take_turn-progress.new.self c.take_turn-progress.result)
    (TurnsFrom c.args.turn c.args.piece.now c.args.self.now
    (record c.take_turn-progress.new.self { ended = c.is_last-self.result }) c.take_turn-progress.result)
    (turn_noted c.args.self.now c.take_turn-progress.new.self c.args.turn c.args.piece.now c.is_last-self.result
    c.take_turn-progress.result)
    c.take_turn-progress.ensures.turns
