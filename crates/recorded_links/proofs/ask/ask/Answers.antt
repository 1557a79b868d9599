use Rattle.std.proofs.Common.{◌≡◌, rules}
use Rattle.recorded_links.specs.Numbers.{first_after, inner_wants}
use Rattle.recorded_links.proofs.StepLaws.{asked_so}
use Rattle.recorded_links.proofs.ask.ask.Goals as goal

pub returns-clause-asks : goal.returns-clause-asks
returns-clause-asks g c =
    let kept : c.fill_wants.new.kept ≡ inner_wants (first_after c.args.last) c.args.wants.now = search rules in
    asked_so (first_after c.args.last) (g.L.Links.report c.args.inner.now)
    (g.L.Links.report c.next-turn.new.self) c.args.wants.now c.fill_wants.new.kept c.next-turn.new.buf
    c.next-turn.result c.own_turn.result
    kept c.next-turn.ensures.adds c.next-turn.ensures.cause c.own_turn.ensures.turn
