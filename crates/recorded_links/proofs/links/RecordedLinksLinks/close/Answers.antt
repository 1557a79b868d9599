use Rattle.std.proofs.Common.{sym, ◌∙◌}
use Rattle.recorded_links.specs.Numbers.{first_after}
use Rattle.recorded_links.proofs.StepLaws.{knows_closed, knows_closed_both}
use Rattle.recorded_links.proofs.links.RecordedLinksLinks.close.Goals as goal

pub invariant_of-self-clause-knows : goal.invariant_of-self-clause-knows
invariant_of-self-clause-knows g c =
    knows_closed_both (first_after c.args.self.now.last) c.args.self.now.log c.closed.new.self
    (g.L.Links.report c.args.self.now.inner.now) (g.L.Links.report c.close.new.self) c.args.link c.in-Some.number
    (sym c.inner_number.ensures ∙ c.in-Some.is) c.args.self.now.knows c.close.ensures.adds c.closed.ensures

pub invariant_of-self-in_default-clause-knows : goal.invariant_of-self-in_default-clause-knows
invariant_of-self-in_default-clause-knows g c =
    knows_closed (first_after c.args.self.now.last) c.args.self.now.log c.closed.new.self
    (g.L.Links.report c.args.self.now.inner.now).log c.args.link c.args.self.now.knows c.closed.ensures
