use Rattle.std.proofs.Common.{[], ◌∷◌, ap, subst, sym}
use Rattle.ports.specs.declared.entry.Entry.TheVariants.{Close}
use Rattle.riemann_client.specs.Client.{IsUnclosed}
use Rattle.riemann_client.specs.Turning.{closing}
use Rattle.riemann_client.proofs.client.Client.close_link.Goals as goal

pub close-requires : goal.close-requires
close-requires g c = subst (IsUnclosed (g.L.Links.report c.args.links.now).log) c.in-Some.is c.requires

pub returns : goal.returns
returns g c = record {
  run = Close c.in-Some.link ∷ [];
  grew = c.close.ensures.adds;
  no_fault = c.close.ensures.no_fault;
  holds = sym (ap closing c.in-Some.is);
}
