use Rattle.std.proofs.Common.{refl, sym, true}
use Rattle.hub_link.proofs.LinkLaws.{opens}
use Rattle.hub_link.proofs.link.HubLink.open.Goals as goal

pub returns-clause-represents : goal.returns-clause-represents
returns-clause-represents c links room =
    opens _ c.args.number true links refl refl refl c.fresh.ensures c.fresh-2.ensures (sym room)
