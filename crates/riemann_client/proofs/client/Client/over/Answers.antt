use Rattle.std.proofs.Common.{refl}
use Rattle.riemann_client.proofs.HearLaws.{represents_begun}
use Rattle.riemann_client.proofs.client.Client.over.Goals as goal

pub returns-clause-represents : goal.returns-clause-represents
returns-clause-represents c =
    represents_begun _ c.args.start c.at.ensures refl refl refl c.over.ensures.taken c.fresh.ensures.nothing
    c.fresh.ensures.goes_on c.fresh-2.ensures c.over.ensures.answered
