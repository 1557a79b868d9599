use Rattle.std.proofs.Common.{refl, ap}
use Rattle.live_index.specs.Slots.{events_in}
use Rattle.live_index.proofs.StoredLaws.{empty-stored}
use Rattle.live_index.proofs.slots.Slots.fresh.Goals as goal

pub returns-clause-stored : goal.returns-clause-stored
returns-clause-stored g c =
    empty-stored c.fresh.result c.fresh-2.result.values c.fresh-3.result 0 c.fresh.ensures c.fresh-2.ensures.values
    c.fresh-3.ensures refl

pub returns-clause-events : goal.returns-clause-events
returns-clause-events g c = ap (λ numbers. events_in numbers c.fresh-2.result.values) c.fresh.ensures
