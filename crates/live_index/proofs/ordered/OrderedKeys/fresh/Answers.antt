use Rattle.std.proofs.Common.{sym, subst}
use Rattle.key_map.specs.Keys.{IsRising}
use Rattle.live_index.proofs.SlotsLaws.{none_rise}
use Rattle.live_index.proofs.ordered.OrderedKeys.fresh.Goals as goal

pub invariant_of-result : goal.invariant_of-result
invariant_of-result c = (subst IsRising (sym c.fresh.ensures) none_rise, tt)
