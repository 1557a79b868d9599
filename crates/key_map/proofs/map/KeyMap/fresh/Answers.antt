use Rattle.key_map.proofs.RisingLaws.{empty-sections}
use Rattle.key_map.proofs.map.KeyMap.fresh.Goals as goal

pub invariant_of-result : goal.invariant_of-result
invariant_of-result c = empty-sections c.fresh.result c.new.result.entries c.fresh.ensures c.new.ensures.empty
