use Rattle.std.proofs.Common.{◌≡◌, ◌++◌, take}
use Rattle.ev_types.specs.Set.{other_attributes}
use Rattle.ev_types.proofs.change.add_others.Given as goal

abbrev pub invariant-loop-attribute : goal.invariant-loop-attribute
invariant-loop-attribute l = l.others ≡ l.fn.others ++ other_attributes l.key (take l.attribute-index l.attributes)
