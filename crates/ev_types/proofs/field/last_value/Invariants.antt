use Rattle.std.proofs.Common.{◌≡◌, length}
use Rattle.ev_types.specs.Field.{last_attribute}
use Rattle.ev_types.proofs.field.last_value.Given as goal

abbrev pub invariant-loop-attribute : goal.invariant-loop-attribute
invariant-loop-attribute l = last_attribute l.key l.earlier ≡ last_attribute l.key l.attributes

abbrev pub decreases-loop-attribute : goal.decreases-loop-attribute
decreases-loop-attribute l = length l.earlier
