use Rattle.std.proofs.Common.{◌≡◌, ◌++◌, take}
use Rattle.ev_types.proofs.event.add_attributes.Given as goal

abbrev pub invariant-loop-attribute : goal.invariant-loop-attribute
invariant-loop-attribute l = l.copied ≡ l.fn.copied ++ take l.attribute-index l.attributes
