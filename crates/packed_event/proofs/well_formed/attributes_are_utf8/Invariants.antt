use Rattle.std.specs.List.{AllWithin}
use Rattle.riemann_msg.specs.ReadBack.{IsWellFormedAttribute}
use Rattle.packed_event.proofs.well_formed.attributes_are_utf8.Given as goal

abbrev pub invariant-loop-attribute : goal.invariant-loop-attribute
invariant-loop-attribute l = AllWithin IsWellFormedAttribute l.attributes 0 l.attribute-index
