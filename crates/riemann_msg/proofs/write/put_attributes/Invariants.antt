use Rattle.std.proofs.Common.{◌≡◌, ◌++◌, take}
use Rattle.riemann_msg.specs.Spelling.{repeated, spelled, attribute_content}
use Rattle.riemann_msg.proofs.write.put_attributes.Given as goal

abbrev pub invariant-loop-attribute : goal.invariant-loop-attribute
invariant-loop-attribute l =
    l.out ≡ l.initial.out ++ spelled (repeated 9 attribute_content (take l.attribute-index l.attributes))
