use Rattle.std.proofs.Common.{length, take}
use Rattle.riemann_msg.specs.Spelling.{Counts, repeated, spelled, attribute_content}
use Rattle.riemann_msg.proofs.len.attributes_len.Given as goal

abbrev pub invariant-loop-attribute : goal.invariant-loop-attribute
invariant-loop-attribute l =
    Counts l.len (length (spelled (repeated 9 attribute_content (take l.attribute-index l.attributes))))
