use Rattle.std.proofs.Common.{arith}
use Rattle.riemann_msg.specs.ReadBack.{IsWellFormedAttribute}
use Rattle.std.proofs.lemmas.List.Elements.{AllWithin-more, at_read, recursion_from_All}
use Rattle.packed_event.proofs.well_formed.attributes_are_utf8.Goals as goal

pub loop-attribute-preserved : goal.loop-attribute-preserved
loop-attribute-preserved c =
    AllWithin-more IsWellFormedAttribute c.args.attributes.now 0 c.loop-attribute.attribute-index
    c.loop-attribute.invariant
    (at_read c.args.attributes.now IsWellFormedAttribute c.loop-attribute.attribute-index c.attribute-item.result
    c.loop-attribute-test.true
    c.attribute-item.is
    (record { key = c.as_bytes.ensures.utf8; value = c.text_is_utf8.ensures }))

pub returns : goal.returns
returns c =
    recursion_from_All IsWellFormedAttribute c.args.attributes.now
    (λ k d lt. c.loop-attribute.invariant k d (omega arith) (omega arith))
