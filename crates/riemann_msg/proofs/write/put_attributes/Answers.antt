use Rattle.riemann_msg.proofs.Spelled.{begins1, grown2, next_attribute, not_written}
use Rattle.riemann_msg.proofs.write.put_attributes.Goals as goal

pub loop-attribute-preserved : goal.loop-attribute-preserved
loop-attribute-preserved c =
    grown2 _ _ _ _ _ _ c.loop-attribute.invariant c.in_ok-put_attribute.ensures.ok
    (next_attribute c.args.attributes.now c.loop-attribute.attribute-index c.attribute-item.result
    c.loop-attribute-test.true c.attribute-item.is)
