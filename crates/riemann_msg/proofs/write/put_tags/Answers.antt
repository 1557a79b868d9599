use Rattle.riemann_msg.proofs.Spelled.{begins1, grown2, next_tag, not_written}
use Rattle.riemann_msg.proofs.write.put_tags.Goals as goal

pub loop-tag-preserved : goal.loop-tag-preserved
loop-tag-preserved c =
    grown2 _ _ _ _ _ _ c.loop-tag.invariant (rw c.as_bytes.ensures.bytes at c.in_ok-put_field.ensures.ok)
    (next_tag c.args.tags.now c.loop-tag.tag-index c.tag-item.result c.loop-tag-test.true c.tag-item.is)
