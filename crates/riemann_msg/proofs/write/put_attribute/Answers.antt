use Rattle.std.proofs.Common.{length}
use Rattle.riemann_msg.specs.Spelling.{attribute_values, spelled}
use Rattle.riemann_msg.proofs.Spelled.{attribute_embedded, begins0, begins1, begins2, grown3, not_written}
use Rattle.riemann_msg.proofs.write.put_attribute.Goals as goal

pub returns-clause-ok : goal.returns-clause-ok
returns-clause-ok c =
    grown3 _ _ _ _ _ _ _ _
    (c.in_ok-put_head.ensures.ok (length (spelled (attribute_values c.args.attribute.now))) c.attribute_len.ensures)
    (rw c.as_bytes.ensures.bytes at c.in_ok-put_field.ensures.ok) c.in_ok-put_text.ensures.ok
    (attribute_embedded c.args.attribute.now)
