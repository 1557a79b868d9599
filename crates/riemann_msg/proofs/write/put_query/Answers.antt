use Rattle.std.proofs.Common.{length}
use Rattle.riemann_msg.specs.Spelling.{query_values, spelled}
use Rattle.riemann_msg.proofs.Spelled.{begins0, begins1, grown2, not_written, query_spelled}
use Rattle.riemann_msg.proofs.write.put_query.Goals as goal

pub returns-in_ok-put_text-clause-ok : goal.returns-in_ok-put_text-clause-ok
unfolding query_values
returns-in_ok-put_text-clause-ok c =
    rw c.in-Some.is (grown2 _ _ _ _ _ _
    (c.in_ok-put_head.ensures.ok (length (spelled (query_values c.in-Some.query))) c.query_len.ensures)
    c.in_ok-put_text.ensures.ok (query_spelled c.in-Some.query))
