use Rattle.std.proofs.Common.{length}
use Rattle.riemann_msg.specs.Spelling.{query_values, spelled}
use Rattle.riemann_msg.proofs.Lengths.{counted_as, query_length}
use Rattle.riemann_msg.proofs.len.query_field_len.Goals as goal

pub returns-in-Some : goal.returns-in-Some
returns-in-Some c =
    rw c.in-Some.is (counted_as c.embedded.result _ _ (query_length c.in-Some.query)
    (c.embedded.ensures (length (spelled (query_values c.in-Some.query))) c.query_len.ensures))
