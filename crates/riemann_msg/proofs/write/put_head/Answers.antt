use Rattle.std.proofs.Common.{◌≡◌, ◌++◌, ℕ, subst}
use Rattle.pb_wire.specs.Spelling.{bytes_head}
use Rattle.riemann_msg.proofs.Spelled.{begins0, not_written, prefix_same}
use Rattle.riemann_msg.proofs.write.put_head.Goals as goal

pub returns-clause-ok : goal.returns-clause-ok
returns-clause-ok c = λ n counted.
    let is : c.in_ok-len.len ≡ n = rw c.in_ok-len.was at counted in
    subst (λ (k : ℕ). c.put_tag_and_length.new.out ≡ c.args.out.now ++ bytes_head c.args.number k) is
    c.in_ok-put_tag_and_length.ensures.ok
