use Rattle.pb_wire.specs.Spelling.{Four}
use Rattle.riemann_msg.specs.Ttl.{bits_of}
use Rattle.riemann_msg.proofs.Spelled.{put_some}
use Rattle.riemann_msg.proofs.write.put_ttl.Goals as goal

pub returns-in-Some-clause-ok : goal.returns-in-Some-clause-ok
returns-in-Some-clause-ok c =
    put_some c.put_field.result 8 (λ ttl. Four (bits_of ttl)) c.in-Some.ttl c.args.ttl c.args.out.now
    c.put_field.new.out c.in-Some.is (rw c.bits_of_ttl.ensures.bits at c.put_field.ensures.ok)
