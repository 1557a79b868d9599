use Rattle.pb_wire.specs.Spelling.{Bytes}
use Rattle.riemann_msg.proofs.Spelled.{put_some}
use Rattle.riemann_msg.proofs.write.put_text.Goals as goal

pub returns-in-Some-clause-ok : goal.returns-in-Some-clause-ok
returns-in-Some-clause-ok c =
    put_some c.put_field.result c.args.number Bytes c.in-Some.text c.args.text.now c.args.out.now c.put_field.new.out
    c.in-Some.is (rw c.as_bytes.ensures.bytes at c.put_field.ensures.ok)
