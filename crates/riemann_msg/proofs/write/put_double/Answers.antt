use Rattle.pb_wire.specs.Spelling.{Eight}
use Rattle.riemann_msg.proofs.Spelled.{put_some}
use Rattle.riemann_msg.proofs.write.put_double.Goals as goal

pub returns-in-Some-clause-ok : goal.returns-in-Some-clause-ok
returns-in-Some-clause-ok c =
    put_some c.put_field.result 14 Eight c.in-Some.bits c.args.bits c.args.out.now c.put_field.new.out
    c.in-Some.is c.put_field.ensures.ok
