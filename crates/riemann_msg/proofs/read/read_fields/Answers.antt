use Rattle.std.proofs.Common.{refl, arith}
use Rattle.pb_wire.specs.Fields.{fields_of, fields_fault}
use Rattle.riemann_msg.proofs.read.read_fields.Goals as goal

pub fields-init : goal.fields-init
unfolding fields_of fields_fault
fields-init g c = rw c.over-fields.ensures (record { bytes = refl; inside = omega arith; fault = refl; draft = refl })
