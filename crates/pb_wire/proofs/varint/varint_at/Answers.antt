use Rattle.std.proofs.Common.{arith}
use Rattle.pb_wire.proofs.VarintLaws.{one_byte}
use Rattle.pb_wire.proofs.varint.varint_at.Goals as goal

pub returns-in-0-to-127-clause-read : goal.returns-in-0-to-127-clause-read
returns-in-0-to-127-clause-read c = one_byte _ _ (omega arith) (omega arith) c.from.ensures
