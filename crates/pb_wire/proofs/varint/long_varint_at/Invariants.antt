use Rattle.pb_wire.proofs.LoopLaws.{HasRead}
use Rattle.pb_wire.proofs.varint.long_varint_at.Given as goal

abbrev pub invariant-loop-i : goal.invariant-loop-i
invariant-loop-i l = HasRead l.bytes l.i l.value l.unit
