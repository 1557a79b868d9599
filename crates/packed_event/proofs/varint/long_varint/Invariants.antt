use Rattle.std.proofs.Common.{length}
use Rattle.packed_event.proofs.Loops.{Grown}
use Rattle.packed_event.proofs.varint.long_varint.Given as goal

abbrev pub invariant-digits : goal.invariant-digits
invariant-digits l = Grown l.first l.bytes l.more l.unit l.value l.rest

abbrev pub decreases-digits : goal.decreases-digits
decreases-digits l = length l.rest
