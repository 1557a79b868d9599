use Rattle.std.proofs.Common.{length}
use Rattle.packed_event.specs.Reading.{bytes_part}
use Rattle.packed_event.proofs.Loops.{Skips}
use Rattle.packed_event.proofs.repeated.after_all.Given as goal

abbrev pub invariant-each : goal.invariant-each
invariant-each l = Skips l.tag bytes_part l.bytes l.rest

abbrev pub decreases-each : goal.decreases-each
decreases-each l = length l.rest
