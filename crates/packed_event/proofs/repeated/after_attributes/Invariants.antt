use Rattle.std.proofs.Common.{length}
use Rattle.packed_event.specs.Reading.{attribute_part}
use Rattle.packed_event.proofs.Loops.{Skips}
use Rattle.packed_event.proofs.repeated.after_attributes.Given as goal

abbrev pub invariant-each : goal.invariant-each
invariant-each l = Skips 74 attribute_part l.bytes l.rest

abbrev pub decreases-each : goal.decreases-each
decreases-each l = length l.rest
