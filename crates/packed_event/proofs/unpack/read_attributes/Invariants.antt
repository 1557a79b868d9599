use Rattle.std.proofs.Common.{length}
use Rattle.packed_event.specs.Reading.{attribute_part}
use Rattle.packed_event.proofs.Taken.{Takes}
use Rattle.packed_event.proofs.unpack.read_attributes.Given as goal

abbrev pub invariant-each : goal.invariant-each
invariant-each l = Takes 74 attribute_part l.bytes l.fn.attributes l.rest l.attributes

abbrev pub decreases-each : goal.decreases-each
decreases-each l = length l.rest
