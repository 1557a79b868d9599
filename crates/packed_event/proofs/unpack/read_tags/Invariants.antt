use Rattle.std.proofs.Common.{length}
use Rattle.packed_event.specs.Reading.{text_part}
use Rattle.packed_event.proofs.Taken.{Takes}
use Rattle.packed_event.proofs.unpack.read_tags.Given as goal

abbrev pub invariant-each : goal.invariant-each
invariant-each l = Takes 58 text_part l.bytes l.fn.tags l.rest l.tags

abbrev pub decreases-each : goal.decreases-each
decreases-each l = length l.rest
