use Rattle.std.proofs.Common.{length}
use Rattle.packed_event.specs.Reading.{text_part}
use Rattle.packed_event.proofs.Loops.{Skips}
use Rattle.packed_event.proofs.repeated.after_tags.Given as goal

abbrev pub invariant-each : goal.invariant-each
invariant-each l = Skips 58 text_part l.bytes l.rest

abbrev pub decreases-each : goal.decreases-each
decreases-each l = length l.rest
