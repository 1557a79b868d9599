use Rattle.std.proofs.Common.{length}
use Rattle.std.specs.Str.{bytes_eq}
use Rattle.packed_event.proofs.Sought.{Seeks}
use Rattle.packed_event.proofs.repeated.has_tag.Given as goal

abbrev pub invariant-each : goal.invariant-each
invariant-each l = Seeks (λ text. bytes_eq text l.wanted) 58 l.bytes l.rest

abbrev pub decreases-each : goal.decreases-each
decreases-each l = length l.rest
