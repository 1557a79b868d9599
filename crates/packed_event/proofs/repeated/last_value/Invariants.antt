use Rattle.std.proofs.Common.{length, IfSome}
use Rattle.std.specs.Option.{option_copied}
use Rattle.std.specs.Str.{IsUtf8}
use Rattle.packed_event.proofs.Sought.{Latest}
use Rattle.packed_event.proofs.repeated.last_value.Given as goal

abbrev pub invariant-each : goal.invariant-each
invariant-each l = Latest l.key 74 l.bytes l.rest (option_copied l.last) × IfSome l.last (λ text. IsUtf8 text.now)

abbrev pub decreases-each : goal.decreases-each
decreases-each l = length l.rest
