use Rattle.std.proofs.Common.{◌≡◌, ◌++◌}
use Rattle.stream_meaning.specs.Came.{each}
use Rattle.stream_meaning.specs.Emitted.{emitted}
use Rattle.rate_streams.proofs.send.send_each.Given as goal

abbrev pub invariant-loop-event : goal.invariant-loop-event
invariant-loop-event l = l.out ≡ l.fn.out ++ emitted (each l.yielded)
