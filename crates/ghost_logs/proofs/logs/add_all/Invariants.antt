use Rattle.std.proofs.Common.{◌≡◌, ◌++◌, take}
use Rattle.ghost_logs.specs.Logs.{first_of_each}
use Rattle.ghost_logs.proofs.logs.add_all.Given as goal

abbrev pub invariant-loop-byte : goal.invariant-loop-byte
invariant-loop-byte l = first_of_each l.log.items ≡ first_of_each l.initial.log.items ++ take l.byte-index l.bytes
