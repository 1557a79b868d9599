use Rattle.std.proofs.Common.{◌≡◌, ◌++◌}
use Rattle.live_index.proofs.slots.push_all.Given as goal

abbrev pub invariant-loop-keyed : goal.invariant-loop-keyed
invariant-loop-keyed l = l.out ≡ l.fn.out ++ l.yielded
