use Rattle.std.proofs.Common.{◌≡◌, ◌+◌, ◌++◌, length, map}
use Rattle.std.specs.Map.Iter.{deref}
use Rattle.fork_by.proofs.order.push_all.Given as goal

abbrev pub invariant-loop-number : goal.invariant-loop-number
invariant-loop-number g l = record {
  out : l.out ≡ l.initial.out ++ map deref l.yielded;
  entries : l.steps.entries ≡ l.initial.steps.entries + length l.yielded;
  forks : l.steps.forks ≡ l.initial.steps.forks;
  began : l.steps.began ≡ l.initial.steps.began;
}
