use Rattle.std.proofs.Common.{◌≡◌, ◌+◌, ◌++◌, length, map}
use Rattle.std.specs.Map.Iter.{deref}
use Rattle.tick_schedule.proofs.queue.push_all.Given as goal

abbrev pub invariant-loop-id : goal.invariant-loop-id
invariant-loop-id g l = record {
  out : l.out ≡ l.initial.out ++ map deref l.yielded;
  entries : l.steps.entries ≡ l.initial.steps.entries + length l.yielded;
  forks : l.steps.forks ≡ l.initial.steps.forks;
  began : l.steps.began ≡ l.initial.steps.began;
}
