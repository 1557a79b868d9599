use Rattle.std.proofs.Common.{◌≡◌, ◌+◌, ◌≤◌, ◌++◌, filter, length, take}
use Rattle.pred_eval.specs.Truth.{holds}
use Rattle.live_index.specs.Index.{events_lent}
use Rattle.live_index.specs.Slots.{events_at}
use Rattle.live_index.proofs.slots.find_at.Given as goal

abbrev pub invariant-loop-number : goal.invariant-loop-number
invariant-loop-number g l = record {
  same : l.pred ≡ l.fn.pred;
  found : events_lent l.found.items
      ≡ events_lent l.fn.found.items
      ++ filter (holds l.fn.pred) (events_at l.events.values (take l.number-index l.numbers));
  few : length (filter (holds l.fn.pred) (events_at l.events.values (take l.number-index l.numbers))) ≤ l.limit;
  forks : l.steps.forks ≡ l.fn.steps.forks;
  entries : l.steps.entries ≡ l.fn.steps.entries + l.number-index;
  began : l.steps.began ≡ l.fn.steps.began;
}
