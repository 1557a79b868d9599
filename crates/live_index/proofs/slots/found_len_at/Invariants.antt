use Rattle.std.proofs.Common.{◌≡◌, ◌+◌, filter, take}
use Rattle.pred_eval.specs.Truth.{holds}
use Rattle.live_index.specs.Index.{reply_len}
use Rattle.live_index.specs.Slots.{events_at}
use Rattle.live_index.proofs.slots.found_len_at.Given as goal

abbrev pub invariant-loop-number : goal.invariant-loop-number
invariant-loop-number g l = record {
  same : l.pred ≡ l.fn.pred;
  events : l.events.values ≡ l.fn.events.values;
  len : l.len ≡ reply_len (filter (holds l.fn.pred) (events_at l.fn.events.values (take l.number-index l.numbers)));
  forks : l.steps.forks ≡ l.fn.steps.forks;
  entries : l.steps.entries ≡ l.fn.steps.entries + l.number-index;
  began : l.steps.began ≡ l.fn.steps.began;
}
