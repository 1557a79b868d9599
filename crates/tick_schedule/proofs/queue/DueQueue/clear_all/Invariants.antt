use Rattle.std.proofs.Common.{◌≡◌, not, filter, map}
use Rattle.std.specs.List.{list_any}
use Rattle.std.specs.Map.Iter.{deref}
use Rattle.std.specs.Ordering.{nat_cmp}
use Rattle.std.specs.BTreeMap.{is_at}
use Rattle.tick_schedule.proofs.queue.DueQueue.clear_all.Given as goal

abbrev pub invariant-loop-id : goal.invariant-loop-id
invariant-loop-id l =
    l.self ≡ filter (λ entry. not (list_any (is_at (nat_cmp entry.0)) (map deref l.yielded))) l.initial.self
