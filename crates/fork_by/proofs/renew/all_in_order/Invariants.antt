use Rattle.std.proofs.Common.{◌≡◌, [], map}
use Rattle.std.specs.Map.Iter.{deref}
use Rattle.fork_by.specs.Order.{put_all}
use Rattle.fork_by.proofs.renew.all_in_order.Given as goal

abbrev pub invariant-loop-number : goal.invariant-loop-number
invariant-loop-number l = l.map.entries ≡ put_all l.slots.items [] (map deref l.yielded)
