use Rattle.std.proofs.Common.{◌≡◌}
use Rattle.std.specs.List.{flat_map}
use Rattle.tick_schedule.specs.Lists.{ids_of}
use Rattle.tick_schedule.specs.Numbers.{lists_of}
use Rattle.tick_schedule.proofs.due_lists.listed_at.Given as goal

abbrev pub invariant-loop-moment : goal.invariant-loop-moment
invariant-loop-moment l = l.ids.items ≡ flat_map (ids_of (lists_of l.fn.numbers.entries l.fn.lists.slots)) l.yielded
