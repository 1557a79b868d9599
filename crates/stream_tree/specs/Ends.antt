-- The ends of forks, as the code sees them.
use Rattle.std.specs.Prelude.{ℕ, ◌+◌, Bool, false, not, nat_le, List, filter, Option, Some, None}
use Rattle.fork_by.specs.Table.{KeptFork}
use Rattle.stream_plan.specs.Tree.{KindTree, By}
use Rattle.stream_tree.specs.declared.forest.Forest.{Forest}

-- after how many seconds without an item forks of the kind end, if they do
abbrev pub idle_by : KindTree → Option ℕ
idle_by (By fields idle) = idle
idle_by kind = None

-- at this moment so many seconds have passed since the last item
abbrev pub has_ended : Option ℕ → ℕ → ℕ → Bool
has_ended None now last = false
has_ended (Some secs) now last = nat_le (last + secs) now

-- the forks that have not ended
abbrev pub not_ended : Option ℕ → ℕ → List (KeptFork Forest) → List (KeptFork Forest)
not_ended idle now kept = filter (λ fork. not (has_ended idle now fork.moment)) kept
