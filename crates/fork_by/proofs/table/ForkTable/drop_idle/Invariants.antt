use Rattle.std.proofs.Common.{◌≡◌, length}
use Rattle.fork_by.specs.Table.{IsTable, kept_forks, later_than}
use Rattle.fork_by.proofs.table.ForkTable.drop_idle.Given as goal

abbrev pub invariant-loop-index : goal.invariant-loop-index
invariant-loop-index g l = record {
  table : IsTable l.initial.self → IsTable l.self;
  same : IsTable l.initial.self
      → later_than l.upto (kept_forks l.self) ≡ later_than l.upto (kept_forks l.initial.self);
}

abbrev pub decreases-loop-index : goal.decreases-loop-index
decreases-loop-index g l = length l.self.labels
