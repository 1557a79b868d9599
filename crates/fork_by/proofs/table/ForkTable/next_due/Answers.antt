use Rattle.std.proofs.Common.{ℕ, List, subst}
use Rattle.tick_schedule.specs.Queue.{IsLeast}
use Rattle.fork_by.proofs.KeptForkLaws.{dues-kept}
use Rattle.fork_by.proofs.table.ForkTable.next_due.Goals as goal

pub returns-clause-kept : goal.returns-clause-kept
returns-clause-kept g c table =
    subst (λ (moments : List ℕ). IsLeast moments c.next_due.result) (dues-kept c.args.self.now table) c.next_due.ensures
