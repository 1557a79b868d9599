use Rattle.std.proofs.Common.{List, subst}
use Rattle.tick_schedule.specs.Queue.{IsLeast}
use Rattle.fork_by.specs.Labels.{Label, due_moments}
use Rattle.fork_by.specs.Register.{numbers_after}
use Rattle.fork_by.proofs.DueLaws.{next-due}
use Rattle.fork_by.proofs.register.Register.next_due.Goals as goal

pub returns : goal.returns
returns c =
    subst (λ (labels : List Label). IsLeast (due_moments labels) c.next_due.result) c.self.view_is
    (next-due c.self.inside.numbers.entries c.self.inside.slots.items c.self.inside.moments.lists c.self.inside.due
    c.self.inside.next (numbers_after c.self.inside.changes.items) c.self.invariant c.next_due.result
    c.next_due.ensures)
