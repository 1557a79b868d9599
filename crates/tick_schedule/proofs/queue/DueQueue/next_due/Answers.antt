use Rattle.std.proofs.Common.{ℕ, List, subst}
use Rattle.tick_schedule.specs.Queue.{IsNext}
use Rattle.tick_schedule.proofs.ScheduleLaws.{next-first}
use Rattle.tick_schedule.proofs.queue.DueQueue.next_due.Goals as goal

pub returns : goal.returns
returns c =
    let P : List (ℕ × ℕ) → Type 0 = λ queue. IsNext queue c.first.result in
    subst P c.self.view_is
    (next-first c.self.inside.places c.self.inside.lists c.first.result c.self.invariant c.first.ensures)
