use Rattle.tick_schedule.proofs.ScheduleLaws.{moment-stays}
use Rattle.tick_schedule.proofs.queue.DueQueue.set.Goals as goal

pub returns-then-is_due_at-clause-ok : goal.returns-then-is_due_at-clause-ok
returns-then-is_due_at-clause-ok c = λ other.
    moment-stays c.args.id c.args.due c.args.self.now (c.is_due_at.ensures.moment c.if-is_due_at.true) other
