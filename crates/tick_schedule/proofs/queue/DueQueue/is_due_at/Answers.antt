use Rattle.std.proofs.Common.{sym, ◌∙◌, ap, subst}
use Rattle.tick_schedule.specs.Queue.{moment_at, IsRising}
use Rattle.tick_schedule.proofs.MomentLaws.{held, rising}
use Rattle.tick_schedule.proofs.queue.DueQueue.is_due_at.Goals as goal

pub returns-clause-rising : goal.returns-clause-rising
returns-clause-rising c = subst IsRising c.self.view_is (rising c.self.inside.places)

pub returns-clause-moment : goal.returns-clause-moment
returns-clause-moment c = λ due.
    ap (moment_at c.args.id) (sym c.self.view_is) ∙ held c.args.id c.self.inside.places
    ∙ c.has_moment.ensures.0 due
