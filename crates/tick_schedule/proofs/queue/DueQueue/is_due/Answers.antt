use Rattle.std.proofs.Common.{ap, subst, ◌∙◌, sym}
use Rattle.tick_schedule.specs.Moments.{moments_from}
use Rattle.tick_schedule.specs.Queue.{IsRising, due_ids}
use Rattle.tick_schedule.proofs.MomentLaws.{rising}
use Rattle.tick_schedule.proofs.ScheduleLaws.{next-first, none_due, some_due, never_due}
use Rattle.tick_schedule.proofs.queue.DueQueue.is_due.Goals as goal

pub returns-in-Some-clause-none : goal.returns-in-Some-clause-none
returns-in-Some-clause-none c late =
    ap (due_ids c.args.now) (sym c.self.view_is)
    ∙ none_due c.args.now c.in-Some.next (moments_from 0 c.self.inside.places) c.first.result c.in-Some.is
    (next-first c.self.inside.places c.self.inside.lists c.first.result c.self.invariant c.first.ensures) late

pub returns-in-Some-clause-some : goal.returns-in-Some-clause-some
returns-in-Some-clause-some c due none =
    some_due c.args.now c.in-Some.next (moments_from 0 c.self.inside.places) c.first.result c.in-Some.is
    (next-first c.self.inside.places c.self.inside.lists c.first.result c.self.invariant c.first.ensures) due
    (ap (due_ids c.args.now) c.self.view_is ∙ none)

pub returns-in-Some-clause-rising : goal.returns-in-Some-clause-rising
returns-in-Some-clause-rising c = subst IsRising c.self.view_is (rising c.self.inside.places)

pub returns-in-None-clause-none : goal.returns-in-None-clause-none
returns-in-None-clause-none c same =
    ap (due_ids c.args.now) (sym c.self.view_is)
    ∙ never_due c.args.now (moments_from 0 c.self.inside.places) c.first.result c.in-None.is
    (next-first c.self.inside.places c.self.inside.lists c.first.result c.self.invariant c.first.ensures)

pub returns-in-None-clause-rising : goal.returns-in-None-clause-rising
returns-in-None-clause-rising c = subst IsRising c.self.view_is (rising c.self.inside.places)
