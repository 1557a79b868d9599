use Rattle.std.proofs.Common.{Some, cond, eqb, sym, ◌∙◌, ap}
use Rattle.tick_schedule.specs.Moments.{at, moments_from, place_at}
use Rattle.tick_schedule.specs.Queue.{moment_at}
use Rattle.tick_schedule.proofs.MomentLaws.{rising, set_moment, set_place}
use Rattle.tick_schedule.proofs.ScheduleLaws.{tied-after, tied-same}
use Rattle.tick_schedule.proofs.queue.DueQueue.change.Goals as goal

pub returns-in_err-reach-clause-rising : goal.returns-in_err-reach-clause-rising
returns-in_err-reach-clause-rising c = rising c.reach.new.self

pub returns-in_err-place-clause-rising : goal.returns-in_err-place-clause-rising
returns-in_err-place-clause-rising c = rising c.reach.new.self

pub remove_from_list-requires : goal.remove_from_list-requires
remove_from_list-requires c =
    tied-after c.reach.new.self c.set.new.self c.self.inside.lists c.push.new.self c.args.due c.in_ok-place.place.index
    c.args.id
    (tied-same c.self.inside.places c.reach.new.self c.self.inside.lists c.self.invariant c.reach.ensures.places)
    c.in_ok-place.ensures.ok
    (λ other. ap (place_at other) c.set.ensures
    ∙ set_place c.reach.new.self c.args.id other (Some c.in_ok-place.place) c.in_ok-reach.ensures.slot
    ∙ ap (λ m. cond (eqb other c.args.id) (Some (at m c.in_ok-place.place.index)) (place_at other c.reach.new.self))
    c.in_ok-place.ensures.moment)
    c.get-before.result (c.reach.ensures.places c.args.id ∙ sym c.get-before.ensures)

pub returns-clause-ok : goal.returns-clause-ok
returns-clause-ok c = λ other.
    ap (moment_at other) (c.remove_from_list.ensures.moments ∙ ap (moments_from 0) c.set.ensures)
    ∙ set_moment c.reach.new.self c.args.id (Some c.in_ok-place.place) c.in_ok-reach.ensures.slot other
    ∙ ap (λ moment. cond (eqb other c.args.id) (Some moment) (moment_at other (moments_from 0 c.reach.new.self)))
    c.in_ok-place.ensures.moment
    ∙ ap (λ queue. cond (eqb other c.args.id) (Some c.args.due) (moment_at other queue))
    (c.reach.ensures.moments ∙ c.self.view_is)

pub returns-clause-rising : goal.returns-clause-rising
returns-clause-rising c = rising c.remove_from_list.new.places
