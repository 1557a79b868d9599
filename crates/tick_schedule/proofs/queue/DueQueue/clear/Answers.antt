use Rattle.std.proofs.Common.{None, cond, eqb, sym, ◌∙◌, ap}
use Rattle.tick_schedule.specs.Moments.{moments_from, place_at}
use Rattle.tick_schedule.specs.Queue.{moment_at, without}
use Rattle.tick_schedule.proofs.MomentLaws.{clear_place, clear_moment, rising, without_slot}
use Rattle.tick_schedule.proofs.ScheduleLaws.{tied-leaving}
use Rattle.tick_schedule.proofs.queue.DueQueue.clear.Goals as goal

pub remove_from_list-requires : goal.remove_from_list-requires
remove_from_list-requires c =
    tied-leaving c.self.inside.places c.remove-before.new.self c.self.inside.lists c.args.id c.remove-before.result
    c.self.invariant (sym c.remove-before.ensures.removed)
    (λ other. ap (place_at other) c.remove-before.ensures.rest ∙ clear_place c.self.inside.places c.args.id other)

pub returns-clause-cleared : goal.returns-clause-cleared
returns-clause-cleared c = λ other.
    ap (moment_at other) (c.remove_from_list.ensures.moments ∙ ap (moments_from 0) c.remove-before.ensures.rest)
    ∙ clear_moment c.self.inside.places c.args.id other
    ∙ ap (λ queue. cond (eqb other c.args.id) None (moment_at other queue)) c.self.view_is

pub returns-clause-rest : goal.returns-clause-rest
returns-clause-rest c =
    c.remove_from_list.ensures.moments ∙ ap (moments_from 0) c.remove-before.ensures.rest
    ∙ without_slot c.args.id c.self.inside.places ∙ ap (without c.args.id) c.self.view_is

pub returns-clause-rising : goal.returns-clause-rising
returns-clause-rising c = rising c.remove_from_list.new.places
