use Rattle.std.proofs.Common.{◌≡◌, ℕ, List, Option, Some, refl, ◌∙◌, ap, subst}
use Rattle.tick_schedule.specs.Moments.{Place, moments_from, place_at}
use Rattle.tick_schedule.specs.Schedule.{IsTiedBut, IsTiedButOne}
use Rattle.tick_schedule.proofs.MomentLaws.{has_slot, same_moment, set_place}
use Rattle.tick_schedule.proofs.ScheduleLaws.{moved-from, tied-filled}
use Rattle.tick_schedule.proofs.queue.remove_from_list.Goals as goal

given : (known : Option Place) (place : Place) (places : List (Option Place)) (lists : List (ℕ × List ℕ))
    → known ≡ Some place
    → IsTiedBut known places lists → IsTiedButOne place places lists
given known place places lists is tied =
    let P : Option Place → Type 0 = λ p. IsTiedBut p places lists in
    subst P is tied

pub set-requires : goal.set-requires
set-requires c =
    has_slot c.in-Some-remove.moved c.args.places.now _
    (moved-from c.args.places.now c.args.lists.now c.remove.new.self c.in-Some.place
    (given c.args.place c.in-Some.place c.args.places.now c.args.lists.now c.in-Some.is c.requires)
    c.in-Some-remove.moved c.in-Some-remove.ensures)

pub returns-in-Some-remove-clause-tied : goal.returns-in-Some-remove-clause-tied
returns-in-Some-remove-clause-tied c =
    let tied : IsTiedButOne c.in-Some.place c.args.places.now c.args.lists.now =
    given c.args.place c.in-Some.place c.args.places.now c.args.lists.now c.in-Some.is c.requires in
    tied-filled c.args.places.now c.args.lists.now c.remove.new.self c.in-Some.place tied c.set.new.self
    c.in-Some-remove.moved c.in-Some-remove.ensures
    (λ other. ap (place_at other) c.set.ensures
    ∙ set_place c.args.places.now c.in-Some-remove.moved other (Some c.in-Some.place)
    (has_slot c.in-Some-remove.moved c.args.places.now _
    (moved-from c.args.places.now c.args.lists.now c.remove.new.self c.in-Some.place tied c.in-Some-remove.moved
    c.in-Some-remove.ensures)))

pub returns-in-Some-remove-clause-moments : goal.returns-in-Some-remove-clause-moments
returns-in-Some-remove-clause-moments c =
    ap (moments_from 0) c.set.ensures
    ∙ same_moment c.in-Some-remove.moved c.args.places.now _ c.in-Some.place
    (moved-from c.args.places.now c.args.lists.now c.remove.new.self c.in-Some.place
    (given c.args.place c.in-Some.place c.args.places.now c.args.lists.now c.in-Some.is c.requires)
    c.in-Some-remove.moved c.in-Some-remove.ensures)
    refl
