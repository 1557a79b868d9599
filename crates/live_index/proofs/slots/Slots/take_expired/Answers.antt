use Rattle.std.proofs.Common.{◌≡◌, ◌≤◌, ◌++◌, length, filter, arith, sym, ap, ◌∙◌, subst}
use Rattle.ev_types.specs.Expiry.{is_expired}
use Rattle.tick_schedule.specs.Queue.{IsRising, due_ids}
use Rattle.live_index.specs.Slots.{events_in, IsTaking, IsTimed}
use Rattle.live_index.proofs.ReapLaws.{reap-gone, reap-kept, reap-timed, due-count}
use Rattle.live_index.proofs.slots.Slots.take_expired.Goals as goal

pub returns-clause-stored : goal.returns-clause-stored
returns-clause-stored g c =
    let slots = c.args.self.now in
    let ids : c.as_slice.result.now ≡ due_ids c.args.now slots.due =
    c.as_slice.ensures ∙ c.in_ok-take_due.ensures.ids
    ∙ ap (λ ids. ids ++ due_ids c.args.now slots.due) c.fresh-numbers.ensures in
    let taking =
    subst
    (λ ids. IsTaking ids slots.numbers slots.events.values c.take_all.new.self.numbers c.take_all.new.self.events.values
    c.in_ok-expired.expired.keys)
    ids c.in_ok-expired.ensures.taken in
    record {
      linked = c.in_ok-expired.ensures.linked;
      timed =
          subst (IsTimed c.take_all.new.self.events.values)
          (sym (c.take_all.ensures.due ∙ c.in_ok-take_due.ensures.later))
          (reap-timed c.args.now c.requires.now slots.numbers slots.events.values slots.due c.requires.stored.linked
          c.requires.stored.timed c.requires.stored.ordered
          c.take_all.new.self.numbers c.take_all.new.self.events.values c.in_ok-expired.expired.keys taking);
      ordered = subst IsRising (sym c.take_all.ensures.due) c.take_due.ensures.rising;
      counted = c.in_ok-expired.ensures.counted;
    }

pub returns-clause-kept : goal.returns-clause-kept
returns-clause-kept g c =
    let slots = c.args.self.now in
    let ids : c.as_slice.result.now ≡ due_ids c.args.now slots.due =
    c.as_slice.ensures ∙ c.in_ok-take_due.ensures.ids
    ∙ ap (λ ids. ids ++ due_ids c.args.now slots.due) c.fresh-numbers.ensures in
    let taking =
    subst
    (λ ids. IsTaking ids slots.numbers slots.events.values c.take_all.new.self.numbers c.take_all.new.self.events.values
    c.in_ok-expired.expired.keys)
    ids c.in_ok-expired.ensures.taken in
    reap-kept c.args.now c.requires.now slots.numbers slots.events.values slots.due c.requires.stored.linked
    c.requires.stored.timed c.requires.stored.ordered
    c.take_all.new.self.numbers c.take_all.new.self.events.values c.in_ok-expired.expired.keys taking

pub returns-clause-gone : goal.returns-clause-gone
returns-clause-gone g c =
    let slots = c.args.self.now in
    let ids : c.as_slice.result.now ≡ due_ids c.args.now slots.due =
    c.as_slice.ensures ∙ c.in_ok-take_due.ensures.ids
    ∙ ap (λ ids. ids ++ due_ids c.args.now slots.due) c.fresh-numbers.ensures in
    let taking =
    subst
    (λ ids. IsTaking ids slots.numbers slots.events.values c.take_all.new.self.numbers c.take_all.new.self.events.values
    c.in_ok-expired.expired.keys)
    ids c.in_ok-expired.ensures.taken in
    c.in_ok-push_all.ensures.ok
    ∙ ap (λ events. c.args.out.now ++ events)
    (reap-gone c.args.now c.requires.now slots.numbers slots.events.values slots.due c.requires.stored.linked
    c.requires.stored.timed c.requires.stored.ordered
    c.take_all.new.self.numbers c.take_all.new.self.events.values c.in_ok-expired.expired.keys taking)

pub returns-clause-entries : goal.returns-clause-entries
returns-clause-entries g c =
    let slots = c.args.self.now in
    let count : length (due_ids c.args.now slots.due)
    ≤ length (filter (is_expired c.args.now) (events_in slots.numbers slots.events.values)) =
    due-count c.args.now c.requires.now slots.numbers slots.events.values slots.due c.requires.stored.linked
    c.requires.stored.timed c.requires.stored.ordered in
    omega (arith, count, c.take_due.ensures.at_most)

pub returns-in_err-take_due-clause-entries : goal.returns-in_err-take_due-clause-entries
returns-in_err-take_due-clause-entries g c =
    let slots = c.args.self.now in
    let count : length (due_ids c.args.now slots.due)
    ≤ length (filter (is_expired c.args.now) (events_in slots.numbers slots.events.values)) =
    due-count c.args.now c.requires.now slots.numbers slots.events.values slots.due c.requires.stored.linked
    c.requires.stored.timed c.requires.stored.ordered in
    omega (arith, count, c.take_due.ensures.at_most)

pub returns-in_err-expired-clause-entries : goal.returns-in_err-expired-clause-entries
returns-in_err-expired-clause-entries g c =
    let slots = c.args.self.now in
    let count : length (due_ids c.args.now slots.due)
    ≤ length (filter (is_expired c.args.now) (events_in slots.numbers slots.events.values)) =
    due-count c.args.now c.requires.now slots.numbers slots.events.values slots.due c.requires.stored.linked
    c.requires.stored.timed c.requires.stored.ordered in
    omega (arith, count, c.take_due.ensures.at_most)

pub returns-in_err-push_all-clause-entries : goal.returns-in_err-push_all-clause-entries
returns-in_err-push_all-clause-entries g c =
    let slots = c.args.self.now in
    let count : length (due_ids c.args.now slots.due)
    ≤ length (filter (is_expired c.args.now) (events_in slots.numbers slots.events.values)) =
    due-count c.args.now c.requires.now slots.numbers slots.events.values slots.due c.requires.stored.linked
    c.requires.stored.timed c.requires.stored.ordered in
    omega (arith, count, c.take_due.ensures.at_most)
