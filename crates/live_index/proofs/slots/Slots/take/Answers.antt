use Rattle.std.proofs.Common.{◌≡◌, suc, length, arith, None, Some, sym, ap, ◌∙◌, subst}
use Rattle.std.specs.Option.{option_copied}
use Rattle.key_map.specs.Keys.{IndexKey, Sets}
use Rattle.live_index.specs.Slots.{key_of}
use Rattle.live_index.proofs.CountLaws.{one_less}
use Rattle.live_index.proofs.SlotsLaws.{absent_slot, absent_slots, changed_slots, end-linked, end-put, key-is}
use Rattle.live_index.proofs.StoredLaws.{some-counted}
use Rattle.live_index.proofs.slots.Slots.take.Goals as goal

pub returns-then-not-contains-clause-taken : goal.returns-then-not-contains-clause-taken
returns-then-not-contains-clause-taken g c =
    absent_slot c.args.self.now.events.values c.args.number c.contains.result c.contains.ensures c.if-not-contains.true

pub returns-then-not-contains-clause-slots : goal.returns-then-not-contains-clause-slots
returns-then-not-contains-clause-slots g c =
    absent_slots c.args.self.now.events.values c.args.number
    (absent_slot c.args.self.now.events.values c.args.number c.contains.result c.contains.ensures
    c.if-not-contains.true)

pub returns-clause-linked : goal.returns-clause-linked
returns-clause-linked g c =
    let sets = subst (λ (k : IndexKey). Sets c.args.self.now.numbers c.remove.new.self k None)
    (key-is c.in_ok-event.event (option_copied c.as_ref.result) (option_copied c.as_ref-2.result)
    c.as_ref.ensures.value c.as_ref-2.ensures.value)
    c.remove.ensures.removed in
    end-linked c.args.self.now.numbers c.remove.new.self c.args.self.now.events.values c.remove-stored.new.self.values
    (key_of c.in_ok-event.event) c.args.number c.requires.linked
    (c.requires.linked.placed c.args.number c.in_ok-event.event
    (c.remove-stored.ensures.value ∙ ap Some (sym c.in_ok-event.ensures))) c.remove.ensures.rising
    sets c.remove-stored.ensures.removed

pub overflow_sub-self : goal.overflow_sub-self
overflow_sub-self g c =
    let sets = subst (λ (k : IndexKey). Sets c.args.self.now.numbers c.remove.new.self k None)
    (key-is c.in_ok-event.event (option_copied c.as_ref.result) (option_copied c.as_ref-2.result)
    c.as_ref.ensures.value c.as_ref-2.ensures.value)
    c.remove.ensures.removed in
    some-counted c.args.self.now.numbers c.remove.new.self (key_of c.in_ok-event.event) c.args.number
    c.args.self.now.count c.requires.linked.rising c.requires.counted
    (c.requires.linked.placed c.args.number c.in_ok-event.event
    (c.remove-stored.ensures.value ∙ ap Some (sym c.in_ok-event.ensures))) c.remove.ensures.rising
    sets

pub returns-clause-counted : goal.returns-clause-counted
returns-clause-counted g c =
    let sets = subst (λ (k : IndexKey). Sets c.args.self.now.numbers c.remove.new.self k None)
    (key-is c.in_ok-event.event (option_copied c.as_ref.result) (option_copied c.as_ref-2.result)
    c.as_ref.ensures.value c.as_ref-2.ensures.value)
    c.remove.ensures.removed in
    let less : length c.args.self.now.numbers ≡ suc (length c.remove.new.self) =
    one_less c.args.self.now.numbers c.remove.new.self (key_of c.in_ok-event.event) c.args.number
    c.requires.linked.rising c.remove.ensures.rising
    (c.requires.linked.placed c.args.number c.in_ok-event.event
    (c.remove-stored.ensures.value ∙ ap Some (sym c.in_ok-event.ensures))) sets in
    omega (arith, less, c.requires.counted)

pub returns-clause-slots : goal.returns-clause-slots
returns-clause-slots g c =
    changed_slots c.args.self.now.events.values c.remove-stored.new.self.values c.args.number
    c.remove-stored.ensures.removed

pub returns-clause-puts : goal.returns-clause-puts
returns-clause-puts g c =
    let sets = subst (λ (k : IndexKey). Sets c.args.self.now.numbers c.remove.new.self k None)
    (key-is c.in_ok-event.event (option_copied c.as_ref.result) (option_copied c.as_ref-2.result)
    c.as_ref.ensures.value c.as_ref-2.ensures.value)
    c.remove.ensures.removed in
    end-put c.args.self.now.numbers c.remove.new.self c.args.self.now.events.values c.remove-stored.new.self.values
    (key_of c.in_ok-event.event) c.args.number c.requires.linked
    (c.requires.linked.placed c.args.number c.in_ok-event.event
    (c.remove-stored.ensures.value ∙ ap Some (sym c.in_ok-event.ensures))) sets
    c.remove-stored.ensures.removed
