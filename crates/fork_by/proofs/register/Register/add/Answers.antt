use Rattle.std.proofs.Common.{List, ℕ, Option, None, Some, cond, eqb, max, ◌+◌, ◌++◌, ◌∷◌, [], length, sym, ◌∙◌, ap}
use Rattle.std.proofs.Common.{subst}
use Rattle.linked_slots.specs.IdLists.{list_at, last_of}
use Rattle.tick_schedule.proofs.ListLaws.{on_err}
use Rattle.fork_by.specs.declared.slots.Slot.{Slot}
use Rattle.fork_by.specs.Labels.{IsLatest, Label, label_at, number_of}
use Rattle.fork_by.specs.Register.{AreKept, labels_of, latest_of, numbers_after}
use Rattle.fork_by.specs.Slots.{slot_at, slot_with, SetsSlot}
use Rattle.fork_by.proofs.AddedLaws.{added-kept, added-labels, same-kept, same-labels}
use Rattle.fork_by.proofs.ChangedSlotLaws.{label_from}
use Rattle.fork_by.proofs.MomentLaws.{is_now, late-max, no_number}
use Rattle.fork_by.proofs.KeptLaws.{absent, find_is, numbers-added, sound}
use Rattle.fork_by.proofs.RenewLaws.{are-ordered, renewed-kept, renewed-labels}
use Rattle.fork_by.proofs.register.Register.add.Goals as goal

pub invariant_of-self : goal.invariant_of-self
invariant_of-self c =
    subst
    (λ (slots : List (Option Slot)). AreKept c.self.inside.numbers.entries slots c.self.inside.moments.lists
    c.self.inside.due c.self.inside.next (numbers_after c.self.inside.changes.items))
    (sym c.in_err-order.ensures.err)
    c.self.invariant

pub returns-in_err-order-clause-sound : goal.returns-in_err-order-clause-sound
returns-in_err-order-clause-sound c =
    sound c.self.inside.numbers.entries c.next_order.new.slots.items c.self.inside.moments.lists c.self.inside.due
    c.self.inside.next (numbers_after c.self.inside.changes.items) (invariant_of-self c)

pub link-requires-clause-key : goal.link-requires-clause-key
link-requires-clause-key c =
    find_is c.self.inside.numbers.entries c.next_order.new.slots.items c.self.inside.moments.lists c.self.inside.due
    c.in_ok-order.order (numbers_after c.self.inside.changes.items)
    (renewed-kept c.self.inside.numbers.entries c.self.inside.slots.items c.self.inside.moments.lists c.self.inside.due
    c.self.inside.next (numbers_after c.self.inside.changes.items) c.self.invariant c.next_order.new.slots.items
    c.in_ok-order.order (c.in_ok-order.ensures.renews (numbers_after c.self.inside.changes.items)
    (are-ordered c.self.inside.numbers.entries c.self.inside.slots.items c.self.inside.moments.lists c.self.inside.due
    c.self.inside.next (numbers_after c.self.inside.changes.items) c.self.invariant)))
    c.args.key
    ∙ ap (number_of c.args.key)
    (renewed-labels c.self.inside.numbers.entries c.self.inside.slots.items c.self.inside.moments.lists
    c.self.inside.due c.self.inside.next (numbers_after c.self.inside.changes.items) c.self.invariant
    c.next_order.new.slots.items c.in_ok-order.order
    (c.in_ok-order.ensures.renews (numbers_after c.self.inside.changes.items)
    (are-ordered c.self.inside.numbers.entries c.self.inside.slots.items c.self.inside.moments.lists c.self.inside.due
    c.self.inside.next (numbers_after c.self.inside.changes.items) c.self.invariant))
    ∙ c.self.view_is)
    ∙ c.requires

pub invariant_of-self-in_err-number : goal.invariant_of-self-in_err-number
invariant_of-self-in_err-number c =
    same-kept c.self.inside.numbers.entries c.next_order.new.slots.items c.self.inside.moments.lists c.self.inside.due
    c.in_ok-order.order (numbers_after c.self.inside.changes.items)
    (renewed-kept c.self.inside.numbers.entries c.self.inside.slots.items c.self.inside.moments.lists c.self.inside.due
    c.self.inside.next (numbers_after c.self.inside.changes.items) c.self.invariant c.next_order.new.slots.items
    c.in_ok-order.order (c.in_ok-order.ensures.renews (numbers_after c.self.inside.changes.items)
    (are-ordered c.self.inside.numbers.entries c.self.inside.slots.items c.self.inside.moments.lists c.self.inside.due
    c.self.inside.next (numbers_after c.self.inside.changes.items) c.self.invariant)))
    c.link.new.numbers.entries c.link.new.slots.items c.link.new.moments.lists c.in_err-number.ensures.same
    c.in_err-number.ensures.err c.link.ensures.slots

pub returns-in_err-number-clause-err : goal.returns-in_err-number-clause-err
returns-in_err-number-clause-err c =
    on_err c.from_residual-in_err-number.result
    (same-labels c.self.inside.numbers.entries c.next_order.new.slots.items c.self.inside.moments.lists
    c.self.inside.due c.in_ok-order.order (numbers_after c.self.inside.changes.items)
    (renewed-kept c.self.inside.numbers.entries c.self.inside.slots.items c.self.inside.moments.lists c.self.inside.due
    c.self.inside.next (numbers_after c.self.inside.changes.items) c.self.invariant c.next_order.new.slots.items
    c.in_ok-order.order (c.in_ok-order.ensures.renews (numbers_after c.self.inside.changes.items)
    (are-ordered c.self.inside.numbers.entries c.self.inside.slots.items c.self.inside.moments.lists c.self.inside.due
    c.self.inside.next (numbers_after c.self.inside.changes.items) c.self.invariant)))
    c.link.new.numbers.entries c.link.new.slots.items c.link.new.moments.lists c.in_err-number.ensures.same
    c.in_err-number.ensures.err c.link.ensures.slots
    ∙ (renewed-labels c.self.inside.numbers.entries c.self.inside.slots.items c.self.inside.moments.lists
    c.self.inside.due c.self.inside.next (numbers_after c.self.inside.changes.items) c.self.invariant
    c.next_order.new.slots.items c.in_ok-order.order
    (c.in_ok-order.ensures.renews (numbers_after c.self.inside.changes.items)
    (are-ordered c.self.inside.numbers.entries c.self.inside.slots.items c.self.inside.moments.lists c.self.inside.due
    c.self.inside.next (numbers_after c.self.inside.changes.items) c.self.invariant))
    ∙ c.self.view_is))

pub returns-in_err-number-clause-sound : goal.returns-in_err-number-clause-sound
returns-in_err-number-clause-sound c =
    sound c.link.new.numbers.entries c.link.new.slots.items c.link.new.moments.lists c.self.inside.due
    c.in_ok-order.order (numbers_after c.self.inside.changes.items) (invariant_of-self-in_err-number c)

-- the slot of the number that is added
slots_are : (c : goal.After-self-3-1)
    → SetsSlot c.next_order.new.slots.items c.set_slot.new.slots.items c.in_ok-number.number
    (Some (slot_with (length c.self.inside.numbers.entries) c.in_ok-order.order c.max-moment.result))
slots_are c = λ other.
    c.set_slot.ensures.set other
    ∙ ap
    (λ (i : ℕ). cond (eqb other c.in_ok-number.number) (Some (slot_with i c.in_ok-order.order c.max-moment.result))
    (slot_at other c.link.new.slots.items))
    c.len-index.ensures.len
    ∙ ap
    (λ (o : Option Slot). cond (eqb other c.in_ok-number.number)
    (Some (slot_with (length c.self.inside.numbers.entries) c.in_ok-order.order c.max-moment.result)) o)
    (c.link.ensures.slots other)

pub invariant_of-self-2 : goal.invariant_of-self-2
invariant_of-self-2 c =
    subst (λ (numbers : List ℕ). AreKept c.link.new.numbers.entries c.set_slot.new.slots.items c.link.new.moments.lists
    c.self.inside.due (c.in_ok-order.order + 1) numbers)
    (sym
    (ap numbers_after c.and-self-inside.ensures ∙ numbers-added [] c.self.inside.changes.items c.in_ok-number.number))
    (added-kept c.self.inside.numbers.entries c.next_order.new.slots.items c.self.inside.moments.lists c.self.inside.due
    c.in_ok-order.order (numbers_after c.self.inside.changes.items)
    (renewed-kept c.self.inside.numbers.entries c.self.inside.slots.items c.self.inside.moments.lists c.self.inside.due
    c.self.inside.next (numbers_after c.self.inside.changes.items) c.self.invariant c.next_order.new.slots.items
    c.in_ok-order.order (c.in_ok-order.ensures.renews (numbers_after c.self.inside.changes.items)
    (are-ordered c.self.inside.numbers.entries c.self.inside.slots.items c.self.inside.moments.lists c.self.inside.due
    c.self.inside.next (numbers_after c.self.inside.changes.items) c.self.invariant)))
    c.args.key c.in_ok-number.number c.max-moment.result c.link.new.numbers.entries c.set_slot.new.slots.items
    c.link.new.moments.lists
    c.in_ok-number.ensures.vacant c.in_ok-number.ensures.entries c.link.ensures.keys c.in_ok-number.ensures.lists
    (slots_are c)
    (late-max c.max-moment.result c.args.now c.latest.result
    (latest_of c.next_order.new.slots.items (last_of (list_at c.self.inside.moments.lists 0))) c.max-moment.ensures
    c.latest.ensures))

pub returns-clause-ok : goal.returns-clause-ok
returns-clause-ok c = record {
  moment = c.max-moment.result;
  vacant =
      ap (label_at c.in_ok-number.number)
      (sym (renewed-labels c.self.inside.numbers.entries c.self.inside.slots.items c.self.inside.moments.lists
      c.self.inside.due c.self.inside.next (numbers_after c.self.inside.changes.items) c.self.invariant
      c.next_order.new.slots.items c.in_ok-order.order
      (c.in_ok-order.ensures.renews (numbers_after c.self.inside.changes.items)
      (are-ordered c.self.inside.numbers.entries c.self.inside.slots.items c.self.inside.moments.lists c.self.inside.due
      c.self.inside.next (numbers_after c.self.inside.changes.items) c.self.invariant))
      ∙ c.self.view_is))
      ∙ absent c.self.inside.numbers.entries c.next_order.new.slots.items c.self.inside.moments.lists c.self.inside.due
      c.in_ok-order.order (numbers_after c.self.inside.changes.items)
      (renewed-kept c.self.inside.numbers.entries c.self.inside.slots.items c.self.inside.moments.lists
      c.self.inside.due c.self.inside.next (numbers_after c.self.inside.changes.items) c.self.invariant
      c.next_order.new.slots.items c.in_ok-order.order
      (c.in_ok-order.ensures.renews (numbers_after c.self.inside.changes.items)
      (are-ordered c.self.inside.numbers.entries c.self.inside.slots.items c.self.inside.moments.lists c.self.inside.due
      c.self.inside.next (numbers_after c.self.inside.changes.items) c.self.invariant)))
      c.in_ok-number.number
      (no_number c.self.inside.numbers.entries c.next_order.new.slots.items c.self.inside.moments.lists
      c.self.inside.due c.in_ok-order.order (numbers_after c.self.inside.changes.items)
      (renewed-kept c.self.inside.numbers.entries c.self.inside.slots.items c.self.inside.moments.lists
      c.self.inside.due c.self.inside.next (numbers_after c.self.inside.changes.items) c.self.invariant
      c.next_order.new.slots.items c.in_ok-order.order
      (c.in_ok-order.ensures.renews (numbers_after c.self.inside.changes.items)
      (are-ordered c.self.inside.numbers.entries c.self.inside.slots.items c.self.inside.moments.lists c.self.inside.due
      c.self.inside.next (numbers_after c.self.inside.changes.items) c.self.invariant)))
      c.in_ok-number.number c.in_ok-number.ensures.vacant);
  added =
      ap (labels_of c.link.new.numbers.entries c.set_slot.new.slots.items c.self.inside.due)
      (ap numbers_after c.and-self-inside.ensures ∙ numbers-added [] c.self.inside.changes.items c.in_ok-number.number)
      ∙ added-labels c.self.inside.numbers.entries c.next_order.new.slots.items c.self.inside.moments.lists
      c.self.inside.due c.in_ok-order.order (numbers_after c.self.inside.changes.items)
      (renewed-kept c.self.inside.numbers.entries c.self.inside.slots.items c.self.inside.moments.lists
      c.self.inside.due c.self.inside.next (numbers_after c.self.inside.changes.items) c.self.invariant
      c.next_order.new.slots.items c.in_ok-order.order
      (c.in_ok-order.ensures.renews (numbers_after c.self.inside.changes.items)
      (are-ordered c.self.inside.numbers.entries c.self.inside.slots.items c.self.inside.moments.lists c.self.inside.due
      c.self.inside.next (numbers_after c.self.inside.changes.items) c.self.invariant)))
      c.args.key c.in_ok-number.number c.max-moment.result c.link.new.numbers.entries c.set_slot.new.slots.items
      c.link.new.moments.lists
      c.in_ok-number.ensures.vacant c.in_ok-number.ensures.entries c.link.ensures.keys c.in_ok-number.ensures.lists
      (slots_are c)
      (late-max c.max-moment.result c.args.now c.latest.result
      (latest_of c.next_order.new.slots.items (last_of (list_at c.self.inside.moments.lists 0))) c.max-moment.ensures
      c.latest.ensures)
      ∙ ap
      (λ (labels : List Label).
      labels ++ label_from c.args.key c.in_ok-number.number (length labels) c.max-moment.result None ∷ [])
      (renewed-labels c.self.inside.numbers.entries c.self.inside.slots.items c.self.inside.moments.lists
      c.self.inside.due c.self.inside.next (numbers_after c.self.inside.changes.items) c.self.invariant
      c.next_order.new.slots.items c.in_ok-order.order
      (c.in_ok-order.ensures.renews (numbers_after c.self.inside.changes.items)
      (are-ordered c.self.inside.numbers.entries c.self.inside.slots.items c.self.inside.moments.lists c.self.inside.due
      c.self.inside.next (numbers_after c.self.inside.changes.items) c.self.invariant))
      ∙ c.self.view_is);
  is_now = λ latest. c.max-moment.ensures ∙ ap (max c.args.now) c.latest.ensures
      ∙ is_now c.self.inside.numbers.entries c.next_order.new.slots.items c.self.inside.moments.lists c.self.inside.due
      c.in_ok-order.order (numbers_after c.self.inside.changes.items)
      (renewed-kept c.self.inside.numbers.entries c.self.inside.slots.items c.self.inside.moments.lists
      c.self.inside.due c.self.inside.next (numbers_after c.self.inside.changes.items) c.self.invariant
      c.next_order.new.slots.items c.in_ok-order.order
      (c.in_ok-order.ensures.renews (numbers_after c.self.inside.changes.items)
      (are-ordered c.self.inside.numbers.entries c.self.inside.slots.items c.self.inside.moments.lists c.self.inside.due
      c.self.inside.next (numbers_after c.self.inside.changes.items) c.self.invariant)))
      c.args.now (subst (λ (labels : List Label). IsLatest c.args.now labels)
      (sym (renewed-labels c.self.inside.numbers.entries c.self.inside.slots.items c.self.inside.moments.lists
      c.self.inside.due c.self.inside.next (numbers_after c.self.inside.changes.items) c.self.invariant
      c.next_order.new.slots.items c.in_ok-order.order
      (c.in_ok-order.ensures.renews (numbers_after c.self.inside.changes.items)
      (are-ordered c.self.inside.numbers.entries c.self.inside.slots.items c.self.inside.moments.lists c.self.inside.due
      c.self.inside.next (numbers_after c.self.inside.changes.items) c.self.invariant))
      ∙ c.self.view_is))
      latest);
}

pub returns-clause-sound : goal.returns-clause-sound
returns-clause-sound c =
    sound c.link.new.numbers.entries c.set_slot.new.slots.items c.link.new.moments.lists c.self.inside.due
    (c.in_ok-order.order + 1) (numbers_after c.and-self-inside.result.items) (invariant_of-self-2 c)
