use Rattle.std.proofs.Common.{List, ℕ, Option, Some, ◌<◌, length, [], sym, ◌∙◌, ap, subst}
use Rattle.std.specs.Option.{option_map}
use Rattle.fork_by.specs.Labels.{Label, dropped, index_at}
use Rattle.fork_by.specs.Register.{AreKept, labels_of, numbers_after}
use Rattle.fork_by.proofs.DroppedLaws.{dropped-kept, dropped-labels}
use Rattle.fork_by.proofs.MomentLaws.{index_within, listed_here, live_here}
use Rattle.fork_by.proofs.KeptLaws.{found, numbers-removed, sound}
use Rattle.fork_by.proofs.register.Register.remove.Goals as goal

pub unlink-requires : goal.unlink-requires
unlink-requires c =
    listed_here c.self.inside.numbers.entries c.self.inside.slots.items c.self.inside.moments.lists c.self.inside.due
    c.self.inside.next (numbers_after c.self.inside.changes.items) c.self.invariant c.args.number
    (live_here c.self.inside.numbers.entries c.self.inside.slots.items c.self.inside.moments.lists c.self.inside.due
    c.self.inside.next (numbers_after c.self.inside.changes.items) c.self.invariant c.args.number c.args.self.now
    c.self.view_is c.requires)

pub take_out-requires : goal.take_out-requires
take_out-requires c =
    subst (λ (i : ℕ). i < length c.self.inside.numbers.entries) (sym c.index_of-index.ensures)
    (index_within c.self.inside.numbers.entries c.self.inside.slots.items c.self.inside.moments.lists c.self.inside.due
    c.self.inside.next (numbers_after c.self.inside.changes.items) c.self.invariant c.args.number
    (live_here c.self.inside.numbers.entries c.self.inside.slots.items c.self.inside.moments.lists c.self.inside.due
    c.self.inside.next (numbers_after c.self.inside.changes.items) c.self.invariant c.args.number c.args.self.now
    c.self.view_is c.requires))

pub invariant_of-self : goal.invariant_of-self
invariant_of-self c =
    subst (λ (numbers : List ℕ). AreKept c.take_out.new.numbers.entries c.take_out.new.slots.items
    c.unlink.new.self.lists c.clear.new.self c.self.inside.next numbers)
    (sym (ap numbers_after c.and-self-inside.ensures ∙ numbers-removed [] c.self.inside.changes.items c.args.number))
    (dropped-kept c.self.inside.numbers.entries c.self.inside.slots.items c.self.inside.moments.lists c.self.inside.due
    c.self.inside.next (numbers_after c.self.inside.changes.items) c.self.invariant c.args.number
    c.index_of-index.result c.take_out.new.numbers.entries c.clear_slot.new.slots.items c.take_out.new.slots.items
    c.unlink.new.self.lists c.clear.new.self
    (live_here c.self.inside.numbers.entries c.self.inside.slots.items c.self.inside.moments.lists c.self.inside.due
    c.self.inside.next (numbers_after c.self.inside.changes.items) c.self.invariant c.args.number c.args.self.now
    c.self.view_is c.requires)
    c.index_of-index.ensures c.clear_slot.ensures c.take_out.ensures c.unlink.ensures.removed c.clear.ensures.cleared
    c.clear.ensures.rising)

pub returns-clause-index : goal.returns-clause-index
returns-clause-index c =
    ap (index_at c.args.number) (sym c.self.view_is)
    ∙ ap (λ (o : Option Label). option_map (λ label. label.index) o)
    (found c.self.inside.numbers.entries c.self.inside.slots.items c.self.inside.moments.lists c.self.inside.due
    c.self.inside.next (numbers_after c.self.inside.changes.items) c.self.invariant c.args.number
    (live_here c.self.inside.numbers.entries c.self.inside.slots.items c.self.inside.moments.lists c.self.inside.due
    c.self.inside.next (numbers_after c.self.inside.changes.items) c.self.invariant c.args.number c.args.self.now
    c.self.view_is c.requires))
    ∙ ap Some (sym c.index_of-index.ensures)

pub returns-clause-dropped : goal.returns-clause-dropped
returns-clause-dropped c =
    ap (labels_of c.take_out.new.numbers.entries c.take_out.new.slots.items c.clear.new.self)
    (ap numbers_after c.and-self-inside.ensures ∙ numbers-removed [] c.self.inside.changes.items c.args.number)
    ∙ dropped-labels c.self.inside.numbers.entries c.self.inside.slots.items c.self.inside.moments.lists
    c.self.inside.due c.self.inside.next (numbers_after c.self.inside.changes.items) c.self.invariant c.args.number
    c.index_of-index.result c.take_out.new.numbers.entries c.clear_slot.new.slots.items c.take_out.new.slots.items
    c.unlink.new.self.lists c.clear.new.self
    (live_here c.self.inside.numbers.entries c.self.inside.slots.items c.self.inside.moments.lists c.self.inside.due
    c.self.inside.next (numbers_after c.self.inside.changes.items) c.self.invariant c.args.number c.args.self.now
    c.self.view_is c.requires)
    c.index_of-index.ensures c.clear_slot.ensures c.take_out.ensures c.unlink.ensures.removed c.clear.ensures.cleared
    c.clear.ensures.rising
    ∙ ap (dropped c.args.number c.index_of-index.result) c.self.view_is

pub returns-clause-sound : goal.returns-clause-sound
returns-clause-sound c =
    sound c.take_out.new.numbers.entries c.take_out.new.slots.items c.unlink.new.self.lists c.clear.new.self
    c.self.inside.next (numbers_after c.and-self-inside.result.items) (invariant_of-self c)
