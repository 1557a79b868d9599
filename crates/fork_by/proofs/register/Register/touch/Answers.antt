use Rattle.std.proofs.Common.{List, max, sym, ◌∙◌, ap, subst}
use Rattle.linked_slots.specs.IdLists.{list_at, last_of}
use Rattle.fork_by.specs.Labels.{IsLatest, Label, touched}
use Rattle.fork_by.specs.Register.{latest_of, numbers_after}
use Rattle.fork_by.proofs.MomentLaws.{is_now, late-max, listed_here, live_here}
use Rattle.fork_by.proofs.TouchedLaws.{dated-kept, dated-labels}
use Rattle.fork_by.proofs.KeptLaws.{sound}
use Rattle.fork_by.proofs.register.Register.touch.Goals as goal

pub move_back-requires-clause-id : goal.move_back-requires-clause-id
move_back-requires-clause-id c =
    listed_here c.self.inside.numbers.entries c.self.inside.slots.items c.self.inside.moments.lists c.self.inside.due
    c.self.inside.next (numbers_after c.self.inside.changes.items) c.self.invariant c.args.number
    (live_here c.self.inside.numbers.entries c.self.inside.slots.items c.self.inside.moments.lists c.self.inside.due
    c.self.inside.next (numbers_after c.self.inside.changes.items) c.self.invariant c.args.number c.args.self.now
    c.self.view_is c.requires)

pub invariant_of-self : goal.invariant_of-self
invariant_of-self c =
    dated-kept c.self.inside.numbers.entries c.self.inside.slots.items c.self.inside.moments.lists c.self.inside.due
    c.self.inside.next (numbers_after c.self.inside.changes.items) c.self.invariant c.args.number c.max-moment.result
    c.set_moment.new.slots.items c.move_back.new.self.lists
    (live_here c.self.inside.numbers.entries c.self.inside.slots.items c.self.inside.moments.lists c.self.inside.due
    c.self.inside.next (numbers_after c.self.inside.changes.items) c.self.invariant c.args.number c.args.self.now
    c.self.view_is c.requires)
    c.set_moment.ensures c.move_back.ensures.moved
    (late-max c.max-moment.result c.args.now c.latest.result
    (latest_of c.self.inside.slots.items (last_of (list_at c.self.inside.moments.lists 0))) c.max-moment.ensures
    c.latest.ensures)

pub returns-clause-touched : goal.returns-clause-touched
returns-clause-touched c = record {
  moment = c.max-moment.result;
  is =
      dated-labels c.self.inside.numbers.entries c.self.inside.slots.items c.self.inside.moments.lists c.self.inside.due
      c.self.inside.next (numbers_after c.self.inside.changes.items) c.self.invariant c.args.number c.max-moment.result
      c.set_moment.new.slots.items c.move_back.new.self.lists
      (live_here c.self.inside.numbers.entries c.self.inside.slots.items c.self.inside.moments.lists c.self.inside.due
      c.self.inside.next (numbers_after c.self.inside.changes.items) c.self.invariant c.args.number c.args.self.now
      c.self.view_is c.requires)
      c.set_moment.ensures c.move_back.ensures.moved
      (late-max c.max-moment.result c.args.now c.latest.result
      (latest_of c.self.inside.slots.items (last_of (list_at c.self.inside.moments.lists 0))) c.max-moment.ensures
      c.latest.ensures)
      ∙ ap (touched c.args.number c.max-moment.result) c.self.view_is;
  is_now = λ latest. c.max-moment.ensures ∙ ap (max c.args.now) c.latest.ensures
      ∙ is_now c.self.inside.numbers.entries c.self.inside.slots.items c.self.inside.moments.lists c.self.inside.due
      c.self.inside.next (numbers_after c.self.inside.changes.items) c.self.invariant c.args.now
      (subst (λ (labels : List Label). IsLatest c.args.now labels) (sym c.self.view_is) latest);
}

pub returns-clause-sound : goal.returns-clause-sound
returns-clause-sound c =
    sound c.self.inside.numbers.entries c.set_moment.new.slots.items c.move_back.new.self.lists c.self.inside.due
    c.self.inside.next (numbers_after c.self.inside.changes.items) (invariant_of-self c)
