use Rattle.std.proofs.Common.{List, ℕ, Option, None, Some, sym, ◌∙◌, ap, subst}
use Rattle.fork_by.specs.Labels.{AreSound, dues_set}
use Rattle.fork_by.specs.Register.{labels_of, numbers_after}
use Rattle.fork_by.proofs.MomentLaws.{live_here}
use Rattle.fork_by.proofs.DueLaws.{set-kept, set-labels}
use Rattle.fork_by.proofs.KeptLaws.{sound}
use Rattle.fork_by.proofs.register.Register.set_due.Goals as goal

pub invariant_of-self : goal.invariant_of-self
invariant_of-self c =
    set-kept c.self.inside.numbers.entries c.self.inside.slots.items c.self.inside.moments.lists c.self.inside.due
    c.self.inside.next (numbers_after c.self.inside.changes.items) c.self.invariant c.set.new.self c.args.number
    (Some c.in-Some.due)
    (live_here c.self.inside.numbers.entries c.self.inside.slots.items c.self.inside.moments.lists c.self.inside.due
    c.self.inside.next (numbers_after c.self.inside.changes.items) c.self.invariant c.args.number c.args.self.now
    c.self.view_is c.requires)
    c.in_ok-set-in-Some.ensures.ok c.set.ensures.rising

pub returns-in_err-set-in-Some-clause-sound : goal.returns-in_err-set-in-Some-clause-sound
returns-in_err-set-in-Some-clause-sound c =
    subst
    (λ (due : List (ℕ × ℕ)). AreSound
    (labels_of c.self.inside.numbers.entries c.self.inside.slots.items due (numbers_after c.self.inside.changes.items)))
    (sym c.in_err-set-in-Some.ensures.err)
    (sound c.self.inside.numbers.entries c.self.inside.slots.items c.self.inside.moments.lists c.self.inside.due
    c.self.inside.next (numbers_after c.self.inside.changes.items) c.self.invariant)

pub returns-in_ok-set-in-Some-clause-ok : goal.returns-in_ok-set-in-Some-clause-ok
returns-in_ok-set-in-Some-clause-ok c =
    set-labels c.self.inside.numbers.entries c.self.inside.slots.items c.self.inside.moments.lists c.self.inside.due
    c.self.inside.next (numbers_after c.self.inside.changes.items) c.self.invariant c.set.new.self c.args.number
    (Some c.in-Some.due)
    (live_here c.self.inside.numbers.entries c.self.inside.slots.items c.self.inside.moments.lists c.self.inside.due
    c.self.inside.next (numbers_after c.self.inside.changes.items) c.self.invariant c.args.number c.args.self.now
    c.self.view_is c.requires)
    c.in_ok-set-in-Some.ensures.ok c.set.ensures.rising
    ∙ ap (dues_set c.args.number (Some c.in-Some.due)) c.self.view_is
    ∙ ap (λ (due : Option ℕ). dues_set c.args.number due c.args.self.now) (sym c.in-Some.is)

pub returns-in_ok-set-in-Some-clause-sound : goal.returns-in_ok-set-in-Some-clause-sound
returns-in_ok-set-in-Some-clause-sound c =
    sound c.self.inside.numbers.entries c.self.inside.slots.items c.self.inside.moments.lists c.set.new.self
    c.self.inside.next (numbers_after c.self.inside.changes.items) (invariant_of-self c)

pub returns-in-None-clause-ok : goal.returns-in-None-clause-ok
returns-in-None-clause-ok c =
    set-labels c.self.inside.numbers.entries c.self.inside.slots.items c.self.inside.moments.lists c.self.inside.due
    c.self.inside.next (numbers_after c.self.inside.changes.items) c.self.invariant c.clear.new.self c.args.number None
    (live_here c.self.inside.numbers.entries c.self.inside.slots.items c.self.inside.moments.lists c.self.inside.due
    c.self.inside.next (numbers_after c.self.inside.changes.items) c.self.invariant c.args.number c.args.self.now
    c.self.view_is c.requires)
    c.clear.ensures.cleared c.clear.ensures.rising
    ∙ ap (dues_set c.args.number None) c.self.view_is
    ∙ ap (λ (due : Option ℕ). dues_set c.args.number due c.args.self.now) (sym c.in-None.is)

pub returns-in-None-clause-sound : goal.returns-in-None-clause-sound
returns-in-None-clause-sound c =
    sound c.self.inside.numbers.entries c.self.inside.slots.items c.self.inside.moments.lists c.clear.new.self
    c.self.inside.next (numbers_after c.self.inside.changes.items)
    (set-kept c.self.inside.numbers.entries c.self.inside.slots.items c.self.inside.moments.lists c.self.inside.due
    c.self.inside.next (numbers_after c.self.inside.changes.items) c.self.invariant c.clear.new.self c.args.number None
    (live_here c.self.inside.numbers.entries c.self.inside.slots.items c.self.inside.moments.lists c.self.inside.due
    c.self.inside.next (numbers_after c.self.inside.changes.items) c.self.invariant c.args.number c.args.self.now
    c.self.view_is c.requires)
    c.clear.ensures.cleared c.clear.ensures.rising)
