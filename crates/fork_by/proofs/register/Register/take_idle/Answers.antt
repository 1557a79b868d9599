use Rattle.std.proofs.Common.{List, Option, Some, IsSome, ◌≡◌, ◌<◌, sym, ◌∙◌, ap, subst, refl}
use Rattle.std.specs.List.{All}
use Rattle.std.specs.Option.{IfNone, option_map}
use Rattle.fork_by.specs.Labels.{AreSound, IsLive, Label, label_at}
use Rattle.fork_by.specs.Register.{label_of, numbers_after}
use Rattle.fork_by.proofs.MomentLaws.{all-later, idle-first}
use Rattle.fork_by.proofs.KeptLaws.{found, sound}
use Rattle.fork_by.proofs.register.Register.take_idle.Goals as goal

pub returns-in_err-number-clause-later : goal.returns-in_err-number-clause-later
returns-in_err-number-clause-later c =
    subst (λ o. IfNone o (All (λ (label : Label). c.args.upto < label.moment) c.args.self.now))
    (sym c.from_residual.ensures)
    (subst (λ (labels : List Label). All (λ (label : Label). c.args.upto < label.moment) labels) c.self.view_is
    (all-later c.self.inside.numbers.entries c.self.inside.slots.items c.self.inside.moments.lists c.self.inside.due
    c.self.inside.next (numbers_after c.self.inside.changes.items) c.self.invariant c.args.upto
    (sym c.first_idle.ensures ∙ c.in_err-number.was)))

pub returns-in_err-number-clause-sound : goal.returns-in_err-number-clause-sound
returns-in_err-number-clause-sound c =
    subst AreSound c.self.view_is
    (sound c.self.inside.numbers.entries c.self.inside.slots.items c.self.inside.moments.lists c.self.inside.due
    c.self.inside.next (numbers_after c.self.inside.changes.items) c.self.invariant)

pub remove-requires : goal.remove-requires
remove-requires c =
    subst (λ (labels : List Label). IsLive c.in_ok-number.number labels) c.self.view_is
    (subst (λ (o : Option Label). IsSome o)
    (sym (found c.self.inside.numbers.entries c.self.inside.slots.items c.self.inside.moments.lists c.self.inside.due
    c.self.inside.next (numbers_after c.self.inside.changes.items) c.self.invariant c.in_ok-number.number
    (idle-first c.self.inside.numbers.entries c.self.inside.slots.items c.self.inside.moments.lists c.self.inside.due
    c.self.inside.next (numbers_after c.self.inside.changes.items) c.self.invariant c.args.upto c.in_ok-number.number
    (sym c.first_idle.ensures ∙ c.in_ok-number.was)).0))
    refl)

pub returns-clause-dropped : goal.returns-clause-dropped
returns-clause-dropped c =
    let idle =
    idle-first c.self.inside.numbers.entries c.self.inside.slots.items c.self.inside.moments.lists c.self.inside.due
    c.self.inside.next (numbers_after c.self.inside.changes.items) c.self.invariant c.args.upto c.in_ok-number.number
    (sym c.first_idle.ensures ∙ c.in_ok-number.was) in
    let label =
    label_of c.self.inside.numbers.entries c.self.inside.slots.items c.self.inside.due c.in_ok-number.number in
    let was : label_at c.in_ok-number.number c.args.self.now ≡ Some label =
    ap (label_at c.in_ok-number.number) (sym c.self.view_is)
    ∙ found c.self.inside.numbers.entries c.self.inside.slots.items c.self.inside.moments.lists c.self.inside.due
    c.self.inside.next (numbers_after c.self.inside.changes.items) c.self.invariant c.in_ok-number.number idle.0 in
    let at : Some label.index ≡ Some c.remove.result =
    sym (ap (λ (o : Option Label). option_map (λ l. l.index) o) was) ∙ c.remove.ensures.index in record {
      number = c.in_ok-number.number;
      label = label;
      was = was;
      at_index = cc;
      idle = idle.1;
      is = c.remove.ensures.dropped;
    }
