use Rattle.std.proofs.Common.{List, is_some, sym, ◌∙◌, ap, subst}
use Rattle.fork_by.specs.Labels.{IsLive, Label}
use Rattle.fork_by.specs.Register.{numbers_after}
use Rattle.fork_by.proofs.KeptLaws.{live_is}
use Rattle.fork_by.proofs.register.Register.is_live.Goals as goal

pub returns : goal.returns
returns c = (
  λ live. subst (λ (labels : List Label). IsLive c.args.number labels) c.self.view_is
      ((live_is c.self.inside.numbers.entries c.self.inside.slots.items c.self.inside.moments.lists c.self.inside.due
      c.self.inside.next (numbers_after c.self.inside.changes.items) c.self.invariant c.args.number).0
      (sym (c.is_some.ensures ∙ ap is_some c.slot_of.ensures) ∙ live)),
  λ live. c.is_some.ensures ∙ ap is_some c.slot_of.ensures
      ∙ (live_is c.self.inside.numbers.entries c.self.inside.slots.items c.self.inside.moments.lists c.self.inside.due
      c.self.inside.next (numbers_after c.self.inside.changes.items) c.self.invariant c.args.number).1
      (subst (λ (labels : List Label). IsLive c.args.number labels) (sym c.self.view_is) live),
)
