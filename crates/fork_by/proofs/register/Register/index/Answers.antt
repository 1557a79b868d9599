use Rattle.std.proofs.Common.{List, unwrap_or, sym, ◌∙◌, ap}
use Rattle.fork_by.specs.Labels.{Label, index_at}
use Rattle.fork_by.specs.Register.{numbers_after}
use Rattle.fork_by.proofs.KeptLaws.{index_is}
use Rattle.fork_by.proofs.register.Register.index.Goals as goal

pub returns : goal.returns
returns c =
    c.index_of.ensures
    ∙ sym (index_is c.self.inside.numbers.entries c.self.inside.slots.items c.self.inside.moments.lists
    c.self.inside.due c.self.inside.next (numbers_after c.self.inside.changes.items) c.self.invariant c.args.number)
    ∙ ap (λ (labels : List Label). unwrap_or (index_at c.args.number labels) 0) c.self.view_is
