use Rattle.std.proofs.Common.{List, unwrap_or, sym, ◌∙◌, ap}
use Rattle.fork_by.specs.Labels.{Label, last_moment_at}
use Rattle.fork_by.specs.Register.{numbers_after}
use Rattle.fork_by.proofs.KeptLaws.{moment_is}
use Rattle.fork_by.proofs.register.Register.moment.Goals as goal

pub returns : goal.returns
returns c =
    c.moment_of.ensures
    ∙ sym (moment_is c.self.inside.numbers.entries c.self.inside.slots.items c.self.inside.moments.lists
    c.self.inside.due c.self.inside.next (numbers_after c.self.inside.changes.items) c.self.invariant c.args.number)
    ∙ ap (λ (labels : List Label). unwrap_or (last_moment_at c.args.number labels) 0) c.self.view_is
