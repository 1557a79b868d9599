use Rattle.std.proofs.Common.{◌∙◌, ap}
use Rattle.fork_by.specs.Labels.{number_of}
use Rattle.fork_by.specs.Register.{numbers_after}
use Rattle.fork_by.proofs.KeptLaws.{find_is}
use Rattle.fork_by.proofs.register.Register.find.Goals as goal

pub returns : goal.returns
returns c =
    c.copied.ensures ∙ c.get.ensures.value
    ∙ find_is c.self.inside.numbers.entries c.self.inside.slots.items c.self.inside.moments.lists c.self.inside.due
    c.self.inside.next (numbers_after c.self.inside.changes.items) c.self.invariant c.args.key.now
    ∙ ap (number_of c.args.key.now) c.self.view_is
