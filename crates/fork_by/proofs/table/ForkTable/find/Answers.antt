use Rattle.std.proofs.Common.{ℕ, Option, IfSome, sym, ◌∙◌, subst}
use Rattle.fork_by.specs.Table.{HasFork}
use Rattle.fork_by.specs.Labels.{IsLive}
use Rattle.fork_by.proofs.KeptForkLaws.{found-has, number-kept, number-live}
use Rattle.fork_by.proofs.table.ForkTable.find.Goals as goal

pub returns-clause-live : goal.returns-clause-live
returns-clause-live g c =
    subst (λ (o : Option ℕ). IfSome o (λ number. IsLive number c.args.self.now.labels)) (sym c.find.ensures)
    (number-live c.args.key.now c.args.self.now.labels)

pub returns-clause-found : goal.returns-clause-found
returns-clause-found g c table = c.find.ensures ∙ number-kept c.args.self.now table c.args.key.now

pub returns-clause-has : goal.returns-clause-has
returns-clause-has g c table =
    subst (λ (o : Option ℕ). IfSome o (λ number. HasFork number c.args.self.now))
    (sym (c.find.ensures ∙ number-kept c.args.self.now table c.args.key.now))
    (found-has c.args.self.now table c.args.key.now)
