use Rattle.std.proofs.Common.{subst, ap, ◌∙◌}
use Rattle.step_count.specs.Count.{IsCounted, counted_by, more_by}
use Rattle.step_count.proofs.CountLaws.{between}
use Rattle.step_count.proofs.steps.Steps.counts_between.Goals as goal

pub returns-clause-forks : goal.returns-clause-forks
returns-clause-forks g c = λ began n count.
    let forks = g.G.Ledger.forks in
    let before = c.args.self.now in
    let after = c.args.later.now in
    let was = subst (IsCounted forks g.G.Ledger.entries) c.self.view_is c.self.invariant in
    let is = subst (IsCounted forks g.G.Ledger.entries) c.later.view_is c.later.invariant in
    between n before.forks after.forks (counted_by forks before.began) (forks before.ledger) (forks after.ledger)
    was.forks
    (is.forks ∙ ap (λ start. more_by after.forks (counted_by forks start)) began) count

pub returns-clause-entries : goal.returns-clause-entries
returns-clause-entries g c = λ began n count.
    let entries = g.G.Ledger.entries in
    let before = c.args.self.now in
    let after = c.args.later.now in
    let was = subst (IsCounted g.G.Ledger.forks entries) c.self.view_is c.self.invariant in
    let is = subst (IsCounted g.G.Ledger.forks entries) c.later.view_is c.later.invariant in
    between n before.entries after.entries (counted_by entries before.began) (entries before.ledger)
    (entries after.ledger) was.entries
    (is.entries ∙ ap (λ start. more_by after.entries (counted_by entries start)) began) count
