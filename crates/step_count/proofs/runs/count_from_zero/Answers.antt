use Rattle.std.proofs.Common.{count_by, Some, ap, ◌∙◌}
use Rattle.step_count.specs.Count.{more_by}
use Rattle.step_count.specs.Runs.{is_fork, is_entry}
use Rattle.step_count.proofs.CountLaws.{from_zero}
use Rattle.step_count.proofs.runs.count_from_zero.Goals as goal

pub returns-clause-forks_reported : goal.returns-clause-forks_reported
returns-clause-forks_reported c =
    from_zero c.count_all.new.counted.ledger.forks (count_by is_fork c.args.steps.now) c.fresh-counted.result.forks
    c.count_all.new.counted.forks
    (c.count_all.ensures.forks_reported
    ∙ ap (λ ledger. more_by (count_by is_fork c.args.steps.now) (Some ledger.forks)) c.fresh-counted.ensures.ledger)
    c.fresh-counted.ensures.forks c.count_all.ensures.forks

pub returns-clause-entries_reported : goal.returns-clause-entries_reported
returns-clause-entries_reported c =
    from_zero c.count_all.new.counted.ledger.entries (count_by is_entry c.args.steps.now) c.fresh-counted.result.entries
    c.count_all.new.counted.entries
    (c.count_all.ensures.entries_reported
    ∙ ap (λ ledger. more_by (count_by is_entry c.args.steps.now) (Some ledger.entries)) c.fresh-counted.ensures.ledger)
    c.fresh-counted.ensures.entries c.count_all.ensures.entries
