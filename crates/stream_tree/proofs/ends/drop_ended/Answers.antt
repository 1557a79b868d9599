use Rattle.std.proofs.Common.{ℕ, ◌<◌, Option, sym, ap, ◌∙◌, arith}
use Rattle.fork_by.specs.Table.{kept_forks}
use Rattle.stream_tree.specs.Ends.{not_ended}
use Rattle.stream_tree.proofs.EndLaws.{none_ended, none_early}
use Rattle.stream_tree.proofs.ends.drop_ended.Goals as goal

pub returns-in_default-clause-kept : goal.returns-in_default-clause-kept
returns-in_default-clause-kept c = λ is_table.
    none_ended c.args.now (kept_forks c.args.forks.now)
    ∙ ap (λ (idle : Option ℕ). not_ended idle c.args.now (kept_forks c.args.forks.now))
    (sym c.in_default.is ∙ c.idle_of.ensures)

pub returns-in_default-checked_sub-clause-kept : goal.returns-in_default-checked_sub-clause-kept
returns-in_default-checked_sub-clause-kept c = λ is_table.
    let early : c.args.now < c.in-Some.idle = omega (arith, c.from.ensures, c.in_default-checked_sub.ensures) in
    none_early c.in-Some.idle c.args.now (kept_forks c.args.forks.now) early
    ∙ ap (λ (idle : Option ℕ). not_ended idle c.args.now (kept_forks c.args.forks.now))
    (sym c.in-Some.is ∙ c.idle_of.ensures)
