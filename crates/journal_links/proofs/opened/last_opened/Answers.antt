use Rattle.std.proofs.Common.{◌≤◌, length, ap, rules, ◌∙◌}
use Rattle.std.proofs.lemmas.List.{take_all}
use Rattle.recorded_links.specs.Numbers.{first_after}
use Rattle.journal_links.specs.Opened.{first_free}
use Rattle.journal_links.proofs.OpenedLaws.{are_before}
use Rattle.journal_links.proofs.opened.last_opened.Goals as goal

pub returns-clause-before : goal.returns-clause-before
returns-clause-before c =
    let all : length c.args.records.now ≤ c.loop-entry.entry-index = search rules in
    are_before (first_after c.loop-entry.last) c.args.records.now
    (c.loop-entry.invariant ∙ ap first_free (take_all c.loop-entry.entry-index c.args.records.now all))
