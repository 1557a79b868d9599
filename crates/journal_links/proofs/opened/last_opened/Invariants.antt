use Rattle.std.proofs.Common.{◌≡◌, take}
use Rattle.recorded_links.specs.Numbers.{first_after}
use Rattle.journal_links.specs.Opened.{first_free}
use Rattle.journal_links.proofs.opened.last_opened.Given as goal

abbrev pub invariant-loop-entry : goal.invariant-loop-entry
invariant-loop-entry l = first_after l.last ≡ first_free (take l.entry-index l.records)
