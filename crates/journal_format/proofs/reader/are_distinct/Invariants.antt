use Rattle.std.proofs.Common.{◌≡◌, length}
use Rattle.journal_format.specs.Spelling.{are_distinct}
use Rattle.journal_format.proofs.reader.are_distinct.Given as goal

abbrev pub invariant-each : goal.invariant-each
invariant-each l = are_distinct l.rest ≡ are_distinct l.summaries

abbrev pub decreases-each : goal.decreases-each
decreases-each l = length l.rest
