use Rattle.std.proofs.Common.{length}
use Rattle.journal_format.specs.Finding.{HasFront}
use Rattle.journal_format.proofs.finder.find_closed.Given as goal

abbrev pub invariant-records : goal.invariant-records
invariant-records l = HasFront l.first l.bytes l.rest

abbrev pub decreases-records : goal.decreases-records
decreases-records l = length l.rest
