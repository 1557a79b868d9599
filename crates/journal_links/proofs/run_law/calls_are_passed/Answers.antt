use Rattle.journal_links.proofs.LastLaws.{calls_passed}
use Rattle.journal_links.proofs.run_law.calls_are_passed.Goals as goal

pub returns : goal.returns
returns c = calls_passed
