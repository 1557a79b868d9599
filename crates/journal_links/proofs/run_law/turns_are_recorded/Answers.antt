use Rattle.journal_links.proofs.LastLaws.{turns_recorded}
use Rattle.journal_links.proofs.run_law.turns_are_recorded.Goals as goal

pub returns : goal.returns
returns c = turns_recorded
