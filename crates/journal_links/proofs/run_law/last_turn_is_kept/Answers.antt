use Rattle.journal_links.proofs.LastLaws.{last_kept}
use Rattle.journal_links.proofs.run_law.last_turn_is_kept.Goals as goal

pub returns : goal.returns
returns c = last_kept
