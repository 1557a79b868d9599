use Rattle.journal_links.proofs.KeepLaws.{begun_keeps, resumed_keeps}
use Rattle.journal_links.proofs.law.journals_have_turns.Goals as goal

pub returns-clause-begun : goal.returns-clause-begun
returns-clause-begun c = begun_keeps

pub returns-clause-resumed : goal.returns-clause-resumed
returns-clause-resumed c = resumed_keeps
