use Rattle.journal_format.proofs.OneLaws.{journals_one}
use Rattle.journal_format.proofs.law.journals_are_one.Goals as goal

pub returns : goal.returns
returns c = journals_one
