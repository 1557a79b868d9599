use Rattle.journal_format.proofs.OneLaws.{prefixes}
use Rattle.journal_format.proofs.law.prefixes_are_journals.Goals as goal

pub returns : goal.returns
returns c = prefixes
