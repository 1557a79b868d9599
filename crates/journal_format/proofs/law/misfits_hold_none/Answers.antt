use Rattle.journal_format.proofs.OneLaws.{misfits_none}
use Rattle.journal_format.proofs.law.misfits_hold_none.Goals as goal

pub returns : goal.returns
returns c = misfits_none
