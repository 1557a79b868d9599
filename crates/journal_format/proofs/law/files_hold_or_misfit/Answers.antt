use Rattle.journal_format.proofs.WholeLaws.{holds_or_misfits, misfits_one}
use Rattle.journal_format.proofs.law.files_hold_or_misfit.Goals as goal

pub returns-clause-either : goal.returns-clause-either
returns-clause-either c = holds_or_misfits

pub returns-clause-one : goal.returns-clause-one
returns-clause-one c = misfits_one
