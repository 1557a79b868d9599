use Rattle.journal_format.proofs.PartLaws.{if_err, not_added, two_cut, two_end}
use Rattle.journal_format.proofs.writer.push_read.Goals as goal

pub returns-in_err-push_of_link-clause-ok : goal.returns-in_err-push_of_link-clause-ok
returns-in_err-push_of_link-clause-ok c = not_added _ c.from_residual.result _ c.from_residual.ensures.1

pub returns-in_err-push_of_link-clause-err : goal.returns-in_err-push_of_link-clause-err
returns-in_err-push_of_link-clause-err c = if_err c.from_residual.result _ c.in_err-push_of_link.ensures.err

pub returns-clause-ok : goal.returns-clause-ok
returns-clause-ok c = two_end c.push_counted.result _ _ _ _ _ c.in_ok-push_of_link.ensures.ok c.push_counted.ensures.ok

pub returns-clause-err : goal.returns-clause-err
returns-clause-err c = two_cut c.push_counted.result _ _ _ _ c.in_ok-push_of_link.ensures.ok c.push_counted.ensures.err
