use Rattle.journal_format.proofs.PartLaws.{if_err, not_added, two_cut, two_end}
use Rattle.journal_format.proofs.writer.push_of_link.Goals as goal

pub returns-in_err-push_bytes-clause-ok : goal.returns-in_err-push_bytes-clause-ok
returns-in_err-push_bytes-clause-ok c = not_added _ c.from_residual.result _ c.from_residual.ensures.1

pub returns-in_err-push_bytes-clause-err : goal.returns-in_err-push_bytes-clause-err
returns-in_err-push_bytes-clause-err c = if_err c.from_residual.result _ c.in_err-push_bytes.ensures.err

pub returns-clause-ok : goal.returns-clause-ok
returns-clause-ok c =
    two_end c.push_bytes-2.result _ _ _ _ _ c.in_ok-push_bytes.ensures.ok
    (rw c.to_be_bytes.ensures at c.push_bytes-2.ensures.ok)

pub returns-clause-err : goal.returns-clause-err
returns-clause-err c = two_cut c.push_bytes-2.result _ _ _ _ c.in_ok-push_bytes.ensures.ok c.push_bytes-2.ensures.err
