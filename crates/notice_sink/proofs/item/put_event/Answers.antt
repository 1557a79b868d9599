use Rattle.notice_sink.proofs.AppendedLemmas.{begins1, begins2, begins3, not_written}
use Rattle.notice_sink.proofs.item.put_event.Goals as goal

pub returns-in_err-push-clause-ok : goal.returns-in_err-push-clause-ok
returns-in_err-push-clause-ok c = not_written _ c.from_residual.result _ c.from_residual.ensures.1

pub returns-in_err-put_first_parts-clause-ok : goal.returns-in_err-put_first_parts-clause-ok
returns-in_err-put_first_parts-clause-ok c = not_written _ c.from_residual-in_err-put_first_parts.result _ c.from_residual-in_err-put_first_parts.ensures.1

pub returns-in_err-put_first_parts-clause-err : goal.returns-in_err-put_first_parts-clause-err
returns-in_err-put_first_parts-clause-err c =
    begins1 c.from_residual-in_err-put_first_parts.result _ _ c.put_first_parts.new.out _ c.in_ok-push.ensures.ok c.in_err-put_first_parts.ensures.err

pub returns-in_err-put_number-clause-ok : goal.returns-in_err-put_number-clause-ok
returns-in_err-put_number-clause-ok c = not_written _ c.from_residual-in_err-put_number.result _ c.from_residual-in_err-put_number.ensures.1

pub returns-in_err-put_number-clause-err : goal.returns-in_err-put_number-clause-err
returns-in_err-put_number-clause-err c =
    begins2 c.from_residual-in_err-put_number.result _ _ _ c.put_number.new.out _ _ c.in_ok-push.ensures.ok c.in_ok-put_first_parts.ensures.ok c.in_err-put_number.ensures.err

pub returns-in_err-put_last_parts-clause-ok : goal.returns-in_err-put_last_parts-clause-ok
returns-in_err-put_last_parts-clause-ok c = not_written _ c.from_residual-in_err-put_last_parts.result _ c.from_residual-in_err-put_last_parts.ensures.1

pub returns-in_err-put_last_parts-clause-err : goal.returns-in_err-put_last_parts-clause-err
returns-in_err-put_last_parts-clause-err c =
    begins3 c.from_residual-in_err-put_last_parts.result _ _ _ _ c.put_last_parts.new.out _ _ _ c.in_ok-push.ensures.ok c.in_ok-put_first_parts.ensures.ok c.in_ok-put_number.ensures.ok c.in_err-put_last_parts.ensures.err
