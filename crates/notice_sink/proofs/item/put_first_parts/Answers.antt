use Rattle.notice_sink.proofs.AppendedLemmas.{begins0, begins1, begins2, not_written}
use Rattle.notice_sink.proofs.item.put_first_parts.Goals as goal

pub returns-in_err-put_text-clause-ok : goal.returns-in_err-put_text-clause-ok
returns-in_err-put_text-clause-ok c = not_written _ c.from_residual.result _ c.from_residual.ensures.1

pub returns-in_err-put_text-clause-err : goal.returns-in_err-put_text-clause-err
returns-in_err-put_text-clause-err c =
    begins0 c.from_residual.result c.args.out.now c.put_text.new.out c.in_err-put_text.ensures.err

pub returns-in_err-put_text-2-clause-ok : goal.returns-in_err-put_text-2-clause-ok
returns-in_err-put_text-2-clause-ok c = not_written _ c.from_residual-in_err-put_text-2.result _ c.from_residual-in_err-put_text-2.ensures.1

pub returns-in_err-put_text-2-clause-err : goal.returns-in_err-put_text-2-clause-err
returns-in_err-put_text-2-clause-err c =
    begins1 c.from_residual-in_err-put_text-2.result _ _ c.put_text-2.new.out _ c.in_ok-put_text.ensures.ok c.in_err-put_text-2.ensures.err

pub returns-in_err-put_text-3-clause-ok : goal.returns-in_err-put_text-3-clause-ok
returns-in_err-put_text-3-clause-ok c = not_written _ c.from_residual-in_err-put_text-3.result _ c.from_residual-in_err-put_text-3.ensures.1

pub returns-in_err-put_text-3-clause-err : goal.returns-in_err-put_text-3-clause-err
returns-in_err-put_text-3-clause-err c =
    begins2 c.from_residual-in_err-put_text-3.result _ _ _ c.put_text-3.new.out _ _ c.in_ok-put_text.ensures.ok c.in_ok-put_text-2.ensures.ok c.in_err-put_text-3.ensures.err
