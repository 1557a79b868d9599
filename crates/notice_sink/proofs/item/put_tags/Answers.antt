use Rattle.notice_sink.proofs.AppendedLemmas.{begins1, begins2, not_written}
use Rattle.notice_sink.proofs.item.put_tags.Goals as goal

pub returns-in_err-append-clause-ok : goal.returns-in_err-append-clause-ok
returns-in_err-append-clause-ok c = not_written _ c.from_residual.result _ c.from_residual.ensures.1

pub returns-in_err-put_quoted-clause-ok : goal.returns-in_err-put_quoted-clause-ok
returns-in_err-put_quoted-clause-ok c = not_written _ c.from_residual-in_err-put_quoted.result _ c.from_residual-in_err-put_quoted.ensures.1

pub returns-in_err-put_quoted-clause-err : goal.returns-in_err-put_quoted-clause-err
returns-in_err-put_quoted-clause-err c =
    begins1 c.from_residual-in_err-put_quoted.result _ _ c.put_quoted.new.out _ c.in_ok-append.ensures.ok c.in_err-put_quoted.ensures.err

pub returns-in_err-put_more_tags-clause-ok : goal.returns-in_err-put_more_tags-clause-ok
returns-in_err-put_more_tags-clause-ok c = not_written _ c.from_residual-in_err-put_more_tags.result _ c.from_residual-in_err-put_more_tags.ensures.1

pub returns-in_err-put_more_tags-clause-err : goal.returns-in_err-put_more_tags-clause-err
returns-in_err-put_more_tags-clause-err c =
    begins2 c.from_residual-in_err-put_more_tags.result _ _ _ c.put_more_tags.new.out _ _ c.in_ok-append.ensures.ok c.in_ok-put_quoted.ensures.ok c.in_err-put_more_tags.ensures.err
