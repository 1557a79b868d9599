use Rattle.notice_sink.proofs.AppendedLemmas.{begins0, begins1, begins2, not_written}
use Rattle.notice_sink.proofs.item.put_last_parts.Goals as goal

pub returns-in_err-put_ttl-clause-ok : goal.returns-in_err-put_ttl-clause-ok
returns-in_err-put_ttl-clause-ok c = not_written _ c.from_residual.result _ c.from_residual.ensures.1

pub returns-in_err-put_ttl-clause-err : goal.returns-in_err-put_ttl-clause-err
returns-in_err-put_ttl-clause-err c =
    begins0 c.from_residual.result c.args.out.now c.put_ttl.new.out c.in_err-put_ttl.ensures.err

pub returns-in_err-put_metric-clause-ok : goal.returns-in_err-put_metric-clause-ok
returns-in_err-put_metric-clause-ok c = not_written _ c.from_residual-in_err-put_metric.result _ c.from_residual-in_err-put_metric.ensures.1

pub returns-in_err-put_metric-clause-err : goal.returns-in_err-put_metric-clause-err
returns-in_err-put_metric-clause-err c =
    begins1 c.from_residual-in_err-put_metric.result _ _ c.put_metric.new.out _ c.in_ok-put_ttl.ensures.ok c.in_err-put_metric.ensures.err

pub returns-in_err-put_tags-clause-ok : goal.returns-in_err-put_tags-clause-ok
returns-in_err-put_tags-clause-ok c = not_written _ c.from_residual-in_err-put_tags.result _ c.from_residual-in_err-put_tags.ensures.1

pub returns-in_err-put_tags-clause-err : goal.returns-in_err-put_tags-clause-err
returns-in_err-put_tags-clause-err c =
    begins2 c.from_residual-in_err-put_tags.result _ _ _ c.put_tags.new.out _ _ c.in_ok-put_ttl.ensures.ok c.in_ok-put_metric.ensures.ok c.in_err-put_tags.ensures.err
