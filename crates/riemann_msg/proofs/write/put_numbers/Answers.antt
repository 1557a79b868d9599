use Rattle.riemann_msg.proofs.Spelled.{begins0, begins1, begins2, begins3, grown4, not_written, numbers_spelled}
use Rattle.riemann_msg.proofs.write.put_numbers.Goals as goal

pub returns-clause-ok : goal.returns-clause-ok
returns-clause-ok c =
    grown4 _ _ _ _ _ _ _ _ _ _ c.in_ok-put_micros.ensures.ok c.in_ok-put_metric.ensures.ok c.in_ok-put_double.ensures.ok
    c.in_ok-put_float.ensures.ok (numbers_spelled c.args.event.now)
