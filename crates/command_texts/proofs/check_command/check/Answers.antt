use Rattle.std.proofs.Common.{refl}
use Rattle.command_texts.proofs.CheckLaws.{check_complete, links_not_called}
use Rattle.command_texts.proofs.check_command.check.Goals as goal

pub returns-clause-promise : goal.returns-clause-promise
returns-clause-promise g c = λ links forks. record {
  ending = c.check_file-ending.result;
  ended = c.report.ensures.status;
  says = c.report.ensures.says;
  cause = c.check_file-ending.ensures.cause;
  reads = c.check_file-ending.ensures.reads;
  taken = c.check_file-ending.ensures.taken;
  writes = c.check_file-ending.ensures.writes;
  unasked = c.check_file-ending.ensures.unasked;
  quiet = c.check_file-ending.ensures.quiet;
  idle = (refl, refl);
  complete = λ text read holds reads fits reads_still out_still patterns_still.
      rw c.report.ensures.status (check_complete c.args.config.now (g.S.Store.report c.args.store.now)
      (g.S.Store.report c.check_file-ending.new.store) text read _ _ _ _ _ _ c.check_file-ending.result holds reads fits
      c.check_file-ending.ensures.cause c.check_file-ending.ensures.writes c.check_file-ending.ensures.read_fault
      c.check_file-ending.ensures.sink_fault
      reads_still out_still patterns_still);
}

pub returns-clause-links_work : goal.returns-clause-links_work
returns-clause-links_work g c =
    λ e.
    links_not_called c.args.config.now (g.S.Store.report c.args.store.now)
    (g.S.Store.report c.check_file-ending.new.store) c.check_file-ending.result c.check_file-ending.ensures.cause (rw c.report.ensures.status at e)
