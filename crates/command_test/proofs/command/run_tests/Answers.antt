use Rattle.std.proofs.Common.{refl}
use Rattle.command_test.proofs.CommandLaws.{ends_put_rose, ends_rose, ends_shown, no_link, no_usage}
use Rattle.command_test.proofs.command.run_tests.Goals as goal

pub returns-clause-promise : goal.returns-clause-promise
returns-clause-promise g c = λ links. record {
  ending = c.run_files-ending.result;
  ended = c.report_ending.ensures.status;
  says = c.report_ending.ensures.says;
  ends = c.run_files-ending.ensures.ends;
  unasked = c.run_files-ending.ensures.unasked;
  untouched = c.run_files-ending.ensures.untouched;
  quiet = c.run_files-ending.ensures.quiet;
  idle = refl;
  complete = λ text lines read given holds is few held are short reads_still puts_still still.
      rw c.report_ending.ensures.status
      (ends_shown read given text lines is are few short (g.S.Store.report c.args.store.now)
      (g.S.Store.report c.run_files-ending.new.store) _ _ reads_still puts_still still c.args.config.now
      c.args.tests.now c.run_files-ending.result
      holds held c.run_files-ending.ensures.ends);
}

pub returns-clause-read_fault : goal.returns-clause-read_fault
returns-clause-read_fault g c =
    λ e. ends_rose c.args.config.now c.args.tests.now (g.S.Store.report c.args.store.now)
    (g.S.Store.report c.run_files-ending.new.store) _ _ c.run_files-ending.result c.run_files-ending.ensures.ends
    (rw c.report_ending.ensures.status at e)

pub returns-clause-sink_fault : goal.returns-clause-sink_fault
returns-clause-sink_fault g c =
    λ e. ends_put_rose c.args.config.now c.args.tests.now (g.S.Store.report c.args.store.now)
    (g.S.Store.report c.run_files-ending.new.store) _ _ c.run_files-ending.result c.run_files-ending.ensures.ends
    (rw c.report_ending.ensures.status at e)

pub returns-clause-links_work : goal.returns-clause-links_work
returns-clause-links_work g c =
    λ e. no_link c.args.config.now c.args.tests.now (g.S.Store.report c.args.store.now)
    (g.S.Store.report c.run_files-ending.new.store) _ _ c.run_files-ending.result c.run_files-ending.ensures.ends
    (rw c.report_ending.ensures.status at e)

pub returns-clause-not_usage : goal.returns-clause-not_usage
returns-clause-not_usage g c = λ e. no_usage c.run_files-ending.result (rw c.report_ending.ensures.status at e)
