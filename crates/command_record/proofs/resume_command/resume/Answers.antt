use Rattle.std.proofs.Common.{refl}
use Rattle.command_record.proofs.EndingLaws.{is_disk_failed, is_links_failed, is_write_failed, not_usage}
use Rattle.command_record.proofs.ResumeLaws.{resume_complete}
use Rattle.command_record.proofs.resume_command.resume.Goals as goal

pub returns-clause-promise : goal.returns-clause-promise
returns-clause-promise g c = λ store. record {
  ending = c.resume_from-ending.result;
  ended = c.report_ending.ensures.status;
  says = c.report_ending.ensures.says;
  ends = c.resume_from-ending.ensures.ends;
  unasked = c.resume_from-ending.ensures.unasked;
  causes = c.resume_from-ending.ensures.causes;
  unread = refl;
  complete = λ past journal read told holds is links_still out_still disk_still patterns_still.
      rw c.report_ending.ensures.status
      (resume_complete c.args.journal.now past journal read _ _ _ _ _ _ c.resume_from-ending.result told holds is
      (record { links_still = links_still; out_still = out_still; disk_still = disk_still }) patterns_still
      c.resume_from-ending.ensures.causes c.resume_from-ending.ensures.ends);
}

pub returns-clause-no_file : goal.returns-clause-no_file
returns-clause-no_file g c = λ e. c.resume_from-ending.ensures.not_read (rw c.report_ending.ensures.status at e)

pub returns-clause-sink_fault : goal.returns-clause-sink_fault
returns-clause-sink_fault g c = λ e.
    let causes = c.resume_from-ending.ensures.causes in
    causes.out_failed (is_write_failed c.resume_from-ending.result (rw c.report_ending.ensures.status at e))

pub returns-clause-link_fault : goal.returns-clause-link_fault
returns-clause-link_fault g c = λ e.
    let causes = c.resume_from-ending.ensures.causes in
    causes.links_failed (is_links_failed c.resume_from-ending.result (rw c.report_ending.ensures.status at e))

pub returns-clause-disk_fault : goal.returns-clause-disk_fault
returns-clause-disk_fault g c = λ e.
    let causes = c.resume_from-ending.ensures.causes in
    causes.disk_failed (is_disk_failed c.resume_from-ending.result (rw c.report_ending.ensures.status at e))

pub returns-clause-not_usage : goal.returns-clause-not_usage
returns-clause-not_usage g c = λ e. not_usage c.resume_from-ending.result (rw c.report_ending.ensures.status at e)
