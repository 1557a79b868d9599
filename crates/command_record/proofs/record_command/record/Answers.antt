use Rattle.command_setup.specs.command_io.Reports.{reports}
use Rattle.command_record.proofs.EndingLaws.{is_disk_failed, is_links_failed, is_write_failed, not_usage}
use Rattle.command_record.proofs.RecordLaws.{record_complete}
use Rattle.command_record.proofs.record_command.record.Goals as goal

pub returns-clause-promise : goal.returns-clause-promise
returns-clause-promise g c =
    let old = reports (g.S.Store.report c.args.store.now)
    (g.L.Links.report c.args.links.now) (g.O.Sink.report c.args.out.now)
    (g.E.Sink.report c.args.err.now) (g.P.Patterns.report c.args.patterns.now) c.args.steps.now.forks in
    let new = reports (g.S.Store.report c.record_config-ending.new.store)
    (g.L.Links.report c.record_config-ending.new.links) (g.O.Sink.report c.record_config-ending.new.out)
    (g.E.Sink.report c.report_ending.new.err) (g.P.Patterns.report c.record_config-ending.new.patterns)
    c.record_config-ending.new.steps.forks in
    let disk = g.D.Disk.report c.args.disk.now in
    let disk' = g.D.Disk.report c.record_config-ending.new.disk in
    let ending = c.record_config-ending.result in
    let ends =
    c.record_config-ending.ensures.ends (g.E.Sink.report c.args.err.now) (g.E.Sink.report c.report_ending.new.err) in
    record {
      ending = ending;
      ended = c.report_ending.ensures.status;
      says = c.report_ending.ensures.says;
      ends = ends;
      reads = c.record_config-ending.ensures.reads;
      unasked = c.record_config-ending.ensures.unasked;
      causes = c.record_config-ending.ensures.causes;
      quiet = c.record_config-ending.ensures.quiet;
      complete = λ text read past holds is fits told free reads_still links_still out_still disk_still patterns_still.
          rw c.report_ending.ensures.status
          (record_complete c.args.config.now c.args.journal.now text read past old new disk disk' ending holds is fits
          told free reads_still
          (record { links_still = links_still; out_still = out_still; disk_still = disk_still }) patterns_still
          c.record_config-ending.ensures.causes ends);
    }

pub returns-clause-read_fault : goal.returns-clause-read_fault
returns-clause-read_fault g c = λ e. c.record_config-ending.ensures.read_fault (rw c.report_ending.ensures.status at e)

pub returns-clause-sink_fault : goal.returns-clause-sink_fault
returns-clause-sink_fault g c = λ e.
    let causes = c.record_config-ending.ensures.causes in
    causes.out_failed (is_write_failed c.record_config-ending.result (rw c.report_ending.ensures.status at e))

pub returns-clause-link_fault : goal.returns-clause-link_fault
returns-clause-link_fault g c = λ e.
    let causes = c.record_config-ending.ensures.causes in
    causes.links_failed (is_links_failed c.record_config-ending.result (rw c.report_ending.ensures.status at e))

pub returns-clause-disk_fault : goal.returns-clause-disk_fault
returns-clause-disk_fault g c = λ e.
    let causes = c.record_config-ending.ensures.causes in
    causes.disk_failed (is_disk_failed c.record_config-ending.result (rw c.report_ending.ensures.status at e))

pub returns-clause-not_usage : goal.returns-clause-not_usage
returns-clause-not_usage g c = λ e. not_usage c.record_config-ending.result (rw c.report_ending.ensures.status at e)
