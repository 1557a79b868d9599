use Rattle.std.proofs.Common.{◌≡◌, refl, ◌∙◌, ap, subst, rules}
use Rattle.disk_port.specs.Calls.{DiskReport}
use Rattle.hub_run.specs.Runs.{run_report}
use Rattle.journal_links.specs.Steps.{progress_of}
use Rattle.journal_run.specs.Resumed.{RunsResumed}
use Rattle.journal_run.proofs.ResumeLaws.{ran_resumed}
use Rattle.journal_run.proofs.RunLaws.{at_last, at_lasts}
use Rattle.list_laws.specs.Counts.{Rose}
use Rattle.ports.specs.Calls.{LinksReport}
use Rattle.recorded_links.specs.Numbers.{first_after}
use Rattle.recorded_links.specs.Steps.{seen}
use Rattle.journal_links.specs.Lending.{LentJournal}
use Rattle.journal_run.proofs.resumed.run_in.Goals as goal

pub returns-clause-runs : goal.returns-clause-runs
returns-clause-runs g c =
    let old =
    run_report (g.P.Patterns.report c.args.patterns.now) c.args.steps.now.forks (g.O.Sink.report c.args.sink.now) in
    let new = run_report (g.P.Patterns.report c.run_noted-ended.new.patterns) c.run_noted-ended.new.steps.forks
    (g.O.Sink.report c.run_noted-ended.new.sink) in
    let links = c.run_noted-ended.result in
    let given = c.over-resumed.result in
    let lent : LentJournal =
    record {
      lent = record {
        links_name = given.recorded.inner.ghost_name;
        disk_name = given.recorded.recorder.journal.disk.ghost_name;
        links = g.L.Links.report given.recorded.inner.now;
        disk = g.D.Disk.report given.recorded.recorder.journal.disk.now;
        found = record {
          gate = given.recorded.recorder.journal.gate;
          has_record = given.recorded.recorder.journal.has_record;
        };
      };
      records = given.replay.now.records;
    } in
    let progress =
    progress_of links.replay.now.records links.replay.now.given links.replay.now.left.items
    links.opened.now.numbers.keys in
    let view =
    seen (g.L.Links.report links.recorded.inner.now) (first_after links.recorded.last)
    (g.D.Disk.report links.recorded.recorder.journal.disk.now)
    links.recorded.recorder.journal.gate links.recorded.recorder.journal.has_record
    links.recorded.recorder.sends.now.summaries.items links.recorded.spent in
    at_lasts g.L.Links.report g.D.Disk.report _ links.recorded.inner.now _ links.recorded.recorder.journal.disk.now
    (λ (links' : LinksReport) (disk' : DiskReport).
    RunsResumed c.args.setup c.args.turns c.args.found c.args.replay.records (g.L.Links.report c.args.links.now) links'
    (g.D.Disk.report c.args.disk.now) disk' old new
    c.run_noted-ended.new.ran)
    (search rules) (search rules)
    (ran_resumed c.args.setup c.args.turns c.args.quiet lent c.args.found c.args.replay.records
    (g.L.Links.report c.args.links.now) (g.D.Disk.report c.args.disk.now)
    links.log view progress (g.D.Disk.report links.recorded.recorder.journal.disk.now) old new
    c.run_noted-ended.new.ran
    (search rules) (search rules) (search rules) (search rules) (search rules) c.run_noted-ended.ensures.runs refl refl
    c.run_noted-ended.ensures.made)

pub returns-clause-opened : goal.returns-clause-opened
returns-clause-opened g c =
    let disk_is : g.D.Disk.report c.over-resumed.result.recorded.recorder.journal.disk.now ≡ g.D.Disk.report
    c.args.disk.now = search rules in
    at_last g.D.Disk.report _ c.run_noted-ended.result.recorded.recorder.journal.disk.now
    (λ (disk' : DiskReport). disk'.opened ≡ (g.D.Disk.report c.args.disk.now).opened) (search rules)
    (c.run_noted-ended.ensures.opened ∙ ap (λ (report : DiskReport). report.opened) disk_is)

pub returns-clause-disk_fault : goal.returns-clause-disk_fault
returns-clause-disk_fault g c = λ is.
    let disk_is : g.D.Disk.report c.over-resumed.result.recorded.recorder.journal.disk.now ≡ g.D.Disk.report
    c.args.disk.now = search rules in
    at_last g.D.Disk.report _ c.run_noted-ended.result.recorded.recorder.journal.disk.now
    (λ (disk' : DiskReport). Rose (g.D.Disk.report c.args.disk.now).faults disk'.faults) (search rules)
    (subst
    (λ (report : DiskReport). Rose report.faults
    (g.D.Disk.report c.run_noted-ended.result.recorded.recorder.journal.disk.now).faults)
    disk_is (c.run_noted-ended.ensures.disk_fault is))

pub returns-clause-disk_quiet : goal.returns-clause-disk_quiet
returns-clause-disk_quiet g c = λ unlike.
    let disk_is : g.D.Disk.report c.over-resumed.result.recorded.recorder.journal.disk.now ≡ g.D.Disk.report
    c.args.disk.now = search rules in
    at_last g.D.Disk.report _ c.run_noted-ended.result.recorded.recorder.journal.disk.now
    (λ (disk' : DiskReport). disk'.faults ≡ (g.D.Disk.report c.args.disk.now).faults) (search rules)
    (c.run_noted-ended.ensures.disk_quiet unlike ∙ ap (λ (report : DiskReport). report.faults) disk_is)

pub returns-clause-links_fault : goal.returns-clause-links_fault
returns-clause-links_fault g c = λ is.
    let links_are : g.L.Links.report c.over-resumed.result.recorded.inner.now ≡ g.L.Links.report c.args.links.now =
    search rules in
    at_last g.L.Links.report _ c.run_noted-ended.result.recorded.inner.now
    (λ (links' : LinksReport). Rose (g.L.Links.report c.args.links.now).faults links'.faults) (search rules)
    (subst
    (λ (report : LinksReport). Rose report.faults (g.L.Links.report c.run_noted-ended.result.recorded.inner.now).faults)
    links_are (c.run_noted-ended.ensures.links_fault is))

pub returns-clause-links_quiet : goal.returns-clause-links_quiet
returns-clause-links_quiet g c = λ unlike unlike'.
    let links_are : g.L.Links.report c.over-resumed.result.recorded.inner.now ≡ g.L.Links.report c.args.links.now =
    search rules in
    at_last g.L.Links.report _ c.run_noted-ended.result.recorded.inner.now
    (λ (links' : LinksReport). links'.faults ≡ (g.L.Links.report c.args.links.now).faults) (search rules)
    (c.run_noted-ended.ensures.links_quiet unlike unlike' ∙ ap (λ (report : LinksReport). report.faults) links_are)
