use Rattle.std.proofs.Common.{◌≡◌, ℕ, ◌+◌, ◌∙◌, ap, subst, rules}
use Rattle.hub_run.specs.Runs.{RunsQuietly, run_report}
use Rattle.journal_run.proofs.RunLaws.{disk_still, links_rose, links_still, run_calls}
use Rattle.list_laws.specs.Counts.{Rose}
use Rattle.recorded_links.specs.Lending.{disk_faults}
use Rattle.journal_run.proofs.resumed.run_noted.Goals as goal

pub returns-clause-runs : goal.returns-clause-runs
returns-clause-runs g c =
    let old =
    run_report (g.P.Patterns.report c.args.patterns.now) c.args.steps.now.forks (g.O.Sink.report c.args.sink.now) in
    let new =
    run_report (g.P.Patterns.report c.run_quietly-ended.new.patterns) c.run_quietly-ended.new.steps.forks
    (g.O.Sink.report c.run_quietly-ended.new.sink) in
    rw c.ended_so.ensures.run
    (run_calls c.over-noted.result.links.log c.run_quietly-ended.new.links.links.log
    (g.L.Links.report c.over-noted.result.links.recorded.inner.now)
    (g.L.Links.report c.run_quietly-ended.new.links.links.recorded.inner.now)
    c.over-noted.result.disk_failed c.run_quietly-ended.new.links.disk_failed
    (RunsQuietly c.args.setup c.args.turns c.args.quiet old new c.run_quietly-ended.result) (search rules)
    c.run_quietly-ended.ensures.runs)

pub returns-clause-disk_fault : goal.returns-clause-disk_fault
returns-clause-disk_fault g c = λ is. c.run_quietly-ended.new.links.broke ((c.ended_so.ensures.disk is).1)

pub returns-clause-disk_quiet : goal.returns-clause-disk_quiet
returns-clause-disk_quiet g c =
    let same :
    (g.L.Links.report c.over-noted.result.links.recorded.inner.now).faults ≡ g.K.JournalLoan.lent.lent.links.faults =
    search rules in
    disk_still c.over-noted.result.disk_failed c.run_quietly-ended.new.links.disk_failed
    g.K.JournalLoan.lent.lent.links.faults
    (g.L.Links.report c.run_quietly-ended.new.links.links.recorded.inner.now).faults
    g.K.JournalLoan.lent.lent.disk.faults
    (g.D.Disk.report c.run_quietly-ended.new.links.links.recorded.recorder.journal.disk.now).faults
    c.run_quietly-ended.result c.ended_so.result c.over-noted.ensures.unfailed
    c.run_quietly-ended.new.links.links_faults c.run_quietly-ended.new.links.quiet c.ended_so.ensures.of_disk
    (λ unlike.
    c.run_quietly-ended.ensures.links_quiet unlike
    ∙ ap (λ (n : ℕ). n + disk_faults c.over-noted.result.disk_failed) same)

pub returns-clause-links_fault : goal.returns-clause-links_fault
returns-clause-links_fault g c = λ is.
    let same :
    (g.L.Links.report c.over-noted.result.links.recorded.inner.now).faults ≡ g.K.JournalLoan.lent.lent.links.faults =
    search rules in
    let why = c.ended_so.ensures.links is in
    links_rose c.over-noted.result.disk_failed c.run_quietly-ended.new.links.disk_failed
    g.K.JournalLoan.lent.lent.links.faults
    (g.L.Links.report c.run_quietly-ended.new.links.links.recorded.inner.now).faults c.over-noted.ensures.unfailed why.1
    (subst
    (λ (n : ℕ).
    Rose (n + disk_faults c.over-noted.result.disk_failed)
    ((g.L.Links.report c.run_quietly-ended.new.links.links.recorded.inner.now).faults
    + disk_faults c.run_quietly-ended.new.links.disk_failed))
    same (c.run_quietly-ended.ensures.links_fault why.0))

pub returns-clause-links_quiet : goal.returns-clause-links_quiet
returns-clause-links_quiet g c =
    let same :
    (g.L.Links.report c.over-noted.result.links.recorded.inner.now).faults ≡ g.K.JournalLoan.lent.lent.links.faults =
    search rules in
    links_still c.over-noted.result.disk_failed c.run_quietly-ended.new.links.disk_failed
    g.K.JournalLoan.lent.lent.links.faults
    (g.L.Links.report c.run_quietly-ended.new.links.links.recorded.inner.now).faults c.run_quietly-ended.result
    c.ended_so.result c.over-noted.ensures.unfailed
    c.run_quietly-ended.new.links.links_faults c.ended_so.ensures.of_links c.ended_so.ensures.of_disk
    (λ unlike.
    c.run_quietly-ended.ensures.links_quiet unlike
    ∙ ap (λ (n : ℕ). n + disk_faults c.over-noted.result.disk_failed) same)

pub returns-clause-sink_fault : goal.returns-clause-sink_fault
returns-clause-sink_fault g c = λ is. c.run_quietly-ended.ensures.sink_fault (c.ended_so.ensures.sink is)

pub returns-clause-sink_quiet : goal.returns-clause-sink_quiet
returns-clause-sink_quiet g c =
    λ unlike. c.run_quietly-ended.ensures.sink_quiet (λ is. unlike (c.ended_so.ensures.of_sink is))
