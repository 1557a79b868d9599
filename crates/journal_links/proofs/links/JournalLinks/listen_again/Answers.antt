use Rattle.std.proofs.Common.{◌≡◌, ◌++◌, refl, ap, sym, subst, arith}
use Rattle.disk_port.specs.Calls.{DiskReport}
use Rattle.journal_links.proofs.GiveLaws.{again_cause, again_failed}
use Rattle.journal_links.proofs.PassLaws.{passes_listen_here, same_last}
use Rattle.ports.specs.Links.{listen_entries}
use Rattle.recorded_links.specs.Numbers.{first_after}
use Rattle.recorded_links.proofs.StepLaws.{own_calls}
use Rattle.journal_links.specs.Opened.{Passes}
use Rattle.journal_links.proofs.links.JournalLinks.listen_again.Goals as goal

pub returns-clause-adds : goal.returns-clause-adds
returns-clause-adds g c = λ log.
    let same : g.D.Disk.report c.listen_again-asked.new.self.recorder.journal.disk.now ≡ g.D.Disk.report
    c.args.self.now.recorded.recorder.journal.disk.now = cc in
    let faults : ((g.D.Disk.report c.listen_again-asked.new.self.recorder.journal.disk.now)).faults
    ≡ ((g.D.Disk.report c.args.self.now.recorded.recorder.journal.disk.now)).faults = ap
    (λ (report : DiskReport). report.faults) same in
    own_calls log (log ++ listen_entries c.args.address.now c.first_answer-answer.result)
    (listen_entries c.args.address.now c.first_answer-answer.result)
    (listen_entries c.args.address.now c.listen_again-asked.result)
    (g.L.Links.report c.args.self.now.recorded.inner.now) (g.L.Links.report c.listen_again-asked.new.self.inner.now)
    (g.D.Disk.report c.args.self.now.recorded.recorder.journal.disk.now)
    (g.D.Disk.report c.listen_again-asked.new.self.recorder.journal.disk.now) refl c.listen_again-asked.ensures.asks
    (omega (arith, faults))

pub returns-clause-passes : goal.returns-clause-passes
returns-clause-passes g c =
    let log : c.listen_again-asked.new.self.log ≡ c.args.self.now.recorded.log = c.listen_again-asked.ensures.log in
    same_last c.args.self.now.recorded.last c.listen_again-asked.new.self.last
    (c.args.self.now.log ++ listen_entries c.args.address.now c.first_answer-answer.result)
    c.listen_again-asked.new.self.log c.listen_again-asked.ensures.last
    (subst (Passes (first_after c.args.self.now.recorded.last)
    (c.args.self.now.log ++ listen_entries c.args.address.now c.first_answer-answer.result)) (sym log)
    (passes_listen_here (first_after c.args.self.now.recorded.last) c.args.self.now.log c.args.self.now.recorded.log
    c.args.address.now c.first_answer-answer.result c.args.self.now.passes))

pub returns-clause-cause : goal.returns-clause-cause
returns-clause-cause g c =
    let same : g.D.Disk.report c.listen_again-asked.new.self.recorder.journal.disk.now ≡ g.D.Disk.report
    c.args.self.now.recorded.recorder.journal.disk.now = cc in
    again_cause c.listen_again-asked.result c.first_answer-answer.result
    ((g.L.Links.report c.args.self.now.recorded.inner.now)).faults
    ((g.L.Links.report c.listen_again-asked.new.self.inner.now)).faults
    ((g.D.Disk.report c.args.self.now.recorded.recorder.journal.disk.now)).faults
    ((g.D.Disk.report c.listen_again-asked.new.self.recorder.journal.disk.now)).faults
    c.listen_again-asked.ensures.cause c.first_answer-answer.ensures.hands
    (ap (λ (report : DiskReport). report.faults) same)

pub returns-clause-again : goal.returns-clause-again
returns-clause-again g c = record {
  unspent = c.requires.unspent;
  unbegun = c.requires.unbegun;
  some = c.requires.some;
  asked = c.listen_again-asked.result;
  asks = c.listen_again-asked.ensures.asks;
  cause = c.listen_again-asked.ensures.cause;
  hands = c.first_answer-answer.ensures.hands;
  gives = record {
    gives = c.first_answer-answer.ensures.gives;
    still = c.first_answer-answer.ensures.still;
    records = c.first_answer-answer.ensures.records;
    opened = refl;
  };
  kept = cc;
  faults = cc;
  sends = cc;
}

pub returns-clause-failed : goal.returns-clause-failed
returns-clause-failed g c =
    λ failed. again_failed c.listen_again-asked.result c.first_answer-answer.result
    (g.L.Links.report c.args.self.now.recorded.inner.now).faults
    (g.L.Links.report c.listen_again-asked.new.self.inner.now).faults c.listen_again-asked.ensures.cause
    c.first_answer-answer.ensures.hands failed
