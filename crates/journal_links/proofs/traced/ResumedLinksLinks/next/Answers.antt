use Rattle.std.proofs.Common.{refl, ◌+◌, Bool, sym, ◌∙◌, ap, subst, arith}
use Rattle.ports.specs.Calls.{AddsCalls}
use Rattle.ports.specs.Links.{HasNextCause, next_entries}
use Rattle.recorded_links.specs.Numbers.{first_after}
use Rattle.recorded_links.specs.Lending.{disk_faults, traced_report}
use Rattle.recorded_links.proofs.FaultLaws.{next_cause, still_broke, still_least, still_quiet, traced_calls}
use Rattle.recorded_links.specs.Making.{turned}
use Rattle.journal_links.proofs.RisenLaws.{next_risen}
use Rattle.journal_links.proofs.MadeLaws.{made_more}
use Rattle.journal_links.proofs.traced.ResumedLinksLinks.next.Goals as goal

pub returns-clause-adds : goal.returns-clause-adds
returns-clause-adds g c =
    subst (λ (failed : Bool). AddsCalls (traced_report c.args.self.now.links.log
    (g.L.Links.report c.args.self.now.links.recorded.inner.now) c.args.self.now.disk_failed)
    (traced_report c.next-turn.new.self.log (g.L.Links.report c.next-turn.new.self.recorded.inner.now) failed)
    (next_entries c.args.wants.now c.next-turn.new.buf c.next-turn.result))
    (sym c.either-self.ensures)
    (traced_calls c.args.self.now.links.log c.next-turn.new.self.log
    (next_entries c.args.wants.now c.next-turn.new.buf c.next-turn.result)
    (g.L.Links.report c.args.self.now.links.recorded.inner.now)
    (g.L.Links.report c.next-turn.new.self.recorded.inner.now) c.args.self.now.disk_failed
    c.next-turn.new.self.recorded.disk_failed c.next-turn.ensures.log
    (next_risen _ _ _ _ _ _ _ c.next-turn.ensures.step))

pub returns-clause-cause : goal.returns-clause-cause
returns-clause-cause g c =
    subst (λ (failed : Bool). HasNextCause
    ((g.L.Links.report c.args.self.now.links.recorded.inner.now).faults + disk_faults c.args.self.now.disk_failed)
    ((g.L.Links.report c.next-turn.new.self.recorded.inner.now).faults + disk_faults failed) c.next-turn.result.what)
    (sym c.either-self.ensures)
    (next_cause (g.L.Links.report c.args.self.now.links.recorded.inner.now).faults
    (g.L.Links.report c.next-turn.new.self.recorded.inner.now).faults
    (g.D.Disk.report c.args.self.now.links.recorded.recorder.journal.disk.now).faults
    (g.D.Disk.report c.next-turn.new.self.recorded.recorder.journal.disk.now).faults c.args.self.now.disk_failed
    c.next-turn.new.self.recorded.disk_failed c.next-turn.result.what c.next-turn.ensures.cause
    c.next-turn.ensures.disk_failed c.next-turn.ensures.failed c.next-turn.ensures.lost)

pub invariant_of-self-clause-links_faults : goal.invariant_of-self-clause-links_faults
invariant_of-self-clause-links_faults g c =
    let risen = next_risen _ _ _ _ _ _ _ c.next-turn.ensures.step in omega (arith, risen, c.args.self.now.links_faults)

pub invariant_of-self-clause-quiet : goal.invariant_of-self-clause-quiet
invariant_of-self-clause-quiet g c = λ is.
    still_quiet g.K.JournalLoan.lent.lent.disk.faults
    (g.D.Disk.report c.args.self.now.links.recorded.recorder.journal.disk.now).faults
    (g.D.Disk.report c.next-turn.new.self.recorded.recorder.journal.disk.now).faults c.args.self.now.disk_failed
    c.next-turn.new.self.recorded.disk_failed c.args.self.now.quiet c.next-turn.ensures.disk_failed
    (sym c.either-self.ensures ∙ is)

pub invariant_of-self-clause-broke : goal.invariant_of-self-clause-broke
invariant_of-self-clause-broke g c = λ is.
    still_broke g.K.JournalLoan.lent.lent.disk.faults
    (g.D.Disk.report c.args.self.now.links.recorded.recorder.journal.disk.now).faults
    (g.D.Disk.report c.next-turn.new.self.recorded.recorder.journal.disk.now).faults c.args.self.now.disk_failed
    c.next-turn.new.self.recorded.disk_failed c.args.self.now.broke c.args.self.now.disk_faults
    c.next-turn.ensures.disk_failed (sym c.either-self.ensures ∙ is)

pub invariant_of-self-clause-disk_faults : goal.invariant_of-self-clause-disk_faults
invariant_of-self-clause-disk_faults g c =
    still_least g.K.JournalLoan.lent.lent.disk.faults
    (g.D.Disk.report c.args.self.now.links.recorded.recorder.journal.disk.now).faults
    (g.D.Disk.report c.next-turn.new.self.recorded.recorder.journal.disk.now).faults
    c.next-turn.new.self.recorded.disk_failed c.args.self.now.disk_faults c.next-turn.ensures.disk_failed

pub invariant_of-self-clause-made : goal.invariant_of-self-clause-made
invariant_of-self-clause-made g c =
    made_more g.K.JournalLoan.lent.lent.found g.K.JournalLoan.lent.records g.K.JournalLoan.lent.lent.links
    g.K.JournalLoan.lent.lent.disk
    c.args.self.now.links.log c.next-turn.new.self.log (next_entries c.args.wants.now c.next-turn.new.buf
    c.next-turn.result) _ _ c.args.self.now.made
    (turned c.args.wants.now c.next-turn.new.buf c.next-turn.result c.next-turn.ensures.step c.next-turn.ensures.memory
    refl) (ap first_after c.next-turn.ensures.last) c.next-turn.ensures.log
