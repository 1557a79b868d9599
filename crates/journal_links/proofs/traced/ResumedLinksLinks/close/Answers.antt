use Rattle.std.proofs.Common.{refl, ◌∙◌, ◌∷◌, [], sym, ap, subst, arith}
use Rattle.list_laws.specs.Counts.{Rose}
use Rattle.ports.specs.declared.entry.Entry.TheVariants.{Close}
use Rattle.recorded_links.specs.Numbers.{first_after}
use Rattle.recorded_links.proofs.FaultLaws.{inner_still, may_close, quiet_calls}
use Rattle.recorded_links.specs.Making.{closed}
use Rattle.journal_links.proofs.RisenLaws.{close_still}
use Rattle.journal_links.proofs.MadeLaws.{made_more}
use Rattle.journal_links.proofs.traced.ResumedLinksLinks.close.Goals as goal

pub close-requires : goal.close-requires
close-requires g c =
    may_close c.args.self.now.links.log (g.L.Links.report c.args.self.now.links.recorded.inner.now)
    (g.D.Disk.report c.args.self.now.links.recorded.recorder.journal.disk.now) c.args.link c.requires

pub returns-clause-adds : goal.returns-clause-adds
returns-clause-adds g c =
    quiet_calls c.args.self.now.links.log c.close.new.self.log (Close c.args.link ∷ [])
    (g.L.Links.report c.args.self.now.links.recorded.inner.now)
    (g.L.Links.report c.close.new.self.recorded.inner.now) c.args.self.now.disk_failed c.close.ensures.log
    (inner_still _ _ _ _ c.close.ensures.no_fault (close_still _ _ _ _ _ c.close.ensures.step))

pub returns-clause-no_fault : goal.returns-clause-no_fault
returns-clause-no_fault g c =
    let same = inner_still _ _ _ _ c.close.ensures.no_fault (close_still _ _ _ _ _ c.close.ensures.step) in
    omega (arith, same)

pub invariant_of-self-clause-links_faults : goal.invariant_of-self-clause-links_faults
invariant_of-self-clause-links_faults g c =
    let same = inner_still _ _ _ _ c.close.ensures.no_fault (close_still _ _ _ _ _ c.close.ensures.step) in
    omega (arith, same, c.args.self.now.links_faults)

pub invariant_of-self-clause-quiet : goal.invariant_of-self-clause-quiet
invariant_of-self-clause-quiet g c = λ is. close_still _ _ _ _ _ c.close.ensures.step ∙ c.args.self.now.quiet is

pub invariant_of-self-clause-broke : goal.invariant_of-self-clause-broke
invariant_of-self-clause-broke g c =
    λ is. subst (Rose g.K.JournalLoan.lent.lent.disk.faults) (sym (close_still _ _ _ _ _ c.close.ensures.step))
    (c.args.self.now.broke is)

pub invariant_of-self-clause-disk_faults : goal.invariant_of-self-clause-disk_faults
invariant_of-self-clause-disk_faults g c =
    let same = close_still _ _ _ _ _ c.close.ensures.step in omega (arith, same, c.args.self.now.disk_faults)

pub invariant_of-self-clause-made : goal.invariant_of-self-clause-made
invariant_of-self-clause-made g c =
    made_more g.K.JournalLoan.lent.lent.found g.K.JournalLoan.lent.records g.K.JournalLoan.lent.lent.links
    g.K.JournalLoan.lent.lent.disk
    c.args.self.now.links.log c.close.new.self.log (Close c.args.link ∷ []) _ _ c.args.self.now.made
    (closed c.args.link c.close.ensures.step refl) (ap first_after c.close.ensures.last) c.close.ensures.log
