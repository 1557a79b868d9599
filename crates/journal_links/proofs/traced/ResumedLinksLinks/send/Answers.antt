use Rattle.std.proofs.Common.{refl, ◌∙◌, sym, ap, subst, arith}
use Rattle.list_laws.specs.Counts.{Rose}
use Rattle.ports.specs.Links.{send_entries}
use Rattle.recorded_links.specs.Numbers.{first_after}
use Rattle.recorded_links.proofs.FaultLaws.{inner_still, quiet_calls}
use Rattle.recorded_links.specs.Making.{sent}
use Rattle.journal_links.proofs.RisenLaws.{send_still}
use Rattle.journal_links.proofs.MadeLaws.{made_more}
use Rattle.journal_links.proofs.traced.ResumedLinksLinks.send.Goals as goal

pub returns-clause-adds : goal.returns-clause-adds
returns-clause-adds g c =
    quiet_calls c.args.self.now.links.log c.send.new.self.log (send_entries c.args.link c.args.bytes.now c.send.result)
    (g.L.Links.report c.args.self.now.links.recorded.inner.now)
    (g.L.Links.report c.send.new.self.recorded.inner.now) c.args.self.now.disk_failed c.send.ensures.log
    (inner_still _ _ _ _ c.send.ensures.no_fault (send_still _ _ _ _ _ _ _ c.send.ensures.step))

pub returns-clause-no_fault : goal.returns-clause-no_fault
returns-clause-no_fault g c =
    let same = inner_still _ _ _ _ c.send.ensures.no_fault (send_still _ _ _ _ _ _ _ c.send.ensures.step) in
    omega (arith, same)

pub invariant_of-self-clause-links_faults : goal.invariant_of-self-clause-links_faults
invariant_of-self-clause-links_faults g c =
    let same = inner_still _ _ _ _ c.send.ensures.no_fault (send_still _ _ _ _ _ _ _ c.send.ensures.step) in
    omega (arith, same, c.args.self.now.links_faults)

pub invariant_of-self-clause-quiet : goal.invariant_of-self-clause-quiet
invariant_of-self-clause-quiet g c = λ is. send_still _ _ _ _ _ _ _ c.send.ensures.step ∙ c.args.self.now.quiet is

pub invariant_of-self-clause-broke : goal.invariant_of-self-clause-broke
invariant_of-self-clause-broke g c =
    λ is. subst (Rose g.K.JournalLoan.lent.lent.disk.faults) (sym (send_still _ _ _ _ _ _ _ c.send.ensures.step))
    (c.args.self.now.broke is)

pub invariant_of-self-clause-disk_faults : goal.invariant_of-self-clause-disk_faults
invariant_of-self-clause-disk_faults g c =
    let same = send_still _ _ _ _ _ _ _ c.send.ensures.step in omega (arith, same, c.args.self.now.disk_faults)

pub invariant_of-self-clause-made : goal.invariant_of-self-clause-made
invariant_of-self-clause-made g c =
    made_more g.K.JournalLoan.lent.lent.found g.K.JournalLoan.lent.records g.K.JournalLoan.lent.lent.links
    g.K.JournalLoan.lent.lent.disk
    c.args.self.now.links.log c.send.new.self.log (send_entries c.args.link c.args.bytes.now c.send.result) _ _
    c.args.self.now.made
    (sent c.args.link c.args.bytes.now c.send.result c.send.ensures.step c.send.ensures.spent refl)
    (ap first_after c.send.ensures.last) c.send.ensures.log
