use Rattle.std.proofs.Common.{◌∷◌, [], refl, sym, ◌∙◌, arith}
use Rattle.journal_links.specs.Steps.{close_again, close_passed}
use Rattle.journal_links.proofs.CallLaws.{logged, other_calls, own_quiet}
use Rattle.journal_links.proofs.PassLaws.{has_number, may_close, no_number, passes_close, passes_close_here}
use Rattle.journal_links.proofs.PassLaws.{same_before, same_last}
use Rattle.ports.specs.declared.entry.Entry.TheVariants.{Close}
use Rattle.recorded_links.specs.Numbers.{first_after, inner_number}
use Rattle.journal_links.proofs.links.JournalLinksLinks.close.Goals as goal

pub close-requires : goal.close-requires
close-requires g c =
    let at = has_number (inner_number (first_after c.args.self.now.recorded.last) c.args.link)
    (sym c.is_inner.ensures ∙ c.if-is_inner.true) in
    may_close (first_after c.args.self.now.recorded.last) c.args.link c.args.self.now.log c.args.self.now.recorded.log
    (g.L.Links.report c.args.self.now.recorded.inner.now).log at.0 at.1 c.args.self.now.passes c.requires

pub invariant_of-self-then-is_inner-clause-passes : goal.invariant_of-self-then-is_inner-clause-passes
invariant_of-self-then-is_inner-clause-passes g c =
    same_last c.args.self.now.recorded.last c.close.new.self.last c.closed.new.self c.close.new.self.log
    c.close.ensures.last
    (passes_close (first_after c.args.self.now.recorded.last) c.args.self.now.log c.closed.new.self
    c.args.self.now.recorded.log c.close.new.self.log c.args.link c.closed.ensures c.close.ensures.log
    c.args.self.now.passes)

pub returns-then-is_inner-clause-adds : goal.returns-then-is_inner-clause-adds
returns-then-is_inner-clause-adds g c =
    logged c.args.self.now.log c.closed.new.self (Close c.args.link ∷ [])
    (g.L.Links.report c.args.self.now.recorded.inner.now) (g.L.Links.report c.close.new.self.inner.now)
    (g.D.Disk.report c.args.self.now.recorded.recorder.journal.disk.now)
    (g.D.Disk.report c.close.new.self.recorder.journal.disk.now) c.closed.ensures
    (other_calls c.args.self.now.log c.args.self.now.recorded.log c.close.new.self.log (Close c.args.link ∷ [])
    (g.L.Links.report c.args.self.now.recorded.inner.now) (g.L.Links.report c.close.new.self.inner.now)
    (g.D.Disk.report c.args.self.now.recorded.recorder.journal.disk.now)
    (g.D.Disk.report c.close.new.self.recorder.journal.disk.now) c.close.ensures.adds)

pub returns-then-is_inner-clause-step : goal.returns-then-is_inner-clause-step
returns-then-is_inner-clause-step g c =
    let at = has_number (inner_number (first_after c.args.self.now.recorded.last) c.args.link)
    (sym c.is_inner.ensures ∙ c.if-is_inner.true) in
    close_passed at.0 at.1 c.close.ensures.step (record { records = refl; given = refl; left = refl; opened = refl })

pub invariant_of-self-else-is_inner-clause-passes : goal.invariant_of-self-else-is_inner-clause-passes
invariant_of-self-else-is_inner-clause-passes g c =
    passes_close_here (first_after c.args.self.now.recorded.last) c.args.self.now.log c.closed.new.self
    c.args.self.now.recorded.log c.args.link c.closed.ensures c.args.self.now.passes

pub returns-else-is_inner-clause-adds : goal.returns-else-is_inner-clause-adds
returns-else-is_inner-clause-adds g c =
    logged c.args.self.now.log c.closed.new.self (Close c.args.link ∷ [])
    (g.L.Links.report c.args.self.now.recorded.inner.now) (g.L.Links.report c.args.self.now.recorded.inner.now)
    (g.D.Disk.report c.args.self.now.recorded.recorder.journal.disk.now)
    (g.D.Disk.report c.args.self.now.recorded.recorder.journal.disk.now) c.closed.ensures
    (own_quiet c.args.self.now.log (Close c.args.link ∷ []) (g.L.Links.report c.args.self.now.recorded.inner.now)
    (g.L.Links.report c.args.self.now.recorded.inner.now)
    (g.D.Disk.report c.args.self.now.recorded.recorder.journal.disk.now)
    (g.D.Disk.report c.args.self.now.recorded.recorder.journal.disk.now) refl (omega arith))

pub returns-else-is_inner-clause-step : goal.returns-else-is_inner-clause-step
returns-else-is_inner-clause-step g c =
    close_again (no_number (inner_number (first_after c.args.self.now.recorded.last) c.args.link)
    (sym c.is_inner.ensures ∙ c.if-is_inner.false)) c.closed-else-is_inner.ensures refl refl refl
    (record { inner = refl; kept = refl; faults = refl; sends = refl }) (λ spent. spent)

pub invariant_of-self-then-is_inner-clause-before : goal.invariant_of-self-then-is_inner-clause-before
invariant_of-self-then-is_inner-clause-before g c =
    same_before c.args.self.now.recorded.last c.close.new.self.last c.args.self.now.replay.now.records
    c.close.ensures.last c.args.self.now.before
