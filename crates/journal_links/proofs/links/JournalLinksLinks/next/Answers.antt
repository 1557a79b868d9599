use Rattle.std.proofs.Common.{◌≡◌, ◌++◌, List, ap, sym, ◌∙◌, subst}
use Rattle.journal_links.proofs.CallLaws.{logged}
use Rattle.ports.specs.Links.{next_entries}
use Rattle.ports.specs.declared.entry.Entry.{Entry}
use Rattle.recorded_links.specs.Numbers.{first_after}
use Rattle.journal_links.specs.Opened.{Passes}
use Rattle.journal_links.proofs.links.JournalLinksLinks.next.Goals as goal

pub returns-clause-adds : goal.returns-clause-adds
returns-clause-adds g c =
    let same : c.turn-turn.new.self.log ≡ c.args.self.now.log = c.turn-turn.ensures.log in
    logged c.args.self.now.log c.log_turn.new.log (next_entries c.args.wants.now c.turn-turn.new.buf c.turn-turn.result)
    (g.L.Links.report c.args.self.now.recorded.inner.now) (g.L.Links.report c.turn-turn.new.self.recorded.inner.now)
    (g.D.Disk.report c.args.self.now.recorded.recorder.journal.disk.now)
    (g.D.Disk.report c.turn-turn.new.self.recorded.recorder.journal.disk.now)
    (c.log_turn.ensures ∙ ap
    (λ (log : List Entry). log ++ (next_entries c.args.wants.now c.turn-turn.new.buf c.turn-turn.result)) same)
    (c.turn-turn.ensures.adds c.args.self.now.log)

pub invariant_of-self-clause-passes : goal.invariant_of-self-clause-passes
invariant_of-self-clause-passes g c =
    let same : c.turn-turn.new.self.log ≡ c.args.self.now.log = c.turn-turn.ensures.log in
    subst (λ (log : List Entry). Passes (first_after c.turn-turn.new.self.recorded.last) log
    c.turn-turn.new.self.recorded.log) (sym
    (c.log_turn.ensures ∙ ap
    (λ (log : List Entry). log ++ (next_entries c.args.wants.now c.turn-turn.new.buf c.turn-turn.result)) same))
    c.turn-turn.ensures.passes
