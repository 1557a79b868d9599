use Rattle.std.proofs.Common.{◌≡◌, ◌++◌, List, ap, sym, ◌∙◌, subst}
use Rattle.journal_links.proofs.CallLaws.{logged}
use Rattle.ports.specs.Links.{listen_entries}
use Rattle.ports.specs.declared.entry.Entry.{Entry}
use Rattle.recorded_links.specs.Numbers.{first_after}
use Rattle.journal_links.specs.Opened.{Passes}
use Rattle.journal_links.proofs.links.JournalLinksLinks.listen.Goals as goal

pub returns-clause-adds : goal.returns-clause-adds
returns-clause-adds g c =
    let same : c.answer_listen-answer.new.self.log ≡ c.args.self.now.log = c.answer_listen-answer.ensures.log in
    logged c.args.self.now.log c.log_listen.new.log (listen_entries c.args.address.now c.answer_listen-answer.result)
    (g.L.Links.report c.args.self.now.recorded.inner.now)
    (g.L.Links.report c.answer_listen-answer.new.self.recorded.inner.now)
    (g.D.Disk.report c.args.self.now.recorded.recorder.journal.disk.now)
    (g.D.Disk.report c.answer_listen-answer.new.self.recorded.recorder.journal.disk.now)
    (c.log_listen.ensures ∙ ap
    (λ (log : List Entry). log ++ (listen_entries c.args.address.now c.answer_listen-answer.result)) same)
    (c.answer_listen-answer.ensures.adds c.args.self.now.log)

pub invariant_of-self-clause-passes : goal.invariant_of-self-clause-passes
invariant_of-self-clause-passes g c =
    let same : c.answer_listen-answer.new.self.log ≡ c.args.self.now.log = c.answer_listen-answer.ensures.log in
    subst (λ (log : List Entry). Passes (first_after c.answer_listen-answer.new.self.recorded.last) log
    c.answer_listen-answer.new.self.recorded.log) (sym
    (c.log_listen.ensures ∙ ap
    (λ (log : List Entry). log ++ (listen_entries c.args.address.now c.answer_listen-answer.result)) same))
    c.answer_listen-answer.ensures.passes
