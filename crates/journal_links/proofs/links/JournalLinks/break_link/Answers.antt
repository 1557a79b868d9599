use Rattle.std.proofs.Common.{ap, sym, ◌∙◌}
use Rattle.journal_links.proofs.GiveLaws.{failed_if, own_before, own_cause, own_within}
use Rattle.ports.specs.declared.links.What.TheVariants.{Broken}
use Rattle.recorded_links.specs.Keeping.{is_lost}
use Rattle.recorded_links.specs.Numbers.{first_after}
use Rattle.recorded_links.specs.Steps.{seen}
use Rattle.journal_links.proofs.links.JournalLinks.break_link.Goals as goal

pub returns-clause-within : goal.returns-clause-within
returns-clause-within g c =
    own_within 65536 (seen (g.L.Links.report c.args.self.now.recorded.inner.now)
    (first_after c.args.self.now.recorded.last) (g.D.Disk.report c.args.self.now.recorded.recorder.journal.disk.now)
    c.args.self.now.recorded.recorder.journal.gate c.args.self.now.recorded.recorder.journal.has_record
    c.args.self.now.recorded.recorder.sends.now.summaries.items c.args.self.now.recorded.spent)
    (seen (g.L.Links.report c.hand_out-turn.new.self.inner.now) (first_after c.hand_out-turn.new.self.last)
    (g.D.Disk.report c.hand_out-turn.new.self.recorder.journal.disk.now) c.hand_out-turn.new.self.recorder.journal.gate
    c.hand_out-turn.new.self.recorder.journal.has_record c.hand_out-turn.new.self.recorder.sends.now.summaries.items
    c.hand_out-turn.new.self.spent) c.last_secs-secs.result c.args.link c.hand_out-turn.result
    c.hand_out-turn.ensures.step

pub returns-clause-before : goal.returns-clause-before
returns-clause-before g c =
    own_before (first_after c.hand_out-turn.new.self.last)
    (seen (g.L.Links.report c.args.self.now.recorded.inner.now) (first_after c.args.self.now.recorded.last)
    (g.D.Disk.report c.args.self.now.recorded.recorder.journal.disk.now) c.args.self.now.recorded.recorder.journal.gate
    c.args.self.now.recorded.recorder.journal.has_record c.args.self.now.recorded.recorder.sends.now.summaries.items
    c.args.self.now.recorded.spent) (seen (g.L.Links.report c.hand_out-turn.new.self.inner.now)
    (first_after c.hand_out-turn.new.self.last) (g.D.Disk.report c.hand_out-turn.new.self.recorder.journal.disk.now)
    c.hand_out-turn.new.self.recorder.journal.gate c.hand_out-turn.new.self.recorder.journal.has_record
    c.hand_out-turn.new.self.recorder.sends.now.summaries.items c.hand_out-turn.new.self.spent) c.last_secs-secs.result
    c.args.link c.hand_out-turn.result c.hand_out-turn.ensures.step

pub returns-clause-cause : goal.returns-clause-cause
returns-clause-cause g c =
    own_cause (seen (g.L.Links.report c.args.self.now.recorded.inner.now) (first_after c.args.self.now.recorded.last)
    (g.D.Disk.report c.args.self.now.recorded.recorder.journal.disk.now) c.args.self.now.recorded.recorder.journal.gate
    c.args.self.now.recorded.recorder.journal.has_record c.args.self.now.recorded.recorder.sends.now.summaries.items
    c.args.self.now.recorded.spent) (seen (g.L.Links.report c.hand_out-turn.new.self.inner.now)
    (first_after c.hand_out-turn.new.self.last) (g.D.Disk.report c.hand_out-turn.new.self.recorder.journal.disk.now)
    c.hand_out-turn.new.self.recorder.journal.gate c.hand_out-turn.new.self.recorder.journal.has_record
    c.hand_out-turn.new.self.recorder.sends.now.summaries.items c.hand_out-turn.new.self.spent) c.last_secs-secs.result
    c.args.link c.hand_out-turn.result (ap g.L.Links.report c.hand_out-turn.ensures.inner) c.hand_out-turn.ensures.step

pub returns-clause-failed : goal.returns-clause-failed
returns-clause-failed g c = λ failed. c.hand_out-turn.ensures.lost ∙ ap (is_lost (Broken c.args.link)) failed

pub returns-clause-lost : goal.returns-clause-lost
returns-clause-lost g c = λ is. failed_if c.hand_out-turn.result.what (sym c.hand_out-turn.ensures.lost ∙ is)
