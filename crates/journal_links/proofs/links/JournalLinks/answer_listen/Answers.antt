use Rattle.std.proofs.Common.{◌++◌, [], refl, arith, rules}
use Rattle.journal_links.specs.Steps.{listen_again, listen_first, listen_unasked}
use Rattle.journal_links.proofs.CallLaws.{other_calls, own_quiet}
use Rattle.journal_links.proofs.PassLaws.{passes_listen, passes_listen_there, same_before, same_last}
use Rattle.ports.specs.Links.{listen_entries}
use Rattle.recorded_links.specs.Numbers.{first_after}
use Rattle.journal_links.proofs.links.JournalLinks.answer_listen.Goals as goal

pub returns-then-is_over-clause-adds : goal.returns-then-is_over-clause-adds
returns-then-is_over-clause-adds g c = λ log.
    other_calls log c.args.self.now.recorded.log c.listen.new.self.log
    (listen_entries c.args.address.now c.listen.result) (g.L.Links.report c.args.self.now.recorded.inner.now)
    (g.L.Links.report c.listen.new.self.inner.now) (g.D.Disk.report c.args.self.now.recorded.recorder.journal.disk.now)
    (g.D.Disk.report c.listen.new.self.recorder.journal.disk.now) c.listen.ensures.adds

pub returns-then-is_over-clause-passes : goal.returns-then-is_over-clause-passes
returns-then-is_over-clause-passes g c =
    same_last c.args.self.now.recorded.last c.listen.new.self.last
    (c.args.self.now.log ++ (listen_entries c.args.address.now c.listen.result)) c.listen.new.self.log
    c.listen.ensures.last
    (passes_listen (first_after c.args.self.now.recorded.last) c.args.self.now.log c.args.self.now.recorded.log
    c.listen.new.self.log c.args.address.now c.listen.result c.listen.ensures.log c.args.self.now.passes)

pub returns-then-is_over-clause-step : goal.returns-then-is_over-clause-step
returns-then-is_over-clause-step g c =
    listen_first (search rules) c.listen.ensures.step
    (record { records = refl; given = refl; left = refl; opened = refl })

pub invariant_of-self-clause-passes : goal.invariant_of-self-clause-passes
invariant_of-self-clause-passes g c =
    same_last c.args.self.now.recorded.last c.listen.new.self.last c.args.self.now.log c.listen.new.self.log
    c.listen.ensures.last
    (passes_listen_there (first_after c.args.self.now.recorded.last) c.args.self.now.log c.args.self.now.recorded.log
    c.listen.new.self.log c.args.address.now c.listen.result c.listen.ensures.log c.args.self.now.passes)

pub returns-then-self-clause-adds : goal.returns-then-self-clause-adds
returns-then-self-clause-adds g c =
    λ log. own_quiet log [] (g.L.Links.report c.args.self.now.recorded.inner.now)
    (g.L.Links.report c.args.self.now.recorded.inner.now)
    (g.D.Disk.report c.args.self.now.recorded.recorder.journal.disk.now)
    (g.D.Disk.report c.args.self.now.recorded.recorder.journal.disk.now) refl (omega arith)

pub returns-then-self-clause-step : goal.returns-then-self-clause-step
returns-then-self-clause-step g c =
    listen_unasked (search rules) refl (search rules)
    (record { records = refl; given = refl; left = refl; opened = refl })

pub returns-clause-step : goal.returns-clause-step
returns-clause-step g c = listen_again c.listen_again.ensures.again

pub invariant_of-self-clause-before : goal.invariant_of-self-clause-before
invariant_of-self-clause-before g c =
    same_before c.args.self.now.recorded.last c.listen.new.self.last c.args.self.now.replay.now.records
    c.listen.ensures.last c.args.self.now.before
