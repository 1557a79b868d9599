use Rattle.std.proofs.Common.{◌++◌, refl, arith, rules}
use Rattle.journal_links.proofs.CallLaws.{other_calls, own_quiet, send_of}
use Rattle.journal_links.proofs.PassLaws.{passes_send, passes_send_here, passes_send_there, same_before, same_last}
use Rattle.ports.specs.Links.{send_entries}
use Rattle.recorded_links.specs.Numbers.{first_after}
use Rattle.journal_links.proofs.links.JournalLinks.answer_send.Goals as goal

pub returns-then-is_over-clause-adds : goal.returns-then-is_over-clause-adds
returns-then-is_over-clause-adds g c = λ log.
    other_calls log c.args.self.now.recorded.log c.send.new.self.log
    (send_entries c.args.link c.args.bytes.now c.send.result) (g.L.Links.report c.args.self.now.recorded.inner.now)
    (g.L.Links.report c.send.new.self.inner.now) (g.D.Disk.report c.args.self.now.recorded.recorder.journal.disk.now)
    (g.D.Disk.report c.send.new.self.recorder.journal.disk.now) c.send.ensures.adds

pub returns-then-is_over-clause-passes : goal.returns-then-is_over-clause-passes
returns-then-is_over-clause-passes g c =
    same_last c.args.self.now.recorded.last c.send.new.self.last
    (c.args.self.now.log ++ (send_entries c.args.link c.args.bytes.now c.send.result)) c.send.new.self.log
    c.send.ensures.last
    (passes_send (first_after c.args.self.now.recorded.last) c.args.self.now.log c.args.self.now.recorded.log
    c.send.new.self.log c.args.link c.args.bytes.now c.send.result c.send.ensures.log c.args.self.now.passes)

pub returns-then-is_over-clause-step : goal.returns-then-is_over-clause-step
returns-then-is_over-clause-step g c =
    send_of _ _ _ _ c.args.link c.args.bytes.now c.send.result (search rules)
    (record { records = refl; given = refl; left = refl; opened = refl }) c.send.ensures.step c.send.ensures.unsent

pub invariant_of-self-clause-passes : goal.invariant_of-self-clause-passes
invariant_of-self-clause-passes g c =
    same_last c.args.self.now.recorded.last c.send.new.self.last c.args.self.now.log c.send.new.self.log
    c.send.ensures.last
    (passes_send_there (first_after c.args.self.now.recorded.last) c.args.self.now.log c.args.self.now.recorded.log
    c.send.new.self.log c.args.link c.args.bytes.now c.send.result c.send.ensures.log c.args.self.now.passes)

pub returns-clause-adds : goal.returns-clause-adds
returns-clause-adds g c = λ log.
    own_quiet log (send_entries c.args.link c.args.bytes.now c.answer.result)
    (g.L.Links.report c.args.self.now.recorded.inner.now) (g.L.Links.report c.args.self.now.recorded.inner.now)
    (g.D.Disk.report c.args.self.now.recorded.recorder.journal.disk.now)
    (g.D.Disk.report c.args.self.now.recorded.recorder.journal.disk.now) refl (omega arith)

pub returns-clause-passes : goal.returns-clause-passes
returns-clause-passes g c =
    passes_send_here (first_after c.args.self.now.recorded.last) c.args.self.now.log c.args.self.now.recorded.log
    c.args.link c.args.bytes.now c.answer.result c.args.self.now.passes

pub invariant_of-self-clause-before : goal.invariant_of-self-clause-before
invariant_of-self-clause-before g c =
    same_before c.args.self.now.recorded.last c.send.new.self.last c.args.self.now.replay.now.records
    c.send.ensures.last c.args.self.now.before
