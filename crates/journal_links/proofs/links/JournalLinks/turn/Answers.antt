use Rattle.std.proofs.Common.{◌≡◌, ◌+◌, ◌++◌, refl, ap, sym, ◌∙◌, arith, rules}
use Rattle.journal_links.specs.Steps.{next_broken, next_inner}
use Rattle.journal_links.proofs.CallLaws.{no_cause, other_calls, own_quiet, risen_if, unfailed}
use Rattle.journal_links.proofs.PassLaws.{passes_quiet, passes_turn, passes_turn_there, same_before, same_last}
use Rattle.ports.specs.Calls.{LinksReport}
use Rattle.ports.specs.Links.{is_failed_turn, next_entries}
use Rattle.recorded_links.specs.Numbers.{first_after}
use Rattle.journal_links.specs.declared.replay.Replay.{Replay}
use Rattle.journal_links.proofs.links.JournalLinks.turn.Goals as goal

pub returns-then-not-is_over-clause-adds : goal.returns-then-not-is_over-clause-adds
returns-then-not-is_over-clause-adds g c = λ log.
    own_quiet log (next_entries c.args.wants.now c.turn_again.new.buf c.turn_again.result)
    (g.L.Links.report c.args.self.now.recorded.inner.now) (g.L.Links.report c.turn_again.new.self.recorded.inner.now)
    (g.D.Disk.report c.args.self.now.recorded.recorder.journal.disk.now)
    (g.D.Disk.report c.turn_again.new.self.recorded.recorder.journal.disk.now) c.turn_again.ensures.inner
    (omega (arith, c.turn_again.ensures.faults))

pub returns-then-not-is_over-clause-passes : goal.returns-then-not-is_over-clause-passes
returns-then-not-is_over-clause-passes g c =
    passes_quiet c.args.self.now.recorded.last c.turn_again.new.self.recorded.last c.args.self.now.log
    c.args.self.now.recorded.log c.turn_again.new.self.recorded.log c.args.wants.now c.turn_again.new.buf
    c.turn_again.result c.turn_again.ensures.last c.turn_again.ensures.there c.turn_again.ensures.before
    c.args.self.now.passes

pub returns-then-not-is_over-clause-cause : goal.returns-then-not-is_over-clause-cause
returns-then-not-is_over-clause-cause g c =
    let same : g.L.Links.report c.turn_again.new.self.recorded.inner.now ≡ g.L.Links.report
    c.args.self.now.recorded.inner.now = c.turn_again.ensures.inner in
    let faults : ((g.L.Links.report c.turn_again.new.self.recorded.inner.now)).faults
    ≡ ((g.L.Links.report c.args.self.now.recorded.inner.now)).faults = ap
    (λ (report : LinksReport). report.faults) same in
    no_cause c.turn_again.result.what
    (((g.L.Links.report c.args.self.now.recorded.inner.now)).faults
    + ((g.D.Disk.report c.args.self.now.recorded.recorder.journal.disk.now)).faults)
    (((g.L.Links.report c.turn_again.new.self.recorded.inner.now)).faults
    + ((g.D.Disk.report c.turn_again.new.self.recorded.recorder.journal.disk.now)).faults) c.turn_again.ensures.unfailed
    (omega (arith, faults, c.turn_again.ensures.faults))

pub returns-then-not-is_over-clause-step : goal.returns-then-not-is_over-clause-step
returns-then-not-is_over-clause-step g c = c.turn_again.ensures.step c.args.wants.now

pub returns-then-not-is_over-clause-disk_failed : goal.returns-then-not-is_over-clause-disk_failed
returns-then-not-is_over-clause-disk_failed g c =
    unfailed c.turn_again.new.self.recorded.disk_failed
    ((g.D.Disk.report c.args.self.now.recorded.recorder.journal.disk.now)).faults
    ((g.D.Disk.report c.turn_again.new.self.recorded.recorder.journal.disk.now)).faults c.turn_again.ensures.disk_failed
    c.turn_again.ensures.faults

pub returns-in-Some-clause-adds : goal.returns-in-Some-clause-adds
returns-in-Some-clause-adds g c = λ log.
    own_quiet log (next_entries c.args.wants.now c.args.buf.now c.break_link.result)
    (g.L.Links.report c.args.self.now.recorded.inner.now) (g.L.Links.report c.break_link.new.self.recorded.inner.now)
    (g.D.Disk.report c.args.self.now.recorded.recorder.journal.disk.now)
    (g.D.Disk.report c.break_link.new.self.recorded.recorder.journal.disk.now) c.break_link.ensures.inner
    (risen_if c.break_link.new.self.recorded.disk_failed
    ((g.D.Disk.report c.args.self.now.recorded.recorder.journal.disk.now)).faults
    ((g.D.Disk.report c.break_link.new.self.recorded.recorder.journal.disk.now)).faults
    c.break_link.ensures.disk_failed)

pub returns-in-Some-clause-passes : goal.returns-in-Some-clause-passes
returns-in-Some-clause-passes g c =
    passes_quiet c.args.self.now.recorded.last c.break_link.new.self.recorded.last c.args.self.now.log
    c.args.self.now.recorded.log c.break_link.new.self.recorded.log c.args.wants.now c.args.buf.now c.break_link.result
    c.break_link.ensures.last c.break_link.ensures.there c.break_link.ensures.before c.args.self.now.passes

pub returns-in-Some-clause-step : goal.returns-in-Some-clause-step
returns-in-Some-clause-step g c = next_broken (search rules) (record {
  link = c.in-Some.link;
  first = sym c.first.ensures ∙ c.in-Some.is;
  gives = c.break_link.ensures.step;
  opened = c.break_link.ensures.opened_links;
  records = ap (λ (replay : Replay). replay.records) c.break_link.ensures.replay;
  given = ap (λ (replay : Replay). replay.given) c.break_link.ensures.replay;
  left = ap (λ (replay : Replay). replay.left.items) c.break_link.ensures.replay;
})

pub returns-in-None-clause-adds : goal.returns-in-None-clause-adds
returns-in-None-clause-adds g c = λ log.
    other_calls log c.args.self.now.recorded.log c.next.new.self.log
    (next_entries c.args.wants.now c.next.new.buf c.next.result) (g.L.Links.report c.args.self.now.recorded.inner.now)
    (g.L.Links.report c.next.new.self.inner.now) (g.D.Disk.report c.args.self.now.recorded.recorder.journal.disk.now)
    (g.D.Disk.report c.next.new.self.recorder.journal.disk.now) c.next.ensures.adds

pub returns-in-None-clause-passes : goal.returns-in-None-clause-passes
returns-in-None-clause-passes g c =
    same_last c.args.self.now.recorded.last c.next.new.self.last
    (c.args.self.now.log ++ (next_entries c.args.wants.now c.next.new.buf c.next.result)) c.next.new.self.log
    c.next.ensures.last
    (passes_turn (first_after c.args.self.now.recorded.last) c.args.self.now.log c.args.self.now.recorded.log
    c.next.new.self.log c.args.wants.now c.next.new.buf c.next.result c.next.ensures.log c.args.self.now.passes)

pub returns-in-None-clause-step : goal.returns-in-None-clause-step
returns-in-None-clause-step g c =
    next_inner (search rules) (sym c.first.ensures ∙ c.in-None.is) c.next.ensures.step
    (record { records = refl; given = refl; left = refl; opened = refl })

pub invariant_of-self-in-None-clause-passes : goal.invariant_of-self-in-None-clause-passes
invariant_of-self-in-None-clause-passes g c =
    same_last c.args.self.now.recorded.last c.next.new.self.last c.args.self.now.log c.next.new.self.log
    c.next.ensures.last
    (passes_turn_there (first_after c.args.self.now.recorded.last) c.args.self.now.log c.args.self.now.recorded.log
    c.next.new.self.log c.args.wants.now c.next.new.buf c.next.result c.next.ensures.log c.args.self.now.passes)

pub invariant_of-self-in-None-clause-before : goal.invariant_of-self-in-None-clause-before
invariant_of-self-in-None-clause-before g c =
    same_before c.args.self.now.recorded.last c.next.new.self.last c.args.self.now.replay.now.records
    c.next.ensures.last c.args.self.now.before

pub returns-then-not-is_over-clause-failed : goal.returns-then-not-is_over-clause-failed
returns-then-not-is_over-clause-failed g c =
    λ failed quiet. absurd (cc (ap is_failed_turn failed, c.turn_again.ensures.unfailed))

pub returns-in-Some-clause-failed : goal.returns-in-Some-clause-failed
returns-in-Some-clause-failed g c = λ failed quiet. absurd (cc (c.break_link.ensures.failed failed, quiet))
