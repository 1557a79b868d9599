use Rattle.std.proofs.Common.{◌≡◌, ◌∙◌, ap, arith, rules}
use Rattle.ports.specs.declared.links.SendAnswer.{SendAnswer}
use Rattle.recorded_links.specs.Numbers.{first_after}
use Rattle.recorded_links.specs.Sending.{after_send}
use Rattle.recorded_links.proofs.StepLaws.{knows_send, offered, own_calls, unsent_calls}
use Rattle.recorded_links.proofs.links.RecordedLinksLinks.send.Goals as goal

pub invariant_of-self-2-clause-knows : goal.invariant_of-self-2-clause-knows
invariant_of-self-2-clause-knows g c =
    let asked = offered (first_after c.args.self.now.last) c.args.link c.args.bytes.now c.offer-answer.result
    c.reserve.new.self.sends.now.summaries.items (g.L.Links.report c.args.self.now.inner.now)
    (g.L.Links.report c.offer-answer.new.inner) c.offer-answer.ensures.passed c.offer-answer.ensures.own
    c.offer-answer.ensures.unnoted in
    knows_send (first_after c.args.self.now.last) c.args.self.now.log c.log_send.new.log
    (g.L.Links.report c.args.self.now.inner.now) (g.L.Links.report c.offer-answer.new.inner) c.args.link asked.number
    c.args.bytes.now asked.answer c.offer-answer.result c.args.self.now.knows asked.calls c.log_send.ensures

pub returns-clause-adds : goal.returns-clause-adds
returns-clause-adds g c =
    let asked = offered (first_after c.args.self.now.last) c.args.link c.args.bytes.now c.offer-answer.result
    c.reserve.new.self.sends.now.summaries.items (g.L.Links.report c.args.self.now.inner.now)
    (g.L.Links.report c.offer-answer.new.inner) c.offer-answer.ensures.passed c.offer-answer.ensures.own
    c.offer-answer.ensures.unnoted in
    let same : (g.D.Disk.report c.note.new.self.journal.disk.now).faults
    ≡ (g.D.Disk.report c.args.self.now.recorder.journal.disk.now).faults = search rules in
    own_calls c.args.self.now.log c.log_send.new.log _ _ (g.L.Links.report c.args.self.now.inner.now)
    (g.L.Links.report c.offer-answer.new.inner) (g.D.Disk.report c.args.self.now.recorder.journal.disk.now)
    (g.D.Disk.report c.note.new.self.journal.disk.now) c.log_send.ensures asked.calls (omega (arith, same))

pub returns-clause-unsent : goal.returns-clause-unsent
returns-clause-unsent g c = λ memory. record {
  calls =
      unsent_calls (first_after c.args.self.now.last) c.args.link c.args.bytes.now c.offer-answer.result
      c.reserve.new.self.sends.now.summaries.items (g.L.Links.report c.args.self.now.inner.now)
      (g.L.Links.report c.offer-answer.new.inner) c.offer-answer.ensures.passed c.offer-answer.ensures.own
      c.offer-answer.ensures.unnoted memory;
  sends =
      c.note.ensures.sends ∙ ap
      (λ (answer : SendAnswer). after_send c.args.link answer c.reserve.new.self.sends.now.summaries.items) memory
      ∙ c.reserve.ensures.items;
  kept = search rules;
  faults = search rules;
}
