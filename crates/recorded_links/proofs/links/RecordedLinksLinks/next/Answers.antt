use Rattle.std.proofs.Common.{ℕ, List, subst, sym, ◌∙◌, rules}
use Rattle.journal_format.specs.Spelling.{IsRecord, record_bytes}
use Rattle.recorded_links.specs.Keeping.{AddsRecord, entry_of, is_recorded, kept_of}
use Rattle.recorded_links.specs.Numbers.{first_after}
use Rattle.recorded_links.specs.Steps.{next_taken}
use Rattle.recorded_links.proofs.StepLaws.{inner_failed, knows_next, lost_fails}
use Rattle.recorded_links.proofs.links.RecordedLinksLinks.next.Goals as goal

pub returns-clause-step : goal.returns-clause-step
returns-clause-step g c = next_taken (record {
  ready = record { unspent = search rules; begun = search rules };
  room = search rules;
  asked = c.ask-asked.result;
  asks = c.ask-asked.ensures.asks;
  hands = c.keep_turn-turn.ensures.hands;
  allowed =
      λ recorded. subst
      (λ (piece : List ℕ). IsRecord
      (entry_of c.args.self.now.recorder.sends.now.summaries.items c.ask-asked.result piece))
      (c.count_read-count.ensures.piece c.ask-asked.new.buf) (c.keep_turn-turn.ensures.allowed recorded);
  records = λ recorded. subst
      (λ (piece : List ℕ). AddsRecord
      (record_bytes (entry_of c.args.self.now.recorder.sends.now.summaries.items c.ask-asked.result piece))
      (is_recorded c.keep_turn-turn.result.what)
      (kept_of (g.D.Disk.report c.args.self.now.recorder.journal.disk.now).past c.args.self.now.recorder.journal.gate
      c.args.self.now.recorder.journal.has_record)
      (kept_of (g.D.Disk.report c.keep_turn-turn.new.self.journal.disk.now).past c.keep_turn-turn.new.self.journal.gate
      c.keep_turn-turn.new.self.journal.has_record))
      (c.count_read-count.ensures.piece c.ask-asked.new.buf) (c.keep_turn-turn.ensures.records recorded);
  other = c.keep_turn-turn.ensures.other;
  faults = c.keep_turn-turn.ensures.faults;
  cleared = c.keep_turn-turn.ensures.cleared;
  uncleared = c.keep_turn-turn.ensures.uncleared;
  begun = c.keep_turn-turn.ensures.begun;
  spent = search rules;
})

pub invariant_of-self-2-clause-knows : goal.invariant_of-self-2-clause-knows
invariant_of-self-2-clause-knows g c =
    knows_next (first_after c.args.self.now.last) c.args.self.now.log c.log_turn-2.new.log
    (g.L.Links.report c.args.self.now.inner.now) (g.L.Links.report c.ask-asked.new.inner) c.args.wants.now
    c.ask-asked.new.buf c.ask-asked.result c.keep_turn-turn.result
    c.args.self.now.knows c.ask-asked.ensures.asks c.keep_turn-turn.ensures.hands c.log_turn-2.ensures

pub returns-clause-failed : goal.returns-clause-failed
returns-clause-failed g c = λ failed kept.
    inner_failed (first_after c.args.self.now.last) (g.L.Links.report c.args.self.now.inner.now)
    (g.L.Links.report c.ask-asked.new.inner) c.args.wants.now c.ask-asked.new.buf c.ask-asked.result
    c.keep_turn-turn.result
    c.ask-asked.ensures.asks failed (sym c.is_lost-self.ensures ∙ kept)

pub returns-clause-lost : goal.returns-clause-lost
returns-clause-lost g c =
    λ lost. lost_fails c.ask-asked.result.what c.keep_turn-turn.result.what (sym c.is_lost-self.ensures ∙ lost)
