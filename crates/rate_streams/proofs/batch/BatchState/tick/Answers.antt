use Rattle.std.proofs.Common.{◌≡◌, true, false, List, sym, subst, ◌∙◌}
use Rattle.ev_types.specs.declared.event.Event.{Event}
use Rattle.stream_meaning.specs.declared.entry.Entry.TheVariants.{Tick}
use Rattle.stream_meaning.specs.History.{◌▸◌}
use Rattle.rate_streams.specs.Batch.{is_batch_due, BatchRepresents}
use Rattle.rate_streams.proofs.BatchLaws.{quiet_represents, due_represents}
use Rattle.rate_streams.proofs.batch.BatchState.tick.Goals as goal

pub returns-then-not-is_due-clause-represents : goal.returns-then-not-is_due-clause-represents
returns-then-not-is_due-clause-represents c h before moment =
    let idle : is_batch_due c.args.self.now c.args.now ≡ false = sym c.is_due.ensures ∙ c.if-not-is_due.true in
    quiet_represents c.args.self.now h c.args.now before moment idle

pub returns-clause-represents : goal.returns-clause-represents
returns-clause-represents c h before moment =
    let due : is_batch_due c.args.self.now c.args.now ≡ true = sym c.is_due.ensures ∙ c.if-not-is_due.false in
    subst (λ (es : List Event). BatchRepresents (record c.args.self.now { waiting = es; poisoned = false }) (h ▸ Tick))
    (sym (c.replace-waiting.ensures.after ∙ c.fresh.ensures))
    (due_represents c.args.self.now h c.args.now before moment due)
