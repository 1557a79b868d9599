use Rattle.std.proofs.Common.{◌≡◌, true, false, sym, subst, ◌∙◌}
use Rattle.stream_meaning.specs.declared.entry.Entry.TheVariants.{Tick}
use Rattle.stream_meaning.specs.History.{◌▸◌}
use Rattle.rate_streams.specs.declared.rollup.RollupState.{RollupState}
use Rattle.rate_streams.specs.Rollup.{is_rollup_due, RollupRepresents}
use Rattle.rate_streams.proofs.RollupLaws.{quiet_represents, due_represents}
use Rattle.rate_streams.proofs.rollup.RollupState.tick.Goals as goal

pub returns-then-not-is_due-clause-represents : goal.returns-then-not-is_due-clause-represents
returns-then-not-is_due-clause-represents c h before moment =
    let idle : is_rollup_due c.args.self.now c.args.now ≡ false = sym c.is_due.ensures ∙ c.if-not-is_due.true in
    quiet_represents c.args.self.now h c.args.now before moment idle

pub returns-clause-represents : goal.returns-clause-represents
returns-clause-represents c h before moment =
    let due : is_rollup_due c.args.self.now c.args.now ≡ true = sym c.is_due.ensures ∙ c.if-not-is_due.false in
    subst (λ (s : RollupState). RollupRepresents (record s { poisoned = false }) (h ▸ Tick))
    (sym c.roll-waiting.ensures.turned)
    (due_represents c.args.self.now h c.args.now before moment due)
