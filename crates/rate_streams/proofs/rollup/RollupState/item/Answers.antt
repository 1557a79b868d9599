use Rattle.std.proofs.Common.{false, cond, ◌∷◌, [], sym, ap, subst, ◌∙◌, ◌++◌}
use Rattle.ev_types.specs.declared.item.Item.TheVariants.{One}
use Rattle.stream_meaning.specs.Emitted.{emitted}
use Rattle.stream_meaning.specs.declared.entry.Entry.TheVariants.{Item as In}
use Rattle.stream_meaning.specs.History.{◌▸◌}
use Rattle.rate_streams.specs.declared.rollup.RollupState.{RollupState}
use Rattle.rate_streams.specs.Rollup.{RollupRepresents}
use Rattle.rate_streams.proofs.RollupLaws.{item_passes, item_represents}
use Rattle.rate_streams.proofs.rollup.RollupState.item.Goals as goal

pub returns-clause-emits : goal.returns-clause-emits
returns-clause-emits c h before moment =
    c.in_ok-send_or_keep.ensures.sent ∙ ap (λ items. c.args.out.now ++ emitted items)
    (item_passes c.args.self.now h c.args.event c.args.now before moment c.admit-passes.result
    c.admit-passes.ensures.test)

pub returns-clause-represents : goal.returns-clause-represents
returns-clause-represents c h before moment =
    subst (λ (s : RollupState). RollupRepresents (record s { poisoned = false }) (h ▸ In (One c.args.event)))
    (sym c.in_ok-send_or_keep.ensures.kept)
    (subst
    (λ (s : RollupState). RollupRepresents
    (record s { waiting = cond c.admit-passes.result s.waiting (s.waiting ++ c.args.event ∷ []); poisoned = false })
    (h ▸ In (One c.args.event)))
    (sym c.admit-passes.ensures.counted)
    (item_represents c.args.self.now h c.args.event c.args.now before moment c.admit-passes.result
    c.admit-passes.ensures.test))
