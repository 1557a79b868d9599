use Rattle.std.proofs.Common.{false, sym, ap, subst, ◌∙◌, ◌++◌}
use Rattle.ev_types.specs.declared.item.Item.TheVariants.{One}
use Rattle.stream_meaning.specs.Emitted.{emitted}
use Rattle.stream_meaning.specs.declared.entry.Entry.TheVariants.{Item as In}
use Rattle.stream_meaning.specs.History.{◌▸◌}
use Rattle.rate_streams.specs.declared.batch.BatchState.{BatchState}
use Rattle.rate_streams.specs.Batch.{BatchRepresents}
use Rattle.rate_streams.proofs.BatchLaws.{item_passes, item_represents}
use Rattle.rate_streams.proofs.batch.BatchState.item.Goals as goal

pub returns-clause-emits : goal.returns-clause-emits
returns-clause-emits c h before moment =
    c.in_ok-send_if_full.ensures.sent ∙ ap (λ items. c.args.out.now ++ emitted items)
    (item_passes c.args.self.now h c.args.event c.args.now before moment _ c.in_ok-push.ensures.ok)

pub returns-clause-represents : goal.returns-clause-represents
returns-clause-represents c h before moment =
    subst (λ (s : BatchState). BatchRepresents (record s { poisoned = false }) (h ▸ In (One c.args.event)))
    (sym c.in_ok-send_if_full.ensures.kept)
    (item_represents c.args.self.now h c.args.event c.args.now before moment _ _ c.in_ok-push.ensures.ok
    c.number-self.ensures)
