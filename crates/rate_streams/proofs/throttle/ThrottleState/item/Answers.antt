use Rattle.std.proofs.Common.{false, sym, ap, subst, ◌∙◌, ◌++◌}
use Rattle.ev_types.specs.declared.item.Item.TheVariants.{One}
use Rattle.stream_meaning.specs.Emitted.{emitted}
use Rattle.stream_meaning.specs.declared.entry.Entry.TheVariants.{Item as In}
use Rattle.stream_meaning.specs.History.{◌▸◌}
use Rattle.rate_streams.specs.declared.throttle.ThrottleState.{ThrottleState}
use Rattle.rate_streams.specs.Throttle.{ThrottleRepresents}
use Rattle.rate_streams.proofs.ThrottleLaws.{item_passes, item_represents}
use Rattle.rate_streams.proofs.throttle.ThrottleState.item.Goals as goal

pub returns-clause-emits : goal.returns-clause-emits
returns-clause-emits c h before moment =
    c.in_ok-send_if.ensures.ok ∙ ap (λ items. c.args.out.now ++ emitted items)
    (item_passes c.args.self.now h c.args.event c.args.now before moment c.admit-passes.result
    c.admit-passes.ensures.test)

pub returns-clause-represents : goal.returns-clause-represents
returns-clause-represents c h before moment =
    subst (λ (s : ThrottleState). ThrottleRepresents (record s { poisoned = false }) (h ▸ In (One c.args.event)))
    (sym c.admit-passes.ensures.counted)
    (item_represents c.args.self.now h c.args.event c.args.now before moment c.admit-passes.result
    c.admit-passes.ensures.test)
