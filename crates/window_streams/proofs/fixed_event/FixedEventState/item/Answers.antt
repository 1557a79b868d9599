use Rattle.std.proofs.Common.{cond, [], ◌++◌, length, nat_le, refl, sym, ap, ◌∙◌}
use Rattle.stream_meaning.specs.Came.{vector}
use Rattle.stream_meaning.specs.Emitted.{emitted}
use Rattle.window_streams.proofs.FixedEventLaws.{fixed_event-emits, fixed_event-represents}
use Rattle.window_streams.proofs.fixed_event.FixedEventState.item.Goals as goal

pub returns-clause-emits : goal.returns-clause-emits
returns-clause-emits c = λ h represents now.
    c.in_ok-send_if_full.ensures.sent
    ∙ ap (λ es. c.args.out.now ++ emitted (cond (nat_le c.args.self.now.count (length es)) (vector es) []))
    c.in_ok-push.ensures.ok
    ∙ ap (λ items. c.args.out.now ++ emitted items) (sym (fixed_event-emits c.args.self.now c.args.event h represents))

pub returns-clause-represents : goal.returns-clause-represents
returns-clause-represents c = λ h represents now.
    fixed_event-represents c.args.self.now _ c.args.event h represents refl refl
    (c.in_ok-send_if_full.ensures.waiting
    ∙ ap (λ es. cond (nat_le c.args.self.now.count (length es)) [] es) c.in_ok-push.ensures.ok)
