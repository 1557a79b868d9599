use Rattle.std.proofs.Common.{ap, ◌∙◌, filter, length, ◌+◌, ◌++◌}
use Rattle.pred_eval.specs.Truth.{holds}
use Rattle.live_index.specs.Index.{visited}
use Rattle.live_index.proofs.SlotsLaws.{not_poisoned}
use Rattle.live_index.proofs.index.EventIndex.search.Goals as goal

pub returns-clause-ok : goal.returns-clause-ok
returns-clause-ok g c =
    c.in_ok-copy_matching.ensures.ok
    ∙ ap (λ events. c.args.out.now ++ filter (holds c.args.pred.now) events)
    (not_poisoned c.self.inside.poisoned c.self.inside.slots.numbers c.self.inside.slots.events.values c.if-self.false
    ∙ ap (λ index. index.events) c.self.view_is)

pub returns-clause-counted : goal.returns-clause-counted
returns-clause-counted g c =
    c.in_ok-copy_matching.ensures.counted
    ∙ ap (λ events. c.args.steps.now.entries + length (visited c.args.pred.now events))
    (not_poisoned c.self.inside.poisoned c.self.inside.slots.numbers c.self.inside.slots.events.values c.if-self.false
    ∙ ap (λ index. index.events) c.self.view_is)
