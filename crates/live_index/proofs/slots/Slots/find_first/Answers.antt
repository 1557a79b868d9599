use Rattle.std.proofs.Common.{arith, sym, ap, ◌∙◌, subst, ◌++◌}
use Rattle.std.proofs.lemmas.Result.{on_ok_weaker}
use Rattle.pred_eval.specs.Host.{asked_host}
use Rattle.pred_eval.specs.Truth.{holds}
use Rattle.live_index.specs.Index.{events_lent}
use Rattle.live_index.specs.Slots.{AreLive}
use Rattle.live_index.proofs.FirstLaws.{asked-first}
use Rattle.live_index.proofs.HostLaws.{asked-count, asked-live}
use Rattle.live_index.proofs.slots.Slots.find_first.Goals as goal

pub find_at-requires : goal.find_at-requires
find_at-requires g c =
    let slots = c.args.self.now in
    subst (AreLive slots.events.values) (sym (c.as_slice.ensures.value ∙ c.in_ok-numbers.ensures.numbers))
    (asked-live slots.numbers slots.events.values c.requires.linked (asked_host c.args.pred.now))

pub returns-clause-ok : goal.returns-clause-ok
returns-clause-ok g c =
    let slots = c.args.self.now in
    on_ok_weaker c.find_at.result
    (λ first. first
    ∙ ap (λ events. events_lent c.args.found.now.items ++ events)
    (asked-first slots.numbers slots.events.values c.requires.linked (holds c.args.pred.now)
    (asked_host c.args.pred.now) c.as_slice.result.now c.args.limit
    (c.as_slice.ensures.value ∙ c.in_ok-numbers.ensures.numbers) c.numbers_for.ensures.needs))
    c.find_at.ensures.ok

pub returns-clause-entries : goal.returns-clause-entries
returns-clause-entries g c =
    let slots = c.args.self.now in
    let count =
    asked-count slots.numbers slots.events.values c.requires.linked (asked_host c.args.pred.now) c.as_slice.result.now
    (c.as_slice.ensures.value ∙ c.in_ok-numbers.ensures.numbers) in
    omega (arith, count, c.find_at.ensures.entries)
