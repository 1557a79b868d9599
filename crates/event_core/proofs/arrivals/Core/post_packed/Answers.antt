use Rattle.std.proofs.Common.{true, false, [], ◌∷◌, ap, refl, sym}
use Rattle.std.proofs.lemmas.Result.{err_from_is_err_and}
use Rattle.stream_meaning.specs.Arrivals.{Post}
use Rattle.event_core.specs.Core.{config_of, state_by}
use Rattle.event_core.proofs.Receiving.{receives-all, receives-nothing, receives-part}
use Rattle.event_core.proofs.arrivals.Core.post_packed.Goals as goal

pub returns-then-self-clause-receives : goal.returns-then-self-clause-receives
returns-then-self-clause-receives g c =
    receives-nothing (Post c.args.event.now ∷ []) c.args.self.now c.args.out.now c.args.steps.now _ c.if-self.true

pub returns-in_err-packed_item-clause-receives : goal.returns-in_err-packed_item-clause-receives
returns-in_err-packed_item-clause-receives g c =
    let old = c.args.self.now in
    let p = err_from_is_err_and c.from_residual.result c.from_residual.ensures.1 in
    rw p.1 (receives-part (Post c.args.event.now ∷ []) old c.args.out.now c.args.steps.now
    (record { streams = c.packed_item.new.self; clock = old.clock; poisoned = true }) c.packed_item.new.out c.packed_item.new.steps
    (ap (λ plan. record { plan = plan; expiry = old.clock.expiry; start = old.clock.start }) c.packed_item.ensures.plan)
    c.packed_item.ensures.prefix
    (λ arrivals is. c.packed_item.ensures.visited (state_by (config_of old) arrivals) is.holds (sym is.now))
    (λ arrivals is. c.packed_item.ensures.began (state_by (config_of old) arrivals) is.holds (sym is.now)) p.0 refl)

pub returns-clause-receives : goal.returns-clause-receives
returns-clause-receives g c =
    let old = c.args.self.now in
    receives-all (Post c.args.event.now ∷ []) old c.args.out.now c.args.steps.now
    (record { streams = c.packed_item.new.self; clock = old.clock; poisoned = false }) c.packed_item.new.out c.packed_item.new.steps
    (ap (λ plan. record { plan = plan; expiry = old.clock.expiry; start = old.clock.start }) c.in_ok-packed_item.ensures.plan)
    c.in_ok-packed_item.ensures.prefix
    (λ arrivals is. c.in_ok-packed_item.ensures.visited (state_by (config_of old) arrivals) is.holds (sym is.now))
    (λ arrivals is. c.in_ok-packed_item.ensures.began (state_by (config_of old) arrivals) is.holds (sym is.now))
    c.if-self.false refl
    (λ arrivals is. c.in_ok-packed_item.ensures.moved (state_by (config_of old) arrivals) is.holds (sym is.now))
    (λ arrivals is. is.now)
