use Rattle.std.proofs.Common.{◌≡◌, ◌-◌, true, replicate, ap, refl, sym, arith}
use Rattle.std.proofs.lemmas.Result.{err_from_is_err_and}
use Rattle.stream_meaning.specs.Arrivals.{Elapsed}
use Rattle.stream_meaning.specs.History.{moment_of}
use Rattle.event_core.specs.Core.{config_of, state_by}
use Rattle.event_core.proofs.Arriving.{seconds-moments}
use Rattle.event_core.proofs.Longer.{begins, later}
use Rattle.event_core.proofs.Receiving.{receives-all, receives-nothing, receives-part}
use Rattle.event_core.proofs.arrivals.Core.advance.Goals as goal

pub returns-then-self-clause-receives : goal.returns-then-self-clause-receives
returns-then-self-clause-receives g c =
    receives-nothing (replicate (c.args.to - c.args.self.now.clock.moment) Elapsed) c.args.self.now c.args.out.now
    c.args.steps.now _ c.if-self.true

pub returns-in_err-pass-clause-receives : goal.returns-in_err-pass-clause-receives
returns-in_err-pass-clause-receives g c =
    let old = c.args.self.now in
    let config = config_of old in
    let p = err_from_is_err_and c.from_residual.result c.from_residual.ensures.1 in
    rw p.1 (receives-part (replicate (c.args.to - old.clock.moment) Elapsed) old c.args.out.now c.args.steps.now
    (record { streams = c.pass.new.self; clock = old.clock; poisoned = true }) c.pass.new.out c.pass.new.steps
    (ap (λ plan. record { plan = plan; expiry = old.clock.expiry; start = old.clock.start }) c.pass.ensures.plan)
    c.pass.ensures.prefix
    (λ arrivals is. c.pass.ensures.visited (state_by config arrivals) is.holds (sym is.now) (begins config arrivals))
    (λ arrivals is. c.pass.ensures.began (state_by config arrivals) is.holds (sym is.now) (begins config arrivals)) p.0
    refl)

pub returns-clause-receives : goal.returns-clause-receives
returns-clause-receives g c =
    let old = c.args.self.now in
    let config = config_of old in
    let count = c.args.to - old.clock.moment in
    receives-all (replicate count Elapsed) old c.args.out.now c.args.steps.now _ c.pass.new.out c.pass.new.steps
    (ap (λ plan. record { plan = plan; expiry = old.clock.expiry; start = old.clock.start }) c.in_ok-pass.ensures.plan)
    c.in_ok-pass.ensures.prefix
    (λ arrivals is.
    c.in_ok-pass.ensures.visited (state_by config arrivals) is.holds (sym is.now) (begins config arrivals))
    (λ arrivals is.
    c.in_ok-pass.ensures.began (state_by config arrivals) is.holds (sym is.now) (begins config arrivals))
    c.if-self.false refl
    (λ arrivals is.
    c.in_ok-pass.ensures.moved (state_by config arrivals) is.holds (sym is.now) (begins config arrivals))
    (λ arrivals is.
    let moments = seconds-moments config.plan config.expiry count (state_by config arrivals) in
    let now : c.args.to ≡ moment_of (later config arrivals (replicate count Elapsed)).history =
    omega (arith, moments.0, is.now, c.requires.from) in
    now)
