use Rattle.std.proofs.Common.{◌≡◌, ◌+◌, ◌-◌, replicate, ◌∙◌, arith}
use Rattle.stream_meaning.specs.Arrivals.{Elapsed, state_from}
use Rattle.stream_meaning.specs.History.{moment_of}
use Rattle.event_core.specs.Streams.{plan_of}
use Rattle.event_core.proofs.Moves.{both-fronts}
use Rattle.event_core.proofs.Arriving.{pass-more, seconds-moments}
use Rattle.event_core.proofs.Visits.{pass-part, pass-visited}
use Rattle.event_core.proofs.streams.IndexedStreams.pass.Goals as goal

pub loop-now-preserved : goal.loop-now-preserved
loop-now-preserved g c =
    let plan = plan_of c.args.self.now in
    let clock = c.args.clock.now in
    let count = c.loop-now.now - clock.moment in (
      c.in_ok-second.ensures.plan ∙ c.loop-now.invariant.0,
      λ state holds at begins.
          let before = state_from plan clock.expiry (replicate count Elapsed) state in
          let first = c.loop-now.invariant.1 state holds at begins in
          let moments = seconds-moments plan clock.expiry count state in
          let moment : moment_of before.history + 1 ≡ c.loop-now.now + 1 =
          omega (arith, moments.0, at, c.loop-now.auto.now) in
          pass-more plan (plan_of c.loop-now.self) clock.expiry c.loop-now.self c.second.new.self clock.moment
          c.loop-now.now state
          c.args.out.now c.args.steps.now.forks c.loop-now.out c.loop-now.steps.forks c.second.new.out
          c.second.new.steps.forks
          c.loop-now.auto.now c.loop-now.invariant.0 first
          (c.in_ok-second.ensures.moved before first.holds moment (moments.1 ∙ begins)),
      both-fronts c.args.out.now c.loop-now.out c.second.new.out c.loop-now.invariant.2 c.in_ok-second.ensures.prefix,
      λ state holds at begins.
          let before = state_from plan clock.expiry (replicate count Elapsed) state in
          let first = c.loop-now.invariant.1 state holds at begins in
          let moments = seconds-moments plan clock.expiry count state in
          let moment : moment_of before.history + 1 ≡ c.loop-now.now + 1 =
          omega (arith, moments.0, at, c.loop-now.auto.now) in
          pass-visited plan (plan_of c.loop-now.self) clock.expiry clock.moment c.loop-now.now state
          c.args.steps.now.entries c.loop-now.steps.entries c.second.new.steps.entries
          c.loop-now.auto.now c.loop-now.invariant.0 (c.loop-now.invariant.3 state holds at begins)
          (c.second.ensures.visited before first.holds moment (moments.1 ∙ begins)),
      λ state holds at begins.
          let before = state_from plan clock.expiry (replicate count Elapsed) state in
          let first = c.loop-now.invariant.1 state holds at begins in
          let moments = seconds-moments plan clock.expiry count state in
          let moment : moment_of before.history + 1 ≡ c.loop-now.now + 1 =
          omega (arith, moments.0, at, c.loop-now.auto.now) in
          c.second.ensures.began before first.holds moment ∙ c.loop-now.invariant.4 state holds at begins,
    )

pub returns-in_err-second-clause-visited : goal.returns-in_err-second-clause-visited
returns-in_err-second-clause-visited g c = λ state holds at begins.
    let plan = plan_of c.args.self.now in
    let clock = c.args.clock.now in
    let count = c.loop-now.now - clock.moment in
    let before = state_from plan clock.expiry (replicate count Elapsed) state in
    let first = c.loop-now.invariant.1 state holds at begins in
    let moments = seconds-moments plan clock.expiry count state in
    let moment : moment_of before.history + 1 ≡ c.loop-now.now + 1 =
    omega (arith, moments.0, at, c.loop-now.auto.now) in
    let reached = c.loop-now.auto.now in
    let ahead = c.loop-now-test.true in
    pass-part plan clock.expiry clock.moment (c.loop-now.now + 1) c.args.to state c.args.steps.now.entries
    c.second.new.steps.entries (omega (arith, reached)) (omega (arith, ahead))
    (pass-visited plan (plan_of c.loop-now.self) clock.expiry clock.moment c.loop-now.now state c.args.steps.now.entries
    c.loop-now.steps.entries c.second.new.steps.entries
    reached c.loop-now.invariant.0 (c.loop-now.invariant.3 state holds at begins)
    (c.second.ensures.visited before first.holds moment (moments.1 ∙ begins)))

pub returns-in_err-second-clause-began : goal.returns-in_err-second-clause-began
returns-in_err-second-clause-began g c = λ state holds at begins.
    let plan = plan_of c.args.self.now in
    let clock = c.args.clock.now in
    let count = c.loop-now.now - clock.moment in
    let before = state_from plan clock.expiry (replicate count Elapsed) state in
    let first = c.loop-now.invariant.1 state holds at begins in
    let moments = seconds-moments plan clock.expiry count state in
    let moment : moment_of before.history + 1 ≡ c.loop-now.now + 1 =
    omega (arith, moments.0, at, c.loop-now.auto.now) in
    c.second.ensures.began before first.holds moment ∙ c.loop-now.invariant.4 state holds at begins
