use Rattle.std.proofs.Common.{◌≡◌, ◌-◌, List, ◌++◌, replicate}
use Rattle.ev_types.specs.declared.item.Notice.{Notice}
use Rattle.stream_meaning.specs.History.{begun, moment_of}
use Rattle.stream_meaning.specs.Arrivals.{CoreState, Elapsed, state_from}
use Rattle.event_core.specs.Streams.{plan_of, Holds, Moved, Visited}
use Rattle.event_core.proofs.streams.IndexedStreams.pass.Given as goal

abbrev pub invariant-loop-now : goal.invariant-loop-now
invariant-loop-now g l =
    (plan_of l.self ≡ plan_of l.fn.self)
    × ((state : CoreState) → Holds l.fn.self state → moment_of state.history ≡ l.clock.moment
    → begun state.history ≡ l.clock.start
    → Moved (plan_of l.fn.self) l.self state
    (state_from (plan_of l.fn.self) l.clock.expiry (replicate (l.now - l.clock.moment) Elapsed) state)
    l.fn.out l.fn.steps.forks l.out l.steps.forks)
    × ((more : List Notice) × (l.out ≡ l.fn.out ++ more))
    × ((state : CoreState) → Holds l.fn.self state → moment_of state.history ≡ l.clock.moment
    → begun state.history ≡ l.clock.start
    → Visited (plan_of l.fn.self) state
    (state_from (plan_of l.fn.self) l.clock.expiry (replicate (l.now - l.clock.moment) Elapsed) state)
    l.fn.steps.entries l.steps.entries)
    × ((state : CoreState) → Holds l.fn.self state → moment_of state.history ≡ l.clock.moment
    → begun state.history ≡ l.clock.start → l.steps.began ≡ l.fn.steps.began)
