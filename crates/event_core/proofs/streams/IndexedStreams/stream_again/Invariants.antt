use Rattle.std.proofs.Common.{◌≡◌, List, ◌++◌, map}
use Rattle.std.specs.Vec.Iter.{into_iter_items}
use Rattle.ev_types.specs.declared.item.Notice.{Notice}
use Rattle.ev_types.specs.Rebirth.{expired_copy}
use Rattle.stream_meaning.specs.History.{moment_of}
use Rattle.stream_meaning.specs.Arrivals.{CoreState, streamed}
use Rattle.event_core.specs.Streams.{plan_of, Holds, Moved, Visited}
use Rattle.event_core.proofs.streams.IndexedStreams.stream_again.Given as goal

abbrev pub invariant-loop-event : goal.invariant-loop-event
invariant-loop-event g l =
    (plan_of l.self ≡ plan_of l.fn.self)
    × ((state : CoreState) → Holds l.fn.self state → moment_of state.history ≡ l.now
    → Moved (plan_of l.fn.self) l.self state
    (streamed (plan_of l.fn.self) (map (λ event. expired_copy l.keep event l.now) l.yielded) state)
    l.fn.out l.fn.steps.forks l.out l.steps.forks)
    × ((more : List Notice) × (l.out ≡ l.fn.out ++ more))
    × ((state : CoreState) → Holds l.fn.self state → moment_of state.history ≡ l.now
    → Visited (plan_of l.fn.self) state
    (streamed (plan_of l.fn.self) (map (λ event. expired_copy l.keep event l.now) l.yielded) state) l.fn.steps.entries
    l.steps.entries)
    × (l.yielded ++ into_iter_items l.event-iterator ≡ l.fn.expired)
    × ((state : CoreState) → Holds l.fn.self state → moment_of state.history ≡ l.now → l.steps.began ≡ l.fn.steps.began)
