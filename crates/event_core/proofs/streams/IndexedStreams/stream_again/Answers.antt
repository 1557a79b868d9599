use Rattle.std.proofs.Common.{[], ◌∷◌, ◌++◌, map, ◌∙◌}
use Rattle.std.specs.Vec.Iter.{into_iter_items}
use Rattle.ev_types.specs.Rebirth.{expired_copy}
use Rattle.stream_meaning.specs.Arrivals.{streamed}
use Rattle.event_core.specs.Streams.{plan_of}
use Rattle.event_core.proofs.Moves.{both-fronts}
use Rattle.event_core.proofs.Arriving.{streamed-moment, streamed-more}
use Rattle.event_core.proofs.Visits.{rest-more, streamed-part, streamed-visited}
use Rattle.event_core.proofs.streams.IndexedStreams.stream_again.Goals as goal

pub loop-event-preserved : goal.loop-event-preserved
loop-event-preserved g c =
    let plan = plan_of c.args.self.now in
    let keep = c.args.keep.now in
    let now = c.args.now in
    let done = c.loop-event.yielded in (
      c.in_ok-item.ensures.plan ∙ c.loop-event.invariant.0,
      λ state holds at.
          let copies = map (λ e. expired_copy keep e now) done in
          let first = c.loop-event.invariant.1 state holds at in
          streamed-more plan (plan_of c.loop-event.self) c.loop-event.self c.item.new.self keep now done c.in-Some.event
          c.in_ok-copy.copy state
          c.args.out.now c.args.steps.now.forks c.loop-event.out c.loop-event.steps.forks c.item.new.out
          c.item.new.steps.forks
          c.loop-event.invariant.0 c.in_ok-copy.ensures first
          (c.in_ok-item.ensures.moved (streamed plan copies state) first.holds
          (streamed-moment plan copies state now at)),
      both-fronts c.args.out.now c.loop-event.out c.item.new.out c.loop-event.invariant.2 c.in_ok-item.ensures.prefix,
      λ state holds at.
          let copies = map (λ e. expired_copy keep e now) done in
          let first = c.loop-event.invariant.1 state holds at in
          streamed-visited plan (plan_of c.loop-event.self) keep now done c.in-Some.event c.in_ok-copy.copy state
          c.args.steps.now.entries c.loop-event.steps.entries c.item.new.steps.entries
          c.loop-event.invariant.0 c.in_ok-copy.ensures (c.loop-event.invariant.3 state holds at)
          (c.item.ensures.visited (streamed plan copies state) first.holds (streamed-moment plan copies state now at)),
      rest-more done (into_iter_items c.loop-event.event-iterator) (into_iter_items c.next.new.self) c.args.expired
          c.in-Some.event c.loop-event.invariant.4 c.in-Some.ensures.steps.0,
      λ state holds at.
          let copies = map (λ e. expired_copy keep e now) done in
          let first = c.loop-event.invariant.1 state holds at in
          c.item.ensures.began (streamed plan copies state) first.holds (streamed-moment plan copies state now at)
          ∙ c.loop-event.invariant.5 state holds at,
    )

pub returns-in_err-copy-clause-visited : goal.returns-in_err-copy-clause-visited
returns-in_err-copy-clause-visited g c = λ state holds at.
    streamed-part (plan_of c.args.self.now) c.args.keep.now c.args.now c.loop-event.yielded
    (into_iter_items c.loop-event.event-iterator) c.args.expired state
    c.args.steps.now.entries c.loop-event.steps.entries c.loop-event.invariant.4
    (c.loop-event.invariant.3 state holds at)

pub returns-in_err-item-clause-visited : goal.returns-in_err-item-clause-visited
returns-in_err-item-clause-visited g c = λ state holds at.
    let plan = plan_of c.args.self.now in
    let keep = c.args.keep.now in
    let now = c.args.now in
    let done = c.loop-event.yielded in
    let copies = map (λ e. expired_copy keep e now) done in
    let first = c.loop-event.invariant.1 state holds at in
    let left =
    rest-more done (into_iter_items c.loop-event.event-iterator) (into_iter_items c.next.new.self) c.args.expired
    c.in-Some.event c.loop-event.invariant.4 c.in-Some.ensures.steps.0 in
    streamed-part plan keep now (done ++ c.in-Some.event ∷ []) (into_iter_items c.next.new.self) c.args.expired state
    c.args.steps.now.entries c.item.new.steps.entries left
    (streamed-visited plan (plan_of c.loop-event.self) keep now done c.in-Some.event c.in_ok-copy.copy state
    c.args.steps.now.entries c.loop-event.steps.entries c.item.new.steps.entries
    c.loop-event.invariant.0 c.in_ok-copy.ensures (c.loop-event.invariant.3 state holds at)
    (c.item.ensures.visited (streamed plan copies state) first.holds (streamed-moment plan copies state now at)))

pub returns-in_err-item-clause-began : goal.returns-in_err-item-clause-began
returns-in_err-item-clause-began g c = λ state holds at.
    let plan = plan_of c.args.self.now in
    let copies = map (λ e. expired_copy c.args.keep.now e c.args.now) c.loop-event.yielded in
    let first = c.loop-event.invariant.1 state holds at in
    c.item.ensures.began (streamed plan copies state) first.holds (streamed-moment plan copies state c.args.now at)
    ∙ c.loop-event.invariant.5 state holds at
