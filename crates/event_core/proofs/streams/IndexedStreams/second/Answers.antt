use Rattle.std.proofs.Common.{◌∙◌}
use Rattle.stream_meaning.specs.Arrivals.{entered}
use Rattle.stream_meaning.specs.declared.entry.Entry.TheVariants.{Tick}
use Rattle.event_core.specs.Streams.{plan_of}
use Rattle.event_core.proofs.Moves.{both-fronts}
use Rattle.event_core.proofs.Arriving.{second-moved}
use Rattle.event_core.proofs.Visits.{second-part, second-visited}
use Rattle.event_core.proofs.streams.IndexedStreams.second.Goals as goal

pub returns-clause-moved : goal.returns-clause-moved
returns-clause-moved g c = λ state holds at begins.
    let plan = plan_of c.args.self.now in
    let first = c.in_ok-tick.ensures.moved state holds at in
    second-moved plan (plan_of c.tick.new.self) c.args.clock.now.expiry c.tick.new.self c.sweep.new.self state
    c.args.out.now c.args.steps.now.forks c.tick.new.out c.tick.new.steps.forks c.sweep.new.out c.sweep.new.steps.forks
    c.in_ok-tick.ensures.plan first (c.in_ok-sweep.ensures.moved (entered plan Tick state) first.holds at begins)

pub returns-clause-prefix : goal.returns-clause-prefix
returns-clause-prefix g c =
    both-fronts c.args.out.now c.tick.new.out c.sweep.new.out c.in_ok-tick.ensures.prefix c.in_ok-sweep.ensures.prefix

pub returns-clause-visited : goal.returns-clause-visited
returns-clause-visited g c = λ state holds at begins.
    let plan = plan_of c.args.self.now in
    let first = c.in_ok-tick.ensures.moved state holds at in
    second-visited plan (plan_of c.tick.new.self) c.args.clock.now.expiry state c.args.steps.now.entries
    c.tick.new.steps.entries c.sweep.new.steps.entries
    c.in_ok-tick.ensures.plan (c.tick.ensures.visited state holds at)
    (c.sweep.ensures.visited (entered plan Tick state) first.holds at begins)

pub returns-in_err-sweep-clause-visited : goal.returns-in_err-sweep-clause-visited
returns-in_err-sweep-clause-visited g c = λ state holds at begins.
    let plan = plan_of c.args.self.now in
    let first = c.in_ok-tick.ensures.moved state holds at in
    second-visited plan (plan_of c.tick.new.self) c.args.clock.now.expiry state c.args.steps.now.entries
    c.tick.new.steps.entries c.sweep.new.steps.entries
    c.in_ok-tick.ensures.plan (c.tick.ensures.visited state holds at)
    (c.sweep.ensures.visited (entered plan Tick state) first.holds at begins)

pub returns-in_err-tick-clause-visited : goal.returns-in_err-tick-clause-visited
returns-in_err-tick-clause-visited g c = λ state holds at begins.
    second-part (plan_of c.args.self.now) c.args.clock.now.expiry state c.args.steps.now.entries
    c.tick.new.steps.entries (c.tick.ensures.visited state holds at)

pub returns-clause-began : goal.returns-clause-began
returns-clause-began g c = λ state holds at.
    let first = c.in_ok-tick.ensures.moved state holds at in
    c.sweep.ensures.began (entered (plan_of c.args.self.now) Tick state) first.holds at
    ∙ c.tick.ensures.began state holds at

pub returns-in_err-sweep-clause-began : goal.returns-in_err-sweep-clause-began
returns-in_err-sweep-clause-began g c = λ state holds at.
    let first = c.in_ok-tick.ensures.moved state holds at in
    c.sweep.ensures.began (entered (plan_of c.args.self.now) Tick state) first.holds at
    ∙ c.tick.ensures.began state holds at
