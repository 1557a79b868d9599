use Rattle.std.proofs.Common.{arith}
use Rattle.stream_meaning.specs.declared.entry.Entry.TheVariants.{Tick}
use Rattle.event_core.specs.Streams.{plan_of}
use Rattle.event_core.proofs.Moves.{entry-handled}
use Rattle.event_core.proofs.Visits.{visited-entry}
use Rattle.event_core.proofs.streams.IndexedStreams.tick.Goals as goal

pub returns-clause-moved : goal.returns-clause-moved
returns-clause-moved g c = λ state holds at.
    entry-handled (plan_of c.args.self.now) Tick _ c.args.self.now.index state
    c.args.self.now.outputs c.tick.new.out c.args.steps.now c.tick.new.steps c.args.out.now c.handle.new.out
    holds.outputs (c.in_ok-tick.ensures.represents state.history holds.history at) holds.log
    (c.in_ok-tick.ensures.grew state.history holds.history at) c.in_ok-handle.ensures.index
    c.in_ok-handle.ensures.notices c.in_ok-handle.ensures.left

pub returns-clause-visited : goal.returns-clause-visited
returns-clause-visited g c = λ state holds at.
    let entries = (c.in_ok-tick.ensures.grew state.history holds.history at).entries in
    visited-entry (plan_of c.args.self.now) Tick state c.args.steps.now.entries c.tick.new.steps.entries
    (omega (arith, entries))

pub returns-in_err-handle-clause-visited : goal.returns-in_err-handle-clause-visited
returns-in_err-handle-clause-visited g c = λ state holds at.
    let entries = (c.in_ok-tick.ensures.grew state.history holds.history at).entries in
    visited-entry (plan_of c.args.self.now) Tick state c.args.steps.now.entries c.tick.new.steps.entries
    (omega (arith, entries))

pub returns-in_err-tick-clause-visited : goal.returns-in_err-tick-clause-visited
returns-in_err-tick-clause-visited g c = λ state holds at.
    let entries = (c.in_err-tick.ensures.part state.history holds.history at).entries in
    visited-entry (plan_of c.args.self.now) Tick state c.args.steps.now.entries c.tick.new.steps.entries
    (omega (arith, entries))

pub returns-clause-began : goal.returns-clause-began
returns-clause-began g c = λ state holds at. (c.in_ok-tick.ensures.grew state.history holds.history at).began

pub returns-in_err-handle-clause-began : goal.returns-in_err-handle-clause-began
returns-in_err-handle-clause-began g c =
    λ state holds at. (c.in_ok-tick.ensures.grew state.history holds.history at).began

pub returns-in_err-tick-clause-began : goal.returns-in_err-tick-clause-began
returns-in_err-tick-clause-began g c =
    λ state holds at. (c.in_err-tick.ensures.part state.history holds.history at).began
