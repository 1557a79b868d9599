use Rattle.std.proofs.Common.{arith}
use Rattle.ev_types.specs.declared.item.Item.TheVariants.{One}
use Rattle.stream_meaning.specs.declared.entry.Entry.TheVariants.{Item as In}
use Rattle.event_core.specs.Streams.{plan_of}
use Rattle.event_core.proofs.Moves.{event-handled, event-written}
use Rattle.event_core.proofs.Visits.{visited-entry}
use Rattle.event_core.proofs.streams.IndexedStreams.item.Goals as goal

pub returns-then-not-is_write_due-clause-moved : goal.returns-then-not-is_write_due-clause-moved
returns-then-not-is_write_due-clause-moved g c = λ state holds at.
    event-handled (plan_of c.args.self.now) c.args.event.now _ c.args.self.now.index state
    c.args.self.now.outputs c.offer.new.out c.args.steps.now c.offer.new.steps c.args.out.now c.handle.new.out
    c.in_ok-is_write_due.is_write_due
    holds.outputs (c.in_ok-is_write_due.ensures.represents state.history holds.history at) holds.log
    (c.in_ok-is_write_due.ensures.grew state.history holds.history at) c.in_ok-handle.ensures.left
    c.if-not-is_write_due.true c.in_ok-handle.ensures.index c.in_ok-handle.ensures.notices

pub returns-clause-moved : goal.returns-clause-moved
returns-clause-moved g c = λ state holds at.
    event-written (plan_of c.args.self.now) c.args.event.now _ c.args.self.now.index state
    c.args.self.now.outputs c.offer.new.out c.args.steps.now c.offer.new.steps c.args.out.now c.handle.new.out
    c.in_ok-is_write_due.is_write_due
    holds.outputs (c.in_ok-is_write_due.ensures.represents state.history holds.history at) holds.log
    (c.in_ok-is_write_due.ensures.grew state.history holds.history at) c.in_ok-handle.ensures.left c.handle.new.index
    c.offer.new.event
    c.if-not-is_write_due.false (c.in_ok-is_write_due.ensures.event c.if-not-is_write_due.false)
    c.in_ok-handle.ensures.index c.in_ok-put.ensures.ok c.in_ok-handle.ensures.notices

pub returns-then-not-is_write_due-clause-visited : goal.returns-then-not-is_write_due-clause-visited
returns-then-not-is_write_due-clause-visited g c = λ state holds at.
    let entries = (c.in_ok-is_write_due.ensures.grew state.history holds.history at).entries in
    visited-entry (plan_of c.args.self.now) (In (One c.args.event.now)) state c.args.steps.now.entries
    c.offer.new.steps.entries (omega (arith, entries))

pub returns-clause-visited : goal.returns-clause-visited
returns-clause-visited g c = λ state holds at.
    let entries = (c.in_ok-is_write_due.ensures.grew state.history holds.history at).entries in
    visited-entry (plan_of c.args.self.now) (In (One c.args.event.now)) state c.args.steps.now.entries
    c.offer.new.steps.entries (omega (arith, entries))

pub returns-in_err-handle-clause-visited : goal.returns-in_err-handle-clause-visited
returns-in_err-handle-clause-visited g c = λ state holds at.
    let entries = (c.in_ok-is_write_due.ensures.grew state.history holds.history at).entries in
    visited-entry (plan_of c.args.self.now) (In (One c.args.event.now)) state c.args.steps.now.entries
    c.offer.new.steps.entries (omega (arith, entries))

pub returns-in_err-put-clause-visited : goal.returns-in_err-put-clause-visited
returns-in_err-put-clause-visited g c = λ state holds at.
    let entries = (c.in_ok-is_write_due.ensures.grew state.history holds.history at).entries in
    visited-entry (plan_of c.args.self.now) (In (One c.args.event.now)) state c.args.steps.now.entries
    c.offer.new.steps.entries (omega (arith, entries))

pub returns-in_err-is_write_due-clause-visited : goal.returns-in_err-is_write_due-clause-visited
returns-in_err-is_write_due-clause-visited g c = λ state holds at.
    let entries = (c.in_err-is_write_due.ensures.part state.history holds.history at).entries in
    visited-entry (plan_of c.args.self.now) (In (One c.args.event.now)) state c.args.steps.now.entries
    c.offer.new.steps.entries (omega (arith, entries))

pub returns-then-not-is_write_due-clause-began : goal.returns-then-not-is_write_due-clause-began
returns-then-not-is_write_due-clause-began g c =
    λ state holds at. (c.in_ok-is_write_due.ensures.grew state.history holds.history at).began

pub returns-clause-began : goal.returns-clause-began
returns-clause-began g c = λ state holds at. (c.in_ok-is_write_due.ensures.grew state.history holds.history at).began

pub returns-in_err-handle-clause-began : goal.returns-in_err-handle-clause-began
returns-in_err-handle-clause-began g c =
    λ state holds at. (c.in_ok-is_write_due.ensures.grew state.history holds.history at).began

pub returns-in_err-put-clause-began : goal.returns-in_err-put-clause-began
returns-in_err-put-clause-began g c =
    λ state holds at. (c.in_ok-is_write_due.ensures.grew state.history holds.history at).began

pub returns-in_err-is_write_due-clause-began : goal.returns-in_err-is_write_due-clause-began
returns-in_err-is_write_due-clause-began g c =
    λ state holds at. (c.in_err-is_write_due.ensures.part state.history holds.history at).began
