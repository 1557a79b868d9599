use Rattle.std.proofs.Common.{sym, arith}
use Rattle.ev_types.specs.declared.item.Item.TheVariants.{One}
use Rattle.stream_meaning.specs.declared.entry.Entry.TheVariants.{Item as In}
use Rattle.event_core.specs.Streams.{plan_of}
use Rattle.event_core.proofs.Moves.{event-handled, event-written, moved-equal}
use Rattle.event_core.proofs.Visits.{visited-entry, visited-equal}
use Rattle.event_core.proofs.streams.IndexedStreams.seen_item.Goals as goal

pub returns-then-not-is_write_due-clause-moved : goal.returns-then-not-is_write_due-clause-moved
returns-then-not-is_write_due-clause-moved g c = λ state holds at.
    let shown = c.unpack_into.new.event in
    moved-equal (plan_of c.args.self.now) shown c.args.event.now _ state c.args.out.now c.args.steps.now.forks
    c.handle.new.out c.offer.new.steps.forks c.in_ok-unpack_into.ensures
    (event-handled (plan_of c.args.self.now) shown _ c.args.self.now.index state
    c.args.self.now.outputs c.offer.new.out c.args.steps.now c.offer.new.steps c.args.out.now c.handle.new.out
    c.in_ok-is_write_due.is_write_due
    holds.outputs (c.in_ok-is_write_due.ensures.represents state.history holds.history at) holds.log
    (c.in_ok-is_write_due.ensures.grew state.history holds.history at) c.in_ok-handle.ensures.left
    c.if-not-is_write_due.true c.in_ok-handle.ensures.index c.in_ok-handle.ensures.notices)

pub returns-clause-moved : goal.returns-clause-moved
returns-clause-moved g c = λ state holds at.
    let shown = c.unpack_into.new.event in
    moved-equal (plan_of c.args.self.now) shown c.args.event.now _ state c.args.out.now c.args.steps.now.forks
    c.handle.new.out c.offer.new.steps.forks c.in_ok-unpack_into.ensures
    (event-written (plan_of c.args.self.now) shown _ c.args.self.now.index state
    c.args.self.now.outputs c.offer.new.out c.args.steps.now c.offer.new.steps c.args.out.now c.handle.new.out
    c.in_ok-is_write_due.is_write_due
    holds.outputs (c.in_ok-is_write_due.ensures.represents state.history holds.history at) holds.log
    (c.in_ok-is_write_due.ensures.grew state.history holds.history at) c.in_ok-handle.ensures.left c.handle.new.index
    c.args.event.now
    c.if-not-is_write_due.false (sym c.in_ok-unpack_into.ensures)
    c.in_ok-handle.ensures.index c.in_ok-put_packed.ensures.ok c.in_ok-handle.ensures.notices)

pub returns-then-not-is_write_due-clause-visited : goal.returns-then-not-is_write_due-clause-visited
returns-then-not-is_write_due-clause-visited g c = λ state holds at.
    let shown = c.unpack_into.new.event in
    let entries = (c.in_ok-is_write_due.ensures.grew state.history holds.history at).entries in
    visited-equal (plan_of c.args.self.now) shown c.args.event.now state c.args.steps.now.entries
    c.offer.new.steps.entries c.in_ok-unpack_into.ensures
    (visited-entry (plan_of c.args.self.now) (In (One shown)) state c.args.steps.now.entries
    c.offer.new.steps.entries (omega (arith, entries)))

pub returns-clause-visited : goal.returns-clause-visited
returns-clause-visited g c = λ state holds at.
    let shown = c.unpack_into.new.event in
    let entries = (c.in_ok-is_write_due.ensures.grew state.history holds.history at).entries in
    visited-equal (plan_of c.args.self.now) shown c.args.event.now state c.args.steps.now.entries
    c.offer.new.steps.entries c.in_ok-unpack_into.ensures
    (visited-entry (plan_of c.args.self.now) (In (One shown)) state c.args.steps.now.entries
    c.offer.new.steps.entries (omega (arith, entries)))

pub returns-in_err-handle-clause-visited : goal.returns-in_err-handle-clause-visited
returns-in_err-handle-clause-visited g c = λ state holds at.
    let shown = c.unpack_into.new.event in
    let entries = (c.in_ok-is_write_due.ensures.grew state.history holds.history at).entries in
    visited-equal (plan_of c.args.self.now) shown c.args.event.now state c.args.steps.now.entries
    c.offer.new.steps.entries c.in_ok-unpack_into.ensures
    (visited-entry (plan_of c.args.self.now) (In (One shown)) state c.args.steps.now.entries
    c.offer.new.steps.entries (omega (arith, entries)))

pub returns-in_err-put_packed-clause-visited : goal.returns-in_err-put_packed-clause-visited
returns-in_err-put_packed-clause-visited g c = λ state holds at.
    let shown = c.unpack_into.new.event in
    let entries = (c.in_ok-is_write_due.ensures.grew state.history holds.history at).entries in
    visited-equal (plan_of c.args.self.now) shown c.args.event.now state c.args.steps.now.entries
    c.offer.new.steps.entries c.in_ok-unpack_into.ensures
    (visited-entry (plan_of c.args.self.now) (In (One shown)) state c.args.steps.now.entries
    c.offer.new.steps.entries (omega (arith, entries)))

pub returns-in_err-is_write_due-clause-visited : goal.returns-in_err-is_write_due-clause-visited
returns-in_err-is_write_due-clause-visited g c = λ state holds at.
    let shown = c.unpack_into.new.event in
    let entries = (c.in_err-is_write_due.ensures.part state.history holds.history at).entries in
    visited-equal (plan_of c.args.self.now) shown c.args.event.now state c.args.steps.now.entries
    c.offer.new.steps.entries c.in_ok-unpack_into.ensures
    (visited-entry (plan_of c.args.self.now) (In (One shown)) state c.args.steps.now.entries
    c.offer.new.steps.entries (omega (arith, entries)))

pub returns-in_err-unpack_into-clause-visited : goal.returns-in_err-unpack_into-clause-visited
returns-in_err-unpack_into-clause-visited g c = λ state holds at.
    visited-entry (plan_of c.args.self.now) (In (One c.args.event.now)) state c.args.steps.now.entries
    c.args.steps.now.entries (omega arith)

pub returns-then-not-is_write_due-clause-began : goal.returns-then-not-is_write_due-clause-began
returns-then-not-is_write_due-clause-began g c = λ state holds at. (c.in_ok-is_write_due.ensures.grew state.history holds.history at).began

pub returns-clause-began : goal.returns-clause-began
returns-clause-began g c = λ state holds at. (c.in_ok-is_write_due.ensures.grew state.history holds.history at).began

pub returns-in_err-handle-clause-began : goal.returns-in_err-handle-clause-began
returns-in_err-handle-clause-began g c = λ state holds at. (c.in_ok-is_write_due.ensures.grew state.history holds.history at).began

pub returns-in_err-put_packed-clause-began : goal.returns-in_err-put_packed-clause-began
returns-in_err-put_packed-clause-began g c = λ state holds at. (c.in_ok-is_write_due.ensures.grew state.history holds.history at).began

pub returns-in_err-is_write_due-clause-began : goal.returns-in_err-is_write_due-clause-began
returns-in_err-is_write_due-clause-began g c = λ state holds at. (c.in_err-is_write_due.ensures.part state.history holds.history at).began
