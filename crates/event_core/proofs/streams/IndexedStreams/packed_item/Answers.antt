use Rattle.std.proofs.Common.{rules, arith}
use Rattle.ev_types.specs.declared.item.Item.TheVariants.{One}
use Rattle.stream_meaning.specs.declared.entry.Entry.TheVariants.{Item as In}
use Rattle.event_core.specs.Streams.{plan_of}
use Rattle.event_core.proofs.Moves.{event-unseen}
use Rattle.event_core.proofs.Visits.{visited-entry}
use Rattle.event_core.proofs.streams.IndexedStreams.packed_item.Goals as goal

pub returns-in_err-offer_fields-clause-visited : goal.returns-in_err-offer_fields-clause-visited
returns-in_err-offer_fields-clause-visited g c = λ state holds at.
    visited-entry (plan_of c.args.self.now) (In (One c.args.event.now)) state c.args.steps.now.entries
    c.args.steps.now.entries (omega arith)

pub returns-in_err-put_packed-in-Write-clause-visited : goal.returns-in_err-put_packed-in-Write-clause-visited
returns-in_err-put_packed-in-Write-clause-visited g c = λ state holds at.
    visited-entry (plan_of c.args.self.now) (In (One c.args.event.now)) state c.args.steps.now.entries
    c.args.steps.now.entries (omega arith)

pub returns-in_ok-put_packed-in-Write-clause-moved : goal.returns-in_ok-put_packed-in-Write-clause-moved
returns-in_ok-put_packed-in-Write-clause-moved g c = λ state holds at.
    event-unseen (plan_of c.args.self.now) c.args.event.now _ c.args.self.now.index state c.args.steps.now
    c.args.out.now (c.in_ok-offer_fields.ensures.write c.in-Write.is state.history holds.history)
    (c.in_ok-offer_fields.ensures.represents (rw c.in-Write.is (λ is. search rules)) state.history holds.history)
    holds.log c.in_ok-put_packed-in-Write.ensures.ok holds.outputs

pub returns-in_ok-put_packed-in-Write-clause-visited : goal.returns-in_ok-put_packed-in-Write-clause-visited
returns-in_ok-put_packed-in-Write-clause-visited g c = λ state holds at.
    visited-entry (plan_of c.args.self.now) (In (One c.args.event.now)) state c.args.steps.now.entries
    c.args.steps.now.entries (omega arith)
