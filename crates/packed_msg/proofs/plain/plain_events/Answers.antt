use Rattle.std.proofs.Common.{List, ap, refl, ◌∙◌, subst, sym}
use Rattle.ev_types.specs.declared.event.Event.{Event}
use Rattle.pb_wire.specs.Fields.{Cursor}
use Rattle.packed_msg.proofs.Left.{left_all, some_next, some_written}
use Rattle.packed_msg.proofs.Read.{Read, read_clean, read_more, read_none, read_sent}
use Rattle.packed_msg.proofs.plain.plain_events.Goals as goal

pub fields-init : goal.fields-init
fields-init c =
    let body = c.args.body.now in
    rw (c.over-fields.ensures, c.new-events.ensures.items)
    (record {
      bytes = refl;
      read = read_none body;
      left = λ events good is few. (events, left_all body events good is few);
    })

pub returns-in-End-clause-clean : goal.returns-in-End-clause-clean
returns-in-End-clause-clean c =
    let i = c.fields.invariant in
    let steps = rw c.in-End.is at c.next.ensures.steps in
    read_clean c.args.body.now c.fields.fields c.next.new.self c.fields.events.items i.bytes i.read steps

pub returns-in-End-clause-sent : goal.returns-in-End-clause-sent
returns-in-End-clause-sent c =
    let i = c.fields.invariant in
    let steps = rw c.in-End.is at c.next.ensures.steps in
    read_sent c.args.body.now c.fields.fields c.next.new.self c.fields.events.items i.bytes i.read steps

pub fields-preserved : goal.fields-preserved
fields-preserved c =
    let body = c.args.body.now in
    let i = c.fields.invariant in
    let holds = rw c.in-Some.is at c.event_in.ensures.holds in
    let more =
    read_more body c.fields.fields c.next.new.self c.fields.events.items c.next.result c.in-Some.event i.bytes i.read
    c.next.ensures.steps holds in
    record {
      bytes = ap (λ (cursor : Cursor). cursor.bytes) c.next.ensures.moves ∙ i.bytes;
      read =
          subst (λ (events : List Event). Read body c.next.new.self.place events)
          (sym c.in_ok-push-in-Some.ensures.items) more;
      left = λ events good is few.
          some_next body c.fields.fields c.next.new.self c.next.result c.in-Some.event i.bytes
          (i.left events good is few) c.next.ensures.steps holds;
    }

pub returns-in-None : goal.returns-in-None
returns-in-None c = record {
  clean = tt;
  sent = tt;
  found = λ events good is few.
      let i = c.fields.invariant in
      let found = rw c.in-None.is at c.event_in.ensures.found in
      some_written c.args.body.now c.fields.fields c.next.new.self c.next.result i.bytes (i.left events good is few)
      c.next.ensures.steps c.in_default.not-End (λ event good written. found event good written few);
}
