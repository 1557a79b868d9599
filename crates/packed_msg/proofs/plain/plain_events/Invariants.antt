use Rattle.std.proofs.Common.{◌≡◌, ◌^◌, ◌<◌, ◌-◌, List, length}
use Rattle.std.specs.List.{AllByRecursion}
use Rattle.ev_types.specs.declared.event.Event.{Event}
use Rattle.riemann_msg.specs.ReadBack.{IsWellFormedEvent}
use Rattle.riemann_msg.specs.Spelling.{spelling}
use Rattle.packed_msg.specs.Sent.{sent_of}
use Rattle.packed_msg.proofs.Left.{SomeLeft}
use Rattle.packed_msg.proofs.Read.{Read}
use Rattle.packed_msg.proofs.plain.plain_events.Given as goal

abbrev pub invariant-fields : goal.invariant-fields
invariant-fields l = record {
  bytes : l.fields.bytes ≡ l.body;
  read : Read l.body l.fields.place l.events.items;
  left : (events : List Event) → AllByRecursion IsWellFormedEvent events → l.body ≡ spelling (sent_of events)
      → length l.body < 2 ^ 32 → SomeLeft l.body l.fields.place;
}

abbrev pub decreases-fields : goal.decreases-fields
decreases-fields l = length l.body - l.fields.place
