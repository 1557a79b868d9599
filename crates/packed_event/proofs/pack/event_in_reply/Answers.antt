use Rattle.packed_event.specs.Kept.{bytes_of}
use Rattle.packed_event.proofs.Kept.{event_alone}
use Rattle.packed_event.proofs.Parts.{some_is}
use Rattle.packed_event.proofs.pack.event_in_reply.Goals as goal

pub returns-clause-event : goal.returns-clause-event
returns-clause-event c =
    λ event good is. event_alone c.of.result c.in_ok-bytes.bytes.now event c.of.ensures.event c.of.ensures.few
    (some_is c.in_ok-bytes.bytes.now (bytes_of event) (c.in_ok-bytes.ensures event is)) good
