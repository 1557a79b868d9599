use Rattle.packed_event.proofs.Kept.{kept_event}
use Rattle.packed_event.proofs.Recognised.{packed_is_read}
use Rattle.packed_event.specs.Kept.{event_in}
use Rattle.packed_event.proofs.packed_ref.PackedRef.of.Goals as goal

pub returns-clause-clean : goal.returns-clause-clean
returns-clause-clean c =
    let kept = c.in_ok-places.ensures.kept in
    (packed_is_read 0 c.args.bytes.now c.in_ok-places.places (event_in c.args.bytes.now) kept.packed kept.few).0

pub returns-clause-event : goal.returns-clause-event
returns-clause-event c =
    let kept = c.in_ok-places.ensures.kept in
    λ now. kept_event c.args.bytes.now c.in_ok-places.places now kept.packed kept.few
