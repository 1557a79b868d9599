use Rattle.std.proofs.Common.{subst}
use Rattle.ev_types.specs.declared.event.Event.{Event}
use Rattle.packed_event.specs.Kept.{bytes_of, IsKept}
use Rattle.packed_event.proofs.Kept.{kept_as}
use Rattle.packed_event.proofs.packed_ref.PackedRef.places.Goals as goal

pub returns : goal.returns
returns c =
    subst (λ (event : Event). IsKept (bytes_of event) c.self.inside.places) c.self.view_is
    (kept_as c.self.inside.bytes.now c.self.inside.places c.self.invariant)
