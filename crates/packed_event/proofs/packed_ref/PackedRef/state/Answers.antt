use Rattle.std.proofs.Common.{ℕ, List, Option, ap, ◌∙◌}
use denote.Ref.{Bor}
use Rattle.std.specs.Option.{option_copied}
use Rattle.ev_types.specs.declared.event.Event.{Event}
use Rattle.packed_event.specs.Fields.{state_part}
use Rattle.packed_event.specs.Kept.{event_in}
use Rattle.packed_event.proofs.OneField.{flat, flat_utf8, parts}
use Rattle.packed_event.proofs.packed_ref.PackedRef.state.Goals as goal

pub lent-requires : goal.lent-requires
lent-requires c =
    let bytes = c.self.inside.bytes.now in
    let all = parts bytes c.self.inside.places c.self.invariant in
    flat_utf8 c.state_at.result (state_part bytes) (event_in bytes).state c.state_at.ensures all.state
    c.self.invariant.packed.well_formed.state

pub returns : goal.returns
returns c =
    let bytes = c.self.inside.bytes.now in
    let all = parts bytes c.self.inside.places c.self.invariant in
    c.lent.ensures
    ∙ flat (λ (text : Option (Bor (List ℕ))). option_copied text) c.state_at.result (state_part bytes)
    (event_in bytes).state c.state_at.ensures all.state
    ∙ ap (λ (event : Event). event.state) c.self.view_is
