use Rattle.std.proofs.Common.{ℕ, List, ap, ◌∙◌}
use Rattle.ev_types.specs.Set.{has_text}
use Rattle.ev_types.specs.declared.event.Event.{Event}
use Rattle.packed_event.specs.Kept.{event_in}
use Rattle.packed_event.specs.Reading.{bytes_part, repeated}
use Rattle.packed_event.proofs.OneField.{parts}
use Rattle.packed_event.proofs.packed_ref.PackedRef.has_tag.Goals as goal

pub returns : goal.returns
returns c =
    let bytes = c.self.inside.bytes.now in
    let all = parts bytes c.self.inside.places c.self.invariant in
    c.has_tag.ensures ((event_in bytes).tags, all.tags_left)
    (ap (repeated 58 bytes_part) c.bytes_from-tags.ensures ∙ all.tags_read)
    ∙ ap (λ (tag : List ℕ). has_text tag (event_in bytes).tags) c.as_bytes.ensures.bytes
    ∙ ap (λ (event : Event). has_text c.args.tag.now event.tags) c.self.view_is
