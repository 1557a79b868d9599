use Rattle.std.proofs.Common.{ℕ, List, sym, ap, ◌∙◌}
use denote.Ref.{Bor}
use Rattle.ev_types.specs.Field.{attribute_text}
use Rattle.ev_types.specs.declared.event.Event.{Event}
use Rattle.packed_event.specs.Fields.{attributes_start}
use Rattle.packed_event.specs.Kept.{event_in}
use Rattle.packed_event.specs.Reading.{attribute_part, repeated}
use Rattle.packed_event.proofs.OneField.{not_none, parts}
use Rattle.packed_event.proofs.Parts.{gives_none, some_is}
use Rattle.packed_event.proofs.packed_ref.PackedRef.attribute.Goals as goal

pub returns-in-Some : goal.returns-in-Some
returns-in-Some c =
    let bytes = c.self.inside.bytes.now in
    let all = parts bytes c.self.inside.places c.self.invariant in
    let start = ap attributes_start c.bytes_from-tags.ensures ∙ all.attributes_at in
    let at = some_is {A = List ℕ} c.in-Some.attributes.now all.attributes (sym c.in-Some.ensures ∙ start) in
    c.lent.ensures
    ∙ c.last_value.ensures.text ((event_in bytes).attributes, all.attributes_left)
    (ap (repeated 74 attribute_part) at ∙ all.attributes_read)
    ∙ ap (λ (key : List ℕ). attribute_text key (event_in bytes).attributes) c.as_bytes.ensures.bytes
    ∙ ap (λ (event : Event). attribute_text c.args.key.now event.attributes) c.self.view_is

pub returns-in-None : goal.returns-in-None
returns-in-None c =
    let bytes = c.self.inside.bytes.now in
    let all = parts bytes c.self.inside.places c.self.invariant in
    let tags = c.bytes_from-tags.result.now in
    absurd (not_none (attributes_start tags) all.attributes
    (gives_none (λ (attributes : Bor (List ℕ)). attributes.now) c.attributes_at.result (attributes_start tags)
    c.attributes_at.ensures
    c.in-None.is)
    (ap attributes_start c.bytes_from-tags.ensures ∙ all.attributes_at))
