use Rattle.std.proofs.Common.{ℤ, length, ap, ◌∙◌}
use Rattle.ev_types.specs.declared.event.Event.{Event}
use Rattle.packed_event.specs.Reading.{attribute_part, numbers_part, optional, repeated, text_part, ttl_part}
use Rattle.packed_event.proofs.Unpacked.{all_unpacked, event_stages}
use Rattle.packed_event.proofs.unpack.read_event.Goals as goal

pub returns : goal.returns
returns c =
    λ read e.
    let s = event_stages c.args.bytes.now read e in
    let names = c.in_ok-after_names.ensures (length c.args.bytes.now) s.names s.names_read in
    let tags = c.in_ok-after_tags.ensures s.tags (ap (repeated 58 text_part) names.0 ∙ s.tags_read) in
    let ttl = c.read_ttl-after_ttl.ensures s.ttl (ap (optional 69 ttl_part) tags.0 ∙ s.ttl_read) in
    let attributes = c.in_ok-numbers.ensures s.attributes (ap (repeated 74 attribute_part) ttl.0 ∙ s.attributes_read) in
    let time = ap (λ (event : Event). event.time) names.1 in
    let numbers =
    c.read_numbers.ensures s.numbers
    (ap (λ (time : ℤ). numbers_part time c.in_ok-numbers.numbers.now) time
    ∙ ap (numbers_part s.names.0.time) attributes.0 ∙ s.numbers_are) in
    numbers
    ∙ all_unpacked c.args.event.now c.read_names.new.event s.names.0 s.tags.0 s.ttl.0 s.attributes.0 s.numbers.0
    c.read_tags.new.tags c.read_ttl-after_ttl.new.ttl c.read_attributes.new.attributes c.requires names.1 tags.1 ttl.1
    attributes.1
    ∙ s.event
