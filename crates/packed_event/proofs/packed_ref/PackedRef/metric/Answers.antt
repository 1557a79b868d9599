use Rattle.std.proofs.Common.{ℤ, Option, sym, ap, ◌∙◌}
use Rattle.ev_types.specs.declared.event.Event.{Event}
use Rattle.packed_event.specs.Fields.{metric_part}
use Rattle.packed_event.specs.Kept.{event_in}
use Rattle.packed_event.proofs.OneField.{not_none, parts}
use Rattle.packed_event.proofs.Parts.{gives_none, some_is}
use Rattle.packed_event.proofs.packed_ref.PackedRef.metric.Goals as goal

pub returns-in-Some : goal.returns-in-Some
returns-in-Some c =
    let bytes = c.self.inside.bytes.now in
    let all = parts bytes c.self.inside.places c.self.invariant in
    let read = ap metric_part c.bytes_from-tags.ensures ∙ all.metric in
    some_is {A = Option ℤ} c.in-Some.metric (event_in bytes).metric (sym c.in-Some.ensures ∙ read)
    ∙ ap (λ (event : Event). event.metric) c.self.view_is

pub returns-in-None : goal.returns-in-None
returns-in-None c =
    let bytes = c.self.inside.bytes.now in
    let all = parts bytes c.self.inside.places c.self.invariant in
    let tags = c.bytes_from-tags.result.now in
    absurd (not_none (metric_part tags) (event_in bytes).metric
    (gives_none (λ (metric : Option ℤ). metric) c.metric_at.result (metric_part tags) c.metric_at.ensures c.in-None.is)
    (ap metric_part c.bytes_from-tags.ensures ∙ all.metric))
