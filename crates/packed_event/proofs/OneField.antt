-- The field of an event that is read alone is that of the event.
use Rattle.std.proofs.Common.{◌≡◌, ℕ, List, drop, length, Option, Some, None, refl, sym, ap, subst, ◌∙◌}
use denote.Ref.{Bor}
use Rattle.std.specs.Int.{w32}
use Rattle.std.specs.Option.{option_and_then, option_copied}
use Rattle.std.specs.Prelude.{IfSome}
use Rattle.std.specs.Str.{IsUtf8}
use Rattle.ev_types.specs.declared.event.Event.{Event}
use Rattle.packed_event.specs.Fields.{attributes_start, description_part, metric_part, state_part}
use Rattle.packed_event.specs.Kept.{IsKept, event_in, tags_start}
use Rattle.packed_event.specs.Reading.{Gives, attribute_part, bytes_part, int64_part, micros_part, number_part}
use Rattle.packed_event.specs.Reading.{optional, repeated, text_part, ttl_part}
use Rattle.packed_event.specs.declared.places.Places.{Places}
use Rattle.packed_event.proofs.Loose.{attribute_is_as_long, optional_as_long, optional_same, repeated_as_long}
use Rattle.packed_event.proofs.Loose.{micros_are_looser, repeated_same, text_is_looser, ttl_is_as_long}
use Rattle.packed_event.proofs.Parts.{done, some_is}
use Rattle.packed_event.proofs.Unpacked.{event_stages, name_stages, number_stages, reads_back}

pub not_none : {A : Type 0} (o : Option A) (x : A) → o ≡ None → o ≡ Some x → ⊥
not_none o x none some = none_some x (sym none ∙ some)
  where
    none_some : {A : Type 0} (a : A) → None ≡ Some a → ⊥
    none_some a e = cc

-- what was read is what reading gives, flattened
pub flat : {X Y : Type 0} (view : X → Option Y) (r : Option X) (read : Option (Option Y)) (y : Option Y)
    → Gives view r read → read ≡ Some y → option_and_then view r ≡ y
flat view (Some x) read y given is = some_same (view x) y (sym given ∙ is)
  where
    some_same : {A : Type 0} (a b : A) → Some a ≡ Some b → a ≡ b
    some_same a b e = cc
flat view None read y given is = absurd (not_none read y given is)

-- it is UTF-8 where the field of the event is
pub flat_utf8 : (r : Option (Option (Bor (List ℕ)))) (read : Option (Option (List ℕ))) (text : Option (List ℕ))
    → Gives (λ (text : Option (Bor (List ℕ))). option_copied text) r read → read ≡ Some text → IfSome text IsUtf8
    → IfSome r (λ text. IfSome text (λ text. IsUtf8 text.now))
flat_utf8 None read text given is good = tt
flat_utf8 (Some None) read text given is good = tt
flat_utf8 (Some (Some held)) read text given is good =
    subst (λ (t : Option (List ℕ)). IfSome t IsUtf8)
    (some_is text (Some held.now) (sym is ∙ given)) good

-- the parts of the bytes of an event that are kept
pub record Parts (bytes : List ℕ) (places : Places) : Type 0 where
  pub state : state_part bytes ≡ Some (event_in bytes).state
  pub description : description_part bytes ≡ Some (event_in bytes).description
  pub metric : metric_part (drop places.tags bytes) ≡ Some (event_in bytes).metric
  pub tags_left : List ℕ
  pub tags_read : repeated 58 bytes_part (drop places.tags bytes) ≡ done ((event_in bytes).tags, tags_left)
  pub attributes : List ℕ
  pub attributes_left : List ℕ
  pub attributes_at : attributes_start (drop places.tags bytes) ≡ Some attributes
  pub attributes_read : repeated 74 attribute_part attributes ≡ done ((event_in bytes).attributes, attributes_left)

pub parts : (bytes : List ℕ) (places : Places) → IsKept bytes places → Parts bytes places
unfolding state_part description_part metric_part attributes_start tags_start
parts bytes places kept =
    let event : Event = event_in bytes in
    let back = reads_back bytes event kept.packed.well_formed kept.packed.spelled_as kept.few in
    let s = event_stages bytes (back.0, event) back.1 in
    let n = name_stages (length bytes) bytes s.names s.names_read in
    let k = number_stages s.names.0.time s.attributes.1 s.numbers s.numbers_are in
    let text_same = optional_same text_part bytes_part text_is_looser in
    let begun : tags_start bytes ≡ Some s.names.1 = rw s.names_read refl in
    let start : s.names.1 ≡ drop places.tags bytes =
    some_is {A = List ℕ} s.names.1 (drop places.tags bytes) (sym begun ∙ kept.tags) in
    let tags : repeated 58 bytes_part s.names.1 ≡ Some s.tags =
    repeated_same text_part bytes_part text_is_looser 58 s.names.1 s.tags s.tags_read in
    let ttl = optional_as_long ttl_part (number_part w32) ttl_is_as_long 69 s.tags.1 s.ttl s.ttl_read in
    let attributes =
    repeated_as_long attribute_part bytes_part attribute_is_as_long 74 s.ttl.1 s.attributes s.attributes_read in
    let micros : optional 80 int64_part s.attributes.1 ≡ Some k.micros =
    optional_same (micros_part s.names.0.time) int64_part (micros_are_looser s.names.0.time) 80 s.attributes.1 k.micros
    k.micros_read in
    let metric : metric_part s.names.1 ≡ Some event.metric =
    rw (tags, ttl.1, attributes.1, micros, k.metric_read)
    (ap done (k.metric_is ∙ ap (λ (e : Event). e.metric) s.event)) in
    let attributes_at : attributes_start s.names.1 ≡ Some s.ttl.1 = rw (tags, ttl.1) refl in
    record {
      state =
          rw (n.time_read, text_same 18 n.time.1 n.state n.state_read)
          (ap done (ap (λ (e : Event). e.state) (n.named event) ∙ ap (λ (e : Event). e.state) s.event));
      description =
          rw (
            n.time_read,
            text_same 18 n.time.1 n.state n.state_read,
            text_same 26 n.state.1 n.service n.service_read,
            text_same 34 n.service.1 n.host n.host_read,
            text_same 42 n.host.1 n.description n.description_read,
          )
          (ap done (ap (λ (e : Event). e.description) (n.named event) ∙ ap (λ (e : Event). e.description) s.event));
      metric =
          subst (λ (t : List ℕ). metric_part t ≡ Some event.metric) start metric;
      tags_left = s.tags.1;
      tags_read =
          subst (λ (t : List ℕ). repeated 58 bytes_part t ≡ done (event.tags, s.tags.1)) start
          (tags ∙ ap (λ (e : Event). done (e.tags, s.tags.1)) s.event);
      attributes = s.ttl.1;
      attributes_left = s.attributes.1;
      attributes_at = subst (λ (t : List ℕ). attributes_start t ≡ done s.ttl.1) start attributes_at;
      attributes_read = s.attributes_read ∙ ap (λ (e : Event). done (e.attributes, s.attributes.1)) s.event;
    }
