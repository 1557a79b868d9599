-- The key of some fields, of an event whose key of more fields is known.
use Rattle.std.proofs.Common.{◌≡◌, ℕ, Bool, true, false, ◌||◌, cond, List, [], ◌∷◌, ◌++◌, map, refl, sym, ap, ◌∙◌}
use mathlib.Core.Bool.{true≢false}
use Rattle.std.specs.List.{list_any}
use Rattle.ev_types.specs.declared.event.Event.{Event}
use Rattle.ev_types.specs.declared.field.Field.{Field}
use Rattle.ev_types.specs.declared.field.Field.TheVariants.{Host, Service}
use Rattle.ev_types.specs.declared.value.Value.{Value}
use Rattle.ev_types.specs.declared.value.Value.TheVariants.{Nil}
use Rattle.ev_types.specs.Field.{field_value}
use Rattle.ev_types.specs.Key.{same_key, event_key}
use Rattle.ev_types.specs.Set.{has_text, with_tag}
use Rattle.ev_types.proofs.Values.{same_key_decides}
use Rattle.index_log.specs.OfKey.{are_index_fields}
use Rattle.index_log.proofs.OfKeyLaws.{both_true, same_values}
use Rattle.stream_meaning.specs.Images.{with_metric}
use Rattle.stream_meaning.specs.Keys.{same_index_field}
use Rattle.stream_meaning.proofs.KeptEvents.{IsKept}
use Rattle.key_laws.specs.Apart.{has_all}

pub key_is : (a b : List Value) → same_key a b ≡ true → a ≡ b
key_is a b e = (same_key_decides a b).0 e

pub key_same : (a b : List Value) → a ≡ b → same_key a b ≡ true
key_same a b e = (same_key_decides a b).1 e

-- the event is of the key
abbrev pub IsOf : List Field → List Value → Event → Type 0
IsOf fields key event = event_key event fields ≡ key

-- ---- what leaves a key as it is

tagged : {A : Type 0} (of : Event → A) (t : Bool) (a b : Event) → of b ≡ of a → of (cond t a b) ≡ of a
tagged of true a b e = refl
tagged of false a b e = e

tag_kept : (fields : List Field) → are_index_fields fields ≡ true → (event : Event) (tag : List ℕ)
    → event_key (with_tag event tag) fields ≡ event_key event fields
tag_kept fields within event tag =
    let longer : Event = record event { tags = event.tags ++ tag ∷ [] } in
    same_values fields (with_tag event tag) event within
    (tagged (λ (a : Event). a.host) (has_text tag event.tags) event longer refl)
    (tagged (λ (a : Event). a.service) (has_text tag event.tags) event longer refl)

pub of_is_kept : (fields : List Field) → are_index_fields fields ≡ true → (key : List Value) → IsKept (IsOf fields key)
of_is_kept fields within key = record {
  metric = λ number event k. same_values fields (with_metric number event) event within refl refl ∙ k;
  tag = λ event tag k. tag_kept fields within event tag ∙ k;
}

-- ---- a key of more fields

same_field : (a b : Field) → same_index_field a b ≡ true → a ≡ b
same_field Host Host e = refl
same_field Service Service e = refl
same_field a b e = absurd (true≢false (sym e))

-- the value of the field in a key of these fields
abbrev value_in : List Field → List Value → Field → Value
value_in [] values field = Nil
value_in (other ∷ others) [] field = Nil
value_in (other ∷ others) (value ∷ values) field =
    cond (same_index_field field other) value (value_in others values field)

value_is : (others : List Field) (field : Field) (event : Event) → list_any (same_index_field field) others ≡ true
    → value_in others (event_key event others) field ≡ field_value event field
value_is [] field event e = absurd (true≢false (sym e))
value_is (other ∷ others) field event e = step (same_index_field field other) refl (value_is others field event)
  where
    step : (t : Bool) → same_index_field field other ≡ t
        → (list_any (same_index_field field) others ≡ true
        → value_in others (event_key event others) field ≡ field_value event field)
        → cond t (field_value event other) (value_in others (event_key event others) field) ≡ field_value event field
    step true d ih = ap (field_value event) (sym (same_field field other d))
    step false d ih = ih (sym (ap (λ t. t || list_any (same_index_field field) others) d) ∙ e)

-- the key of the fields that is part of a key of these other fields
abbrev pub part_of : List Field → List Field → List Value → List Value
part_of others fields key = map (value_in others key) fields

pub part_is : (others fields : List Field) → has_all fields others ≡ true → (event : Event)
    → part_of others fields (event_key event others) ≡ event_key event fields
part_is others [] e event = refl
part_is others (field ∷ fields) e event =
    let parts = both_true (list_any (same_index_field field) others) (has_all fields others) e in
    ap (λ (value : Value). value ∷ part_of others fields (event_key event others)) (value_is others field event parts.0)
    ∙ ap (λ (key : List Value). field_value event field ∷ key) (part_is others fields parts.1 event)
