-- The live events of one key.
use Rattle.std.proofs.Common.{◌≡◌, ℕ, Bool, true, false, not, ◌||◌, ◌&&◌, cond, List, [], ◌∷◌, Option, Some, None, refl}
use Rattle.std.proofs.Common.{sym, ap, ◌∙◌}
use mathlib.Core.Bool.{true≢false}
use Rattle.std.specs.declared.cmp.Ordering.{Ordering}
use Rattle.std.specs.declared.cmp.Ordering.TheVariants.{Less, Equal, Greater}
use Rattle.std.specs.Ordering.{nat_cmp, ordering_then, is_eq}
use Rattle.std.specs.Cmp.Lexicographic.{slice_cmp}
use Rattle.std.specs.List.{filter, list_any}
use Rattle.std.proofs.lemmas.Map.Lookups.{exact_bytes}
use Rattle.ev_types.specs.declared.event.Event.{Event}
use Rattle.ev_types.specs.declared.field.Field.{Field}
use Rattle.ev_types.specs.declared.field.Field.TheVariants.{Host, Service, State, Description, Time, Ttl, Metric}
use Rattle.ev_types.specs.declared.field.Field.TheVariants.{Attribute}
use Rattle.ev_types.specs.declared.value.Value.{Value}
use Rattle.ev_types.specs.Field.{text_value}
use Rattle.ev_types.specs.Key.{same_key, event_key}
use Rattle.index_log.specs.IndexKey.{text_cmp, index_key_cmp, same_index_key}
use Rattle.index_log.specs.Live.{IndexLog, Write, Reap, ends, ends_key, is_live, kept, placed_onto, live_events}
use Rattle.index_log.specs.OfKey.{are_index_fields, event_has, log_of_key, KeysHaveTheirLogs}
use Rattle.index_log.proofs.IndexKeys.{filter-placed_onto}

-- ---- events of one host and service have one key

then_nothing : (r : Ordering) → ordering_then r Equal ≡ r
then_nothing Less = refl
then_nothing Equal = refl
then_nothing Greater = refl

exact-text : (a b : Option (List ℕ)) → text_cmp a b ≡ Equal → a ≡ b
exact-text None None e = refl
exact-text None (Some u) e = absurd (cc)
exact-text (Some t) None e = absurd (cc)
exact-text (Some t) (Some u) e = ap Some (exact_bytes t u (sym (then_nothing (slice_cmp nat_cmp t u)) ∙ e))

both_equal : (r s : Ordering) → is_eq (ordering_then r s) ≡ true → (r ≡ Equal) × (s ≡ Equal)
both_equal Less s e = absurd (true≢false (sym e))
both_equal Equal Less e = absurd (true≢false (sym e))
both_equal Equal Equal e = (refl, refl)
both_equal Equal Greater e = absurd (true≢false (sym e))
both_equal Greater s e = absurd (true≢false (sym e))

pub both_true : (s t : Bool) → s && t ≡ true → (s ≡ true) × (t ≡ true)
both_true true t e = (refl, e)
both_true false t e = absurd (true≢false (sym e))

-- events of one host and one service hold the same in the fields of an index
pub same_values : (fields : List Field) (a b : Event) → are_index_fields fields ≡ true → a.host ≡ b.host
    → a.service ≡ b.service → event_key a fields ≡ event_key b fields
same_values [] a b within host service = refl
same_values (Host ∷ fields) a b within host service =
    ap (λ (text : Option (List ℕ)). text_value text ∷ event_key a fields) host
    ∙ ap (λ (k : List Value). text_value b.host ∷ k) (same_values fields a b within host service)
same_values (Service ∷ fields) a b within host service =
    ap (λ (text : Option (List ℕ)). text_value text ∷ event_key a fields) service
    ∙ ap (λ (k : List Value). text_value b.service ∷ k) (same_values fields a b within host service)
same_values (State ∷ fields) a b within host service = absurd (true≢false (sym within))
same_values (Description ∷ fields) a b within host service = absurd (true≢false (sym within))
same_values (Time ∷ fields) a b within host service = absurd (true≢false (sym within))
same_values (Ttl ∷ fields) a b within host service = absurd (true≢false (sym within))
same_values (Metric ∷ fields) a b within host service = absurd (true≢false (sym within))
same_values (Attribute name ∷ fields) a b within host service = absurd (true≢false (sym within))

same_index-same_key : (fields : List Field) (a b : Event) → are_index_fields fields ≡ true → same_index_key a b ≡ true
    → event_key a fields ≡ event_key b fields
unfolding index_key_cmp
same_index-same_key fields a b within same =
    let parts = both_equal (text_cmp a.host b.host) (text_cmp a.service b.service) same in
    same_values fields a b within (exact-text a.host b.host parts.0) (exact-text a.service b.service parts.1)

-- ---- of a log, what one key has

module _ (fields : List Field) (key : List Value) (within : are_index_fields fields ≡ true) where
  -- what is not of the key of an event does not end it
  spared_by : (event later : Event) → event_has fields key event ≡ true → event_has fields key later ≡ false
      → same_index_key event later ≡ false
  spared_by event later mine other = differs (same_index_key event later) refl
    where
      differs : (t : Bool) → same_index_key event later ≡ t → t ≡ false
      differs false e = refl
      differs true e =
          absurd (true≢false (sym mine
          ∙ ap (λ (k : List Value). same_key k key) (same_index-same_key fields event later within e) ∙ other))

  ends_by_its_log : (event : Event) → event_has fields key event ≡ true → (log : IndexLog)
      → list_any (ends event) (log_of_key fields key log) ≡ list_any (ends event) log
  ends_by_its_log event mine [] = refl
  ends_by_its_log event mine (Reap t ∷ log) = ap (λ r. ends event (Reap t) || r) (ends_by_its_log event mine log)
  ends_by_its_log event mine (Write later ∷ log) =
      step (event_has fields key later) refl (ends_by_its_log event mine log)
    where
      step : (t : Bool) → event_has fields key later ≡ t →
          list_any (ends event) (log_of_key fields key log) ≡ list_any (ends event) log →
          list_any (ends event) (cond t (Write later ∷ log_of_key fields key log) (log_of_key fields key log))
          ≡ same_index_key event later || list_any (ends event) log
      step true e rest = ap (λ r. same_index_key event later || r) rest
      step false e rest = rest ∙ sym (ap (λ r. r || list_any (ends event) log) (spared_by event later mine e))

  filter_either : (p : Event → Bool) (t : Bool) (event : Event) (es : List Event)
      → filter p (cond t (event ∷ es) es) ≡ cond t (cond (p event) (event ∷ filter p es) (filter p es)) (filter p es)
  filter_either p true event es = refl
  filter_either p false event es = refl

  kept_of_key : (log : IndexLog) → filter (event_has fields key) (kept log) ≡ kept (log_of_key fields key log)
  kept_of_key [] = refl
  kept_of_key (Reap t ∷ log) = kept_of_key log
  kept_of_key (Write event ∷ log) =
      filter_either (event_has fields key) (is_live event log) event (kept log)
      ∙ step (event_has fields key event) refl (kept_of_key log)
    where
      other_step : (t : Bool) (es : List Event) → cond t es es ≡ es
      other_step true es = refl
      other_step false es = refl

      step : (t : Bool) → event_has fields key event ≡ t →
          filter (event_has fields key) (kept log) ≡ kept (log_of_key fields key log) →
          cond (is_live event log)
          (cond t (event ∷ filter (event_has fields key) (kept log)) (filter (event_has fields key) (kept log)))
          (filter (event_has fields key) (kept log))
          ≡ kept (cond t (Write event ∷ log_of_key fields key log) (log_of_key fields key log))
      step true e rest =
          ap (λ es. cond (is_live event log) (event ∷ es) es) rest
          ∙ ap
          (λ s.
          cond (not (ends_key event || s)) (event ∷ kept (log_of_key fields key log))
          (kept (log_of_key fields key log)))
          (sym (ends_by_its_log event e log))
      step false e rest = other_step (is_live event log) (filter (event_has fields key) (kept log)) ∙ rest

  live_of_key : (log : IndexLog)
      → filter (event_has fields key) (live_events log) ≡ live_events (log_of_key fields key log)
  unfolding live_events
  live_of_key log = filter-placed_onto (event_has fields key) [] (kept log) tt ∙ ap (placed_onto []) (kept_of_key log)

pub keys_have_logs : KeysHaveTheirLogs
keys_have_logs fields key log within = live_of_key fields key within log
