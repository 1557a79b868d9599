-- What the forks of a `by` receive.
use Rattle.std.proofs.Common.{◌≡◌, ℕ, Bool, true, false, ◌||◌, cond, List, [], ◌∷◌, ◌++◌, Option, refl, sym, ap, ◌∙◌}
use mathlib.Core.Bool.{true≢false}
use Rattle.std.proofs.lemmas.List.Folds.{list_any-append}
use Rattle.ev_types.specs.declared.event.Event.{Event}
use Rattle.std.specs.List.{AllByRecursion, IsDistinct}
use Rattle.ev_types.specs.declared.field.Field.{Field}
use Rattle.ev_types.specs.declared.item.Item.TheVariants.{One, Many}
use Rattle.ev_types.specs.declared.value.Value.{Value}
use Rattle.ev_types.specs.Key.{same_key, event_key}
use Rattle.ev_types.proofs.Values.{same_key_decides}
use Rattle.stream_meaning.specs.History.{History, since, ◌▸◌, Tick, In, TicksAlone}
use Rattle.stream_meaning.specs.Ends.{KeyFork, same_fork, fork_of}
use Rattle.stream_meaning.specs.Branches.{with_key, fork_keys, fork_history}
use Rattle.stream_meaning.specs.Laws.{of_fork, is_among}

pub fork_events : (idle : Option ℕ) (fields : List Field) (fork : KeyFork) (h : History)
    → fork_history idle fields fork h ≡ of_fork idle fields fork h
fork_events idle fields fork (since start) = refl
fork_events idle fields fork (h ▸ Tick) = ap (λ g. g ▸ Tick) (fork_events idle fields fork h)
fork_events idle fields fork (h ▸ In (One event)) =
    ap (λ g. cond (same_fork (fork_of idle fields event h) fork) (g ▸ In (One event)) g)
    (fork_events idle fields fork h)
fork_events idle fields fork (h ▸ In (Many es)) = fork_events idle fields fork h

or_false : (s t : Bool) → s || t ≡ false → (s ≡ false) × (t ≡ false)
or_false true t e = absurd (true≢false e)
or_false false t e = (refl, e)

-- of keys among which the new one is already (t) or not
without_step : (t : Bool) (key new : List Value) (keys : List (List Value)) → is_among new keys ≡ t →
    is_among key (cond t keys (keys ++ new ∷ [])) ≡ false →
    (is_among key keys ≡ false) × (same_key new key ≡ false)
without_step false key new keys e f =
    let parts : (is_among key keys ≡ false) × (same_key new key || false ≡ false) =
    or_false (is_among key keys) (same_key new key || false)
    (sym (list_any-append (λ other. same_key other key) keys (new ∷ [])) ∙ f) in
    (parts.0, (or_false (same_key new key) false parts.1).0)
without_step true key new keys e f = (f, differs (same_key new key) refl)
  where
    differs : (s : Bool) → same_key new key ≡ s → s ≡ false
    differs false g = refl
    differs true g = absurd (true≢false (sym e ∙ ap (λ k. is_among k keys) ((same_key_decides new key).0 g) ∙ f))

-- a key that has not come was not there before, and the last event has another
pub not_among-before : (key new : List Value) (keys : List (List Value)) → is_among key (with_key new keys) ≡ false
    → (is_among key keys ≡ false) × (same_key new key ≡ false)
not_among-before key new keys f = without_step (is_among new keys) key new keys refl f

pub event_step : (t : Bool) (event : Event) (h : History) → t ≡ false → TicksAlone h
    → TicksAlone (cond t (h ▸ In (One event)) h)
event_step true event h e alone = absurd (true≢false e)
event_step false event h e alone = alone

-- ---- keys are apart

distinct-append : (keys : List (List Value)) (key : List Value) → IsDistinct same_key keys → is_among key keys ≡ false
    → IsDistinct same_key (keys ++ key ∷ [])
unfolding IsDistinct
distinct-append [] key apart e = (tt, tt)
distinct-append (first ∷ keys) key apart e =
    let parts = or_false (same_key first key) (is_among key keys) e in
    (all-append keys key first apart.0 parts.0, distinct-append keys key apart.1 parts.1)
  where
    all-append : (keys : List (List Value)) (key first : List Value) →
        AllByRecursion (λ other. same_key first other ≡ false) keys → same_key first key ≡ false →
        AllByRecursion (λ other. same_key first other ≡ false) (keys ++ key ∷ [])
    all-append [] key first all e = (e, tt)
    all-append (next ∷ keys) key first all e = (all.0, all-append keys key first all.1 e)

pub distinct_step : (t : Bool) (keys : List (List Value)) (key : List Value) → is_among key keys ≡ t
    → IsDistinct same_key keys → IsDistinct same_key (cond t keys (keys ++ key ∷ []))
distinct_step true keys key e apart = apart
distinct_step false keys key e apart = distinct-append keys key apart e

pub keys_apart : (fields : List Field) (h : History) → IsDistinct same_key (fork_keys fields h)
unfolding IsDistinct
keys_apart fields (since start) = tt
keys_apart fields (h ▸ Tick) = keys_apart fields h
keys_apart fields (h ▸ In (One event)) =
    distinct_step (is_among (event_key event fields) (fork_keys fields h)) (fork_keys fields h) (event_key event fields)
    refl (keys_apart fields h)
keys_apart fields (h ▸ In (Many es)) = keys_apart fields h
