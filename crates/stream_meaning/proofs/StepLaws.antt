-- The keys of live forks with the moments of their last events, as each entry leaves them.
use Rattle.std.proofs.Common.{◌≡◌, ℕ, ◌+◌, ◌-◌, ◌<◌, ◌≤◌, ◌==◌, Bool, true, false, not, ◌||◌, cond, List, [], ◌∷◌, ◌++◌}
use Rattle.std.proofs.Common.{map, nat_lt, Option, Some, None, refl, sym, ap, ◌∙◌, arith}
use mathlib.Core.Bool.{true≢false}
use Rattle.std.specs.List.{AllByRecursion, filter, list_any}
use Rattle.std.proofs.lemmas.Bool.Decides.{nat_tests}
use Rattle.std.proofs.lemmas.List.{map-append}
use Rattle.ev_types.specs.declared.event.Event.{Event}
use Rattle.ev_types.specs.declared.field.Field.{Field}
use Rattle.ev_types.specs.declared.item.Item.TheVariants.{One, Many}
use Rattle.ev_types.specs.declared.value.Value.{Value}
use Rattle.ev_types.specs.Key.{same_key, event_key}
use Rattle.stream_meaning.specs.History.{History, since, ◌▸◌, Tick, In, moment_of, is_at}
use Rattle.stream_meaning.specs.Ends.{last_moment, idle_after, ends_next, live_keys}
use Rattle.stream_meaning.specs.EndSteps.{TimedKey, moment_or_zero, timed_key, timed_keys, is_of_key, touched}
use Rattle.stream_meaning.specs.EndSteps.{with_timed, is_fresh, TimedKeysFollowEntries, FreshKeysGoByMoments}
use Rattle.stream_meaning.specs.Laws.{is_among}
use Rattle.stream_meaning.proofs.KeptEvents.{all-weaker}
use Rattle.stream_meaning.proofs.EndLaws.{key_same, key_flip}
use Rattle.stream_meaning.proofs.LiveLaws.{map_filter, filter_same, keys_at_tick, keys_at_event, is_recent}
use Rattle.stream_meaning.proofs.LiveLaws.{live_is_recent}

-- ---- lists

or_true : (t : Bool) → t || true ≡ true
or_true true = refl
or_true false = refl

-- what holds of the keys that are found among some keys holds of each of these
all_among : (P : List Value → Type 0) (keys : List (List Value))
    → ((key : List Value) → is_among key keys ≡ true → P key) → AllByRecursion P keys
all_among P [] f = tt
all_among P (first ∷ keys) f = (
  f first (ap (λ t. t || is_among first keys) (key_same first first refl)),
  all_among P keys (λ key among. f key (ap (λ t. same_key first key || t) among ∙ or_true (same_key first key))),
)

map_same : {A B : Type 0} (f g : A → B) (xs : List A) → AllByRecursion (λ x. f x ≡ g x) xs → map f xs ≡ map g xs
map_same f g [] same = refl
map_same f g (x ∷ xs) same = ap (λ y. y ∷ map f xs) same.0 ∙ ap (λ l. g x ∷ l) (map_same f g xs same.1)

map_twice : {A B C : Type 0} (g : B → C) (f : A → B) (xs : List A) → map (λ x. g (f x)) xs ≡ map g (map f xs)
map_twice g f [] = refl
map_twice g f (x ∷ xs) = ap (λ l. g (f x) ∷ l) (map_twice g f xs)

all_map : {A B : Type 0} (P : B → Type 0) (f : A → B) (xs : List A) → AllByRecursion (λ x. P (f x)) xs
    → AllByRecursion P (map f xs)
all_map P f [] all = tt
all_map P f (x ∷ xs) all = (all.0, all_map P f xs all.1)

-- ---- live keys have come

pub live_recent : (secs : ℕ) (fields : List Field) (h : History) → 0 < secs
    → AllByRecursion (λ key. is_recent secs (last_moment fields key h) (moment_of h) ≡ true)
    (live_keys (Some secs) fields h)
live_recent secs fields h pos =
    all_among (λ key. is_recent secs (last_moment fields key h) (moment_of h) ≡ true) (live_keys (Some secs) fields h)
    (λ key among. sym (live_is_recent secs fields key h pos) ∙ among)

-- ---- ticks

fresh_step : (secs : ℕ) (last : Option ℕ) (now : ℕ) → is_recent secs last now ≡ true
    → not (is_at (now + 1) (idle_after (Some secs) last)) ≡ nat_lt (now + 1) (moment_or_zero last + secs)
fresh_step secs None now e = absurd (true≢false (sym e))
fresh_step secs (Some last) now e = ahead (last + secs) e
  where
    ahead : (end : ℕ) → nat_lt now end ≡ true → not (now + 1 == end) ≡ nat_lt (now + 1) end
    ahead end e = grind (arith, nat_tests)

timed_at_tick : (secs : ℕ) (fields : List Field) (h : History) → 0 < secs →
    timed_keys (Some secs) fields (h ▸ Tick)
    ≡ filter (is_fresh secs (moment_of (h ▸ Tick))) (timed_keys (Some secs) fields h)
timed_at_tick secs fields h pos =
    let now = moment_of (h ▸ Tick) in
    let keys = live_keys (Some secs) fields h in
    let stays = λ (key : List Value). not (ends_next (Some secs) fields key h) in
    let fresh = λ (key : List Value). is_fresh secs now (timed_key fields h key) in
    ap (map (timed_key fields h)) (keys_at_tick (Some secs) fields h
    ∙ filter_same stays fresh keys
    (all-weaker (λ key. is_recent secs (last_moment fields key h) (moment_of h) ≡ true) (λ key. stays key ≡ fresh key)
    (λ key. fresh_step secs (last_moment fields key h) (moment_of h)) keys (live_recent secs fields h pos)))
    ∙ map_filter (timed_key fields h) (is_fresh secs now) keys

-- ---- events

timed_is : (t : Bool) (now : ℕ) (last : Option ℕ) (key : List Value) (timed : TimedKey) →
    timed ≡ record { key = key; at = moment_or_zero last } →
    record { key = key; at = moment_or_zero (cond t (Some now) last) } ≡ cond t (record timed { at = now }) timed
timed_is true now last key timed is = ap (λ (other : TimedKey). record other { at = now }) (sym is)
timed_is false now last key timed is = sym is

touched_is : (fields : List Field) (h : History) (event : Event) (key : List Value) →
    timed_key fields (h ▸ In (One event)) key ≡ touched (event_key event fields) (moment_of h) (timed_key fields h key)
touched_is fields h event key =
    timed_is (same_key (event_key event fields) key) (moment_of h) (last_moment fields key h) key
    (timed_key fields h key) refl

found : (new : List Value) (fields : List Field) (h : History) (keys : List (List Value))
    → list_any (is_of_key new) (map (timed_key fields h) keys) ≡ is_among new keys
found new fields h [] = refl
found new fields h (key ∷ keys) =
    ap (λ t. t || list_any (is_of_key new) (map (timed_key fields h) keys)) (key_flip new key)
    ∙ ap (λ t. same_key key new || t) (found new fields h keys)

all_touched : (fields : List Field) (h : History) (event : Event) (keys : List (List Value)) →
    AllByRecursion
    (λ key.
    timed_key fields (h ▸ In (One event)) key ≡ touched (event_key event fields) (moment_of h) (timed_key fields h key))
    keys
all_touched fields h event [] = tt
all_touched fields h event (key ∷ keys) = (touched_is fields h event key, all_touched fields h event keys)

all_touched-map : (fields : List Field) (h : History) (event : Event) (keys : List (List Value)) →
    map (timed_key fields (h ▸ In (One event))) keys
    ≡ map (touched (event_key event fields) (moment_of h)) (map (timed_key fields h) keys)
all_touched-map fields h event keys =
    map_same (timed_key fields (h ▸ In (One event)))
    (λ key. touched (event_key event fields) (moment_of h) (timed_key fields h key)) keys
    (all_touched fields h event keys)
    ∙ map_twice (touched (event_key event fields) (moment_of h)) (timed_key fields h) keys

neither : (s t : Bool) → s || t ≡ false → (s ≡ false) × (t ≡ false)
neither true t e = absurd (true≢false e)
neither false t e = (refl, e)

-- a key that no one of these is leaves them
untouched : (new : List Value) (now : ℕ) (timed : List TimedKey) → list_any (is_of_key new) timed ≡ false
    → map (touched new now) timed ≡ timed
untouched new now [] e = refl
untouched new now (first ∷ timed) e =
    let parts = neither (is_of_key new first) (list_any (is_of_key new) timed) e in
    ap (λ t. cond t (record first { at = now }) first ∷ map (touched new now) timed) parts.0
    ∙ ap (λ l. first ∷ l) (untouched new now timed parts.1)

-- the key of the event itself
own_key : (fields : List Field) (h : History) (event : Event)
    → timed_key fields (h ▸ In (One event)) (event_key event fields)
    ≡ record { key = event_key event fields; at = moment_of h }
own_key fields h event =
    let key = event_key event fields in
    ap (λ t. record { key = key; at = moment_or_zero (cond t (Some (moment_of h)) (last_moment fields key h)) })
    (key_same key key refl)

-- of keys among which the new one is already (t) or not
timed_step : (t : Bool) (fields : List Field) (h : History) (event : Event) (keys : List (List Value)) →
    is_among (event_key event fields) keys ≡ t →
    map (timed_key fields (h ▸ In (One event))) (cond t keys (keys ++ event_key event fields ∷ []))
    ≡ cond t (map (touched (event_key event fields) (moment_of h)) (map (timed_key fields h) keys))
    (map (timed_key fields h) keys ++ record { key = event_key event fields; at = moment_of h } ∷ [])
timed_step true fields h event keys e = all_touched-map fields h event keys
timed_step false fields h event keys e =
    let new = event_key event fields in
    let timed = map (timed_key fields h) keys in
    map-append (timed_key fields (h ▸ In (One event))) keys (new ∷ [])
    ∙ ap (λ l. l ++ timed_key fields (h ▸ In (One event)) new ∷ [])
    (all_touched-map fields h event keys ∙ untouched new (moment_of h) timed (found new fields h keys ∙ e))
    ∙ ap (λ last. timed ++ last ∷ []) (own_key fields h event)

timed_at_event : (secs : ℕ) (fields : List Field) (h : History) (event : Event) →
    timed_keys (Some secs) fields (h ▸ In (One event))
    ≡ with_timed (event_key event fields) (moment_of h) (timed_keys (Some secs) fields h)
timed_at_event secs fields h event =
    let new = event_key event fields in
    let keys = live_keys (Some secs) fields h in
    let timed = map (timed_key fields h) keys in
    ap (map (timed_key fields (h ▸ In (One event)))) (keys_at_event (Some secs) fields h event)
    ∙ timed_step (is_among new keys) fields h event keys refl
    ∙ ap (λ t. cond t (map (touched new (moment_of h)) timed) (timed ++ record { key = new; at = moment_of h } ∷ []))
    (sym (found new fields h keys))

-- ---- moments

-- the moment of a last event is not after this one
abbrev IsBy : ℕ → Option ℕ → Type 0
IsBy now None = Unit {0}
IsBy now (Some last) = last ≤ now

by_later : (now : ℕ) (last : Option ℕ) → IsBy now last → IsBy (now + 1) last
by_later now None by = tt
by_later now (Some last) by = omega arith

by_step : (t : Bool) (now : ℕ) (last : Option ℕ) → IsBy now last → IsBy now (cond t (Some now) last)
by_step true now last by = omega arith
by_step false now last by = by

last_by : (fields : List Field) (key : List Value) (h : History) → IsBy (moment_of h) (last_moment fields key h)
last_by fields key (since start) = tt
last_by fields key (h ▸ Tick) = by_later (moment_of h) (last_moment fields key h) (last_by fields key h)
last_by fields key (h ▸ In (One event)) =
    by_step (same_key (event_key event fields) key) (moment_of h) (last_moment fields key h) (last_by fields key h)
last_by fields key (h ▸ In (Many es)) = last_by fields key h

between_step : (secs now : ℕ) (last : Option ℕ) → IsBy now last → is_recent secs last now ≡ true
    → (moment_or_zero last ≤ now) × (now < moment_or_zero last + secs)
between_step secs now None by e = absurd (true≢false (sym e))
between_step secs now (Some last) by e = (by, below now (last + secs) e)
  where
    below : (a b : ℕ) → nat_lt a b ≡ true → a < b
    below a b e = grind (arith, nat_tests)

timed_between : (secs : ℕ) (fields : List Field) (h : History) → 0 < secs →
    AllByRecursion (λ timed. (timed.at ≤ moment_of h) × (moment_of h < timed.at + secs))
    (timed_keys (Some secs) fields h)
timed_between secs fields h pos =
    let now = moment_of h in
    let keys = live_keys (Some secs) fields h in
    all_map (λ timed. (timed.at ≤ now) × (now < timed.at + secs)) (timed_key fields h) keys
    (all-weaker (λ key. is_recent secs (last_moment fields key h) now ≡ true)
    (λ key.
    (moment_or_zero (last_moment fields key h) ≤ now) × (now < moment_or_zero (last_moment fields key h) + secs))
    (λ key. between_step secs now (last_moment fields key h) (last_by fields key h)) keys
    (live_recent secs fields h pos))

pub timed_keys_follow : TimedKeysFollowEntries
timed_keys_follow secs fields pos = record {
  begin = λ start. refl;
  tick = λ h. timed_at_tick secs fields h pos;
  event = timed_at_event secs fields;
  vector = λ h es. refl;
  between = λ h. timed_between secs fields h pos;
}

pub fresh_keys_go_by_moments : FreshKeysGoByMoments
fresh_keys_go_by_moments secs now timed =
    record { later = λ within. past secs now timed.at within; early = λ below. soon secs now timed.at below }
  where
    past : (secs now at : ℕ) → secs ≤ now → nat_lt now (at + secs) ≡ nat_lt (now - secs) at
    past secs now at within = grind (arith, nat_tests)

    soon : (secs now at : ℕ) → now < secs → nat_lt now (at + secs) ≡ true
    soon secs now at below = grind (arith, nat_tests)
