-- The events under numbers in key order, and what a look-up by key finds among them.
use Rattle.std.proofs.Common.{◌≡◌, ℕ, Bool, true, false, cond, suc, List, [], ◌∷◌, map, length, Option, None, Some}
use Rattle.std.proofs.Common.{refl, sym, ap, ◌∙◌, subst}
use Rattle.std.specs.declared.cmp.Ordering.TheVariants.{Less}
use Rattle.std.specs.Option.{option_map}
use Rattle.std.specs.List.{AllByRecursion}
use Rattle.std.specs.List.Sorted.{IsStrictlySortedBy}
use Rattle.std.specs.Map.{lookup, keys_of, values_of}
use Rattle.std.specs.BTreeMap.{is_at}
use Rattle.std.proofs.lemmas.Map.Keys.{sorted_tail}
use Rattle.ev_types.specs.declared.event.Event.{Event}
use Rattle.index_log.specs.IndexKey.{index_key_cmp}
use Rattle.key_map.specs.Keys.{IndexKey, key_cmp, Numbers, number_at, IsRising}
use Rattle.linked_slots.specs.Table.{value_at}
use Rattle.live_index.specs.Slots.{key_of, also, events_in, slot_at, event_of, IsLinked}
use Rattle.live_index.proofs.LinkLaws.{key_total, exact-key}
use Rattle.live_index.proofs.PairLaws.{at_head, still_found, same_pairs}

-- the events, each with its key
abbrev pub keyed : List Event → List (IndexKey × Event)
keyed events = map (λ event. (key_of event, event)) events

-- the event of the key
abbrev pub find_key : IndexKey → List Event → Option Event
find_key key events = lookup (is_at (key_cmp key)) (keyed events)

-- ---- events that rise are determined by the event of each key

values-keyed : (es : List Event) → values_of (keyed es) ≡ es
values-keyed [] = refl
values-keyed (e ∷ es) = ap (λ r. e ∷ r) (values-keyed es)

all-keyed : (a : Event) (es : List Event) → AllByRecursion (λ b. index_key_cmp a b ≡ Less) es
    → AllByRecursion (λ k. key_cmp (key_of a) k ≡ Less) (keys_of (keyed es))
unfolding index_key_cmp
all-keyed a [] k = tt
all-keyed a (e ∷ es) k = (k.0, all-keyed a es k.1)

pub rising-keyed : (es : List Event) → IsStrictlySortedBy index_key_cmp es
    → IsStrictlySortedBy key_cmp (keys_of (keyed es))
unfolding IsStrictlySortedBy
rising-keyed [] k = tt
rising-keyed (e ∷ es) k = (all-keyed e es k.0, rising-keyed es k.1)

all-events : (a : Event) (es : List Event) → AllByRecursion (λ k. key_cmp (key_of a) k ≡ Less) (keys_of (keyed es))
    → AllByRecursion (λ b. index_key_cmp a b ≡ Less) es
unfolding index_key_cmp
all-events a [] k = tt
all-events a (e ∷ es) k = (k.0, all-events a es k.1)

pub rising-events : (es : List Event) → IsStrictlySortedBy key_cmp (keys_of (keyed es))
    → IsStrictlySortedBy index_key_cmp es
unfolding IsStrictlySortedBy
rising-events [] k = tt
rising-events (e ∷ es) k = (all-events e es k.0, rising-events es k.1)

pub same_events : (es fs : List Event) → IsStrictlySortedBy index_key_cmp es → IsStrictlySortedBy index_key_cmp fs
    → ((q : IndexKey) → find_key q es ≡ find_key q fs) → es ≡ fs
same_events es fs s t h =
    sym (values-keyed es)
    ∙ ap values_of (same_pairs key_total exact-key (keyed es) (keyed fs) (rising-keyed es s) (rising-keyed fs t) h)
    ∙ values-keyed fs

-- ---- the events under the numbers

abbrev pub HasKey : List (Option Event) → IndexKey × ℕ → Type 0
HasKey table entry = option_map key_of (value_at table entry.1) ≡ Some entry.0

all-have : (table : List (Option Event)) (rest : Numbers) → IsRising rest
    → ((k : IndexKey) (n : ℕ) → number_at k rest ≡ Some n → option_map key_of (value_at table n) ≡ Some k)
    → AllByRecursion (HasKey table) rest
all-have table [] rising found = tt
all-have table (e ∷ rest) rising found = (
  found e.0 e.1 (at_head key_total e rest),
  all-have table rest (sorted_tail key_cmp e.0 (keys_of rest) rising)
      (λ k n h. found k n (still_found key_total k n e rest rising h)),
)

pub all_found : (numbers : Numbers) (table : List (Option Event)) → IsLinked numbers table
    → AllByRecursion (HasKey table) numbers
all_found numbers table linked = all-have table numbers linked.rising linked.found

keys-also : (slot : Option Event) (k : IndexKey) (es : List Event) → option_map key_of slot ≡ Some k
    → keys_of (keyed (also slot es)) ≡ k ∷ keys_of (keyed es)
keys-also None k es h = absurd (cc)
keys-also (Some e) k es h = let is : key_of e ≡ k = cc in ap (λ k. k ∷ keys_of (keyed es)) is

keys-in : (table : List (Option Event)) (rest : Numbers) → AllByRecursion (HasKey table) rest
    → keys_of (keyed (events_in rest table)) ≡ keys_of rest
keys-in table [] h = refl
keys-in table (e ∷ rest) h =
    keys-also (value_at table e.1) e.0 (events_in rest table) h.0 ∙ ap (λ ks. e.0 ∷ ks) (keys-in table rest h.1)

find-also : (slot : Option Event) (k q : IndexKey) (n : ℕ) (table : List (Option Event)) (es : List Event)
    (r : Option ℕ)
    → value_at table n ≡ slot → option_map key_of slot ≡ Some k → find_key q es ≡ slot_at table r
    → find_key q (also slot es) ≡ slot_at table (cond (is_at (key_cmp q) k) (Some n) r)
find-also None k q n table es r at h ih = absurd (cc)
find-also (Some e) k q n table es r at h ih =
    let is : key_of e ≡ k = cc in
    ap (λ k. cond (is_at (key_cmp q) k) (Some e) (find_key q es)) is ∙ find_by (is_at (key_cmp q) k)
  where
    find_by : (b : Bool) → cond b (Some e) (find_key q es) ≡ slot_at table (cond b (Some n) r)
    find_by true = sym at
    find_by false = ih

find-in : (q : IndexKey) (table : List (Option Event)) (rest : Numbers) → AllByRecursion (HasKey table) rest
    → find_key q (events_in rest table) ≡ slot_at table (number_at q rest)
find-in q table [] h = refl
find-in q table (e ∷ rest) h =
    find-also (value_at table e.1) e.0 q e.1 table (events_in rest table) (number_at q rest) refl h.0
    (find-in q table rest h.1)

pub find-events : (numbers : Numbers) (table : List (Option Event)) → IsLinked numbers table → (q : IndexKey)
    → find_key q (events_in numbers table) ≡ event_of q numbers table
find-events numbers table linked q = find-in q table numbers (all_found numbers table linked)

pub events-rise : (numbers : Numbers) (table : List (Option Event)) → IsLinked numbers table
    → IsStrictlySortedBy index_key_cmp (events_in numbers table)
events-rise numbers table linked =
    rising-events (events_in numbers table)
    (subst (IsStrictlySortedBy key_cmp) (sym (keys-in table numbers (all_found numbers table linked))) linked.rising)

length-also : (slot : Option Event) (k : IndexKey) (es : List Event) → option_map key_of slot ≡ Some k
    → length (also slot es) ≡ suc (length es)
length-also None k es h = absurd (cc)
length-also (Some e) k es h = refl

length-in : (table : List (Option Event)) (rest : Numbers) → AllByRecursion (HasKey table) rest
    → length (events_in rest table) ≡ length rest
length-in table [] h = refl
length-in table (e ∷ rest) h =
    length-also (value_at table e.1) e.0 (events_in rest table) h.0 ∙ ap suc (length-in table rest h.1)

pub length-events : (numbers : Numbers) (table : List (Option Event)) → IsLinked numbers table
    → length (events_in numbers table) ≡ length numbers
length-events numbers table linked = length-in table numbers (all_found numbers table linked)

pub length-values : (numbers : Numbers) → length (values_of numbers) ≡ length numbers
length-values [] = refl
length-values (e ∷ rest) = ap suc (length-values rest)
