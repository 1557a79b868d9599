-- The events that are found under the numbers so far, and copies of events that are lent.
use Rattle.std.proofs.Common.{◌≡◌, ℕ, ◌+◌, ◌<◌, Bool, true, false, cond, List, [], ◌∷◌, ◌++◌, filter, take, length}
use Rattle.std.proofs.Common.{get_or, Option, None, Some, refl, sym, ap, ◌∙◌, append_assoc}
use denote.Ref.{Bor}
use Rattle.std.specs.Prelude.{Result, Ok, Err, OnErr}
use Rattle.std.specs.Map.{values_of}
use Rattle.std.specs.List.{AllByRecursion}
use Rattle.std.specs.Option.{option_map, IsSome}
use Rattle.std.proofs.lemmas.List.{map-append, take_more}
use Rattle.std.proofs.lemmas.List.Elements.{All-from_recursion}
use Rattle.ev_types.specs.declared.event.Event.{Event}
use Rattle.key_map.specs.Keys.{IndexKey, Numbers}
use Rattle.linked_slots.specs.Table.{value_at, IsLive}
use Rattle.live_index.specs.Index.{events_lent}
use Rattle.live_index.specs.Slots.{key_of, also, events_at, AreLive, IsLinked}
use Rattle.live_index.proofs.RowLaws.{HasKey, all_found}

pub events-append : (table : List (Option Event)) (ms ns : List ℕ)
    → events_at table (ms ++ ns) ≡ events_at table ms ++ events_at table ns
events-append table [] ns = refl
events-append table (m ∷ ms) ns = also_by (value_at table m) (events-append table ms ns)
  where
    also_by : (slot : Option Event) → events_at table (ms ++ ns) ≡ events_at table ms ++ events_at table ns
        → also slot (events_at table (ms ++ ns)) ≡ also slot (events_at table ms) ++ events_at table ns
    also_by None ih = ih
    also_by (Some e) ih = ap (λ es. e ∷ es) ih

pub filter-append : (p : Event → Bool) (es fs : List Event) → filter p (es ++ fs) ≡ filter p es ++ filter p fs
filter-append p [] fs = refl
filter-append p (e ∷ es) fs = filter_by (p e) (filter-append p es fs)
  where
    filter_by : (b : Bool) → filter p (es ++ fs) ≡ filter p es ++ filter p fs
        → cond b (e ∷ filter p (es ++ fs)) (filter p (es ++ fs)) ≡ cond b (e ∷ filter p es) (filter p es) ++ filter p fs
    filter_by true ih = ap (λ r. e ∷ r) ih
    filter_by false ih = ih

pub found-more : (p : Event → Bool) (table : List (Option Event)) (ns : List ℕ) (i : ℕ) → i < length ns
    → filter p (events_at table (take (i + 1) ns))
    ≡ filter p (events_at table (take i ns)) ++ filter p (events_at table (get_or ns i 0 ∷ []))
found-more p table ns i lt =
    ap (λ ns. filter p (events_at table ns)) (take_more ns i 0 lt)
    ∙ ap (filter p) (events-append table (take i ns) (get_or ns i 0 ∷ []))
    ∙ filter-append p (events_at table (take i ns)) (events_at table (get_or ns i 0 ∷ []))

pub copied-more : (p : Event → Bool) (table : List (Option Event)) (ns : List ℕ) (i : ℕ) (e : Event) → i < length ns
    → value_at table (get_or ns i 0) ≡ Some e
    → filter p (events_at table (take (i + 1) ns)) ≡ filter p (events_at table (take i ns)) ++ filter p (e ∷ [])
copied-more p table ns i e lt at =
    found-more p table ns i lt
    ∙ ap (λ slot. filter p (events_at table (take i ns)) ++ filter p (also slot [])) at

-- one more number is visited: its event is read, and found where it passes
pub copied_on : (p p' : Event → Bool) (table : List (Option Event)) (ns : List ℕ) (i : ℕ) (e : Event)
    (start out out' : List Event)
    → p' ≡ p → out ≡ start ++ filter p (events_at table (take i ns))
    → out' ≡ out ++ filter p' (e ∷ []) → i < length ns → value_at table (get_or ns i 0) ≡ Some e
    → out' ≡ start ++ filter p (events_at table (take (i + 1) ns))
copied_on p p' table ns i e start out out' same before now lt at =
    now ∙ ap (λ out. out ++ filter p' (e ∷ [])) before
    ∙ ap (λ p'. (start ++ filter p (events_at table (take i ns))) ++ filter p' (e ∷ [])) same
    ∙ append_assoc start (filter p (events_at table (take i ns))) (filter p (e ∷ []))
    ∙ ap (λ r. start ++ r) (sym (copied-more p table ns i e lt at))

pub on_err : {T E P : Type 0} (result : Result T E) → P → OnErr result P
on_err (Ok value) fact = tt
on_err (Err fault) fact = fact

-- one more event that is lent is copied
pub lent_on : (events : List (Bor Event)) (i : ℕ) (event : Bor Event) (copy : Event) (start out out' : List Event)
    → i < length events → event ≡ get_or events i event → copy ≡ event.now
    → out ≡ start ++ events_lent (take i events) → out' ≡ out ++ copy ∷ []
    → out' ≡ start ++ events_lent (take (i + 1) events)
lent_on events i event copy start out out' within is same before now =
    now ∙ ap (λ out. out ++ copy ∷ []) before ∙ append_assoc start (events_lent (take i events)) (copy ∷ [])
    ∙ ap (λ more. start ++ more)
    (ap (λ e. events_lent (take i events) ++ e ∷ []) (same ∙ ap (λ (e : Bor Event). e.now) is)
    ∙ sym (map-append (λ (e : Bor Event). e.now) (take i events) (get_or events i event ∷ []))
    ∙ ap events_lent (sym (take_more events i event within)))

some-is : (slot : Option Event) (k : IndexKey) → option_map key_of slot ≡ Some k → IsSome slot
some-is None k h = absurd (cc)
some-is (Some e) k h = refl

live-in : (table : List (Option Event)) (rest : Numbers) → AllByRecursion (HasKey table) rest
    → AllByRecursion (λ n. IsSome (value_at table n)) (values_of rest)
live-in table [] h = tt
live-in table (e ∷ rest) h = (some-is (value_at table e.1) e.0 h.0, live-in table rest h.1)

pub all_live : (numbers : Numbers) (table : List (Option Event)) → IsLinked numbers table
    → AreLive table (values_of numbers)
all_live numbers table linked =
    All-from_recursion (IsLive table) (values_of numbers) (live-in table numbers (all_found numbers table linked))

-- those that pass a test have what all have
all-among : (test : IndexKey × ℕ → Bool) (table : List (Option Event)) (rest : Numbers)
    → AllByRecursion (HasKey table) rest → AllByRecursion (HasKey table) (filter test rest)
all-among test table [] h = tt
all-among test table (e ∷ rest) h = among_by (test e) (all-among test table rest h.1)
  where
    among_by : (b : Bool) → AllByRecursion (HasKey table) (filter test rest)
        → AllByRecursion (HasKey table) (cond b (e ∷ filter test rest) (filter test rest))
    among_by true ih = (h.0, ih)
    among_by false ih = ih

pub live_among : (test : IndexKey × ℕ → Bool) (numbers : Numbers) (table : List (Option Event)) → IsLinked numbers table
    → AreLive table (values_of (filter test numbers))
live_among test numbers table linked =
    All-from_recursion (IsLive table) (values_of (filter test numbers))
    (live-in table (filter test numbers) (all-among test table numbers (all_found numbers table linked)))
