-- The forks that are live: those without `idle`, and what each entry does to them.
use Rattle.std.proofs.Common.{◌≡◌, ℕ, ◌+◌, ◌<◌, ◌≤◌, ◌==◌, Bool, true, false, not, ◌||◌, ◌&&◌, cond, List, [], ◌∷◌}
use Rattle.std.proofs.Common.{◌++◌, map, nat_lt, Option, Some, None, refl, sym, ap, subst, ◌∙◌, arith}
use mathlib.Core.Bool.{true≢false}
use Rattle.std.specs.Prelude.{Contains}
use Rattle.std.specs.List.{AllByRecursion, IsDistinct, filter, list_any}
use Rattle.std.proofs.lemmas.Bool.{eq-eqb, eqb-true}
use Rattle.std.proofs.lemmas.Bool.Decides.{nat_tests}
use Rattle.std.proofs.lemmas.List.{map-append}
use Rattle.std.proofs.lemmas.List.Elements.{filter-append, filter_agree, filter_passes, recursion_from_All}
use Rattle.std.proofs.lemmas.List.Folds.{list_any-append, list_any_at}
use Rattle.std.proofs.lemmas.Map.Views.{any-filter_same}
use Rattle.ev_types.specs.declared.event.Event.{Event}
use Rattle.ev_types.specs.declared.field.Field.{Field}
use Rattle.ev_types.specs.declared.item.Item.TheVariants.{One, Many}
use Rattle.ev_types.specs.declared.value.Value.{Value}
use Rattle.ev_types.specs.Key.{same_key, event_key}
use Rattle.stream_meaning.specs.History.{History, since, ◌▸◌, Tick, In, moment_of, is_at}
use Rattle.stream_meaning.specs.Ends.{last_moment, idle_after, ends_next, times_ended, KeyFork, same_fork, key_of_fork}
use Rattle.stream_meaning.specs.Ends.{fork_at, fork_of, with_fork, forks_that_came, is_live, live_forks, live_keys}
use Rattle.stream_meaning.specs.Branches.{with_key, fork_keys}
use Rattle.stream_meaning.specs.EndLaws.{first_fork, NothingEndsWithoutIdle, LiveKeysAreApart, LiveForksAreTheLatest}
use Rattle.stream_meaning.specs.EndLaws.{CameWithin, LiveKeysAreRecent}
use Rattle.stream_meaning.specs.EndSteps.{LiveForksFollowEntries, LiveKeysFollowEntries}
use Rattle.stream_meaning.specs.Laws.{of_key, of_fork, is_among}
use Rattle.stream_meaning.proofs.WindowLaws.{ne-test}
use Rattle.stream_meaning.proofs.MetLaws.{and_true, and_false}
use Rattle.stream_meaning.proofs.ForkLaws.{distinct_step}
use Rattle.stream_meaning.proofs.KeyOrderLaws.{among_is}
use Rattle.stream_meaning.proofs.KeptEvents.{all-filter, all-weaker}
use Rattle.stream_meaning.proofs.EndLaws.{key_is, key_same, the_fork, fork_is, HasCome, forks_have_come}

-- ---- lists

map_cond : {A B : Type 0} (f : A → B) (t : Bool) (xs : List A) (x : A)
    → map f (cond t xs (xs ++ x ∷ [])) ≡ cond t (map f xs) (map f xs ++ f x ∷ [])
map_cond f true xs x = refl
map_cond f false xs x = map-append f xs (x ∷ [])

pub map_filter : {A B : Type 0} (f : A → B) (p : B → Bool) (xs : List A)
    → map f (filter (λ x. p (f x)) xs) ≡ filter p (map f xs)
map_filter f p [] = refl
map_filter f p (x ∷ xs) = step (p (f x)) (map_filter f p xs)
  where
    step : (t : Bool) → map f (filter (λ x. p (f x)) xs) ≡ filter p (map f xs) →
        map f (cond t (x ∷ filter (λ x. p (f x)) xs) (filter (λ x. p (f x)) xs))
        ≡ cond t (f x ∷ filter p (map f xs)) (filter p (map f xs))
    step true e = ap (λ l. f x ∷ l) e
    step false e = e

pub filter_same : {A : Type 0} (p q : A → Bool) (xs : List A) → AllByRecursion (λ x. p x ≡ q x) xs
    → filter p xs ≡ filter q xs
filter_same p q [] same = refl
filter_same p q (x ∷ xs) same =
    ap (λ t. cond t (x ∷ filter p xs) (filter p xs)) same.0 ∙ ap (λ l. cond (q x) (x ∷ l) l) (filter_same p q xs same.1)

pub filter_twice : {A : Type 0} (p q : A → Bool) (xs : List A) → filter (λ x. p x && q x) xs ≡ filter q (filter p xs)
filter_twice p q [] = refl
filter_twice p q (x ∷ xs) = step (p x) (filter_twice p q xs)
  where
    step : (t : Bool) → filter (λ x. p x && q x) xs ≡ filter q (filter p xs) →
        cond (t && q x) (x ∷ filter (λ x. p x && q x) xs) (filter (λ x. p x && q x) xs)
        ≡ filter q (cond t (x ∷ filter p xs) (filter p xs))
    step true e = ap (λ l. cond (q x) (x ∷ l) l) e
    step false e = e

and_flip : (s t : Bool) → s && t ≡ t && s
and_flip true t = sym (and_true t)
and_flip false t = sym (and_false t)

pub filter_flip : {A : Type 0} (p q : A → Bool) (xs : List A) → filter p (filter q xs) ≡ filter q (filter p xs)
filter_flip p q xs =
    sym (filter_twice q p xs) ∙ filter_agree (λ x. q x && p x) (λ x. p x && q x) (λ x. and_flip (q x) (p x)) xs
    ∙ filter_twice p q xs

-- ---- what an entry does to the live forks

live_step : (t : Bool) (n e : ℕ) → n ≤ e → (n == cond t (e + 1) e) ≡ (n == e) && not t
live_step true n e come = ne-test n (e + 1) (omega arith) ∙ sym (and_false (n == e))
live_step false n e come = sym (and_true (n == e))

pub live_at_tick : (idle : Option ℕ) (fields : List Field) (h : History)
    → live_forks idle fields (h ▸ Tick)
    ≡ filter (λ fork. not (ends_next idle fields fork.key h)) (live_forks idle fields h)
live_at_tick idle fields h =
    let stays = λ (fork : KeyFork). not (ends_next idle fields fork.key h) in
    let came = forks_that_came idle fields h in
    filter_same (is_live idle fields (h ▸ Tick)) (λ fork. is_live idle fields h fork && stays fork) came
    (all-weaker (HasCome idle fields h)
    (λ fork. is_live idle fields (h ▸ Tick) fork ≡ (is_live idle fields h fork && stays fork))
    (λ fork. live_step (ends_next idle fields fork.key h) fork.number (times_ended idle fields fork.key h)) came
    (forks_have_come idle fields h))
    ∙ filter_twice (is_live idle fields h) stays came

-- a live fork is among some forks exactly if it is among those of them that are live
kept_live : (live : KeyFork → Bool) (fork : KeyFork) (forks : List KeyFork) → live fork ≡ true →
    list_any (λ other. same_fork other fork) (filter live forks) ≡ list_any (λ other. same_fork other fork) forks
kept_live live fork forks e =
    any-filter_same (λ other. same_fork other fork) live true (λ other same. ap live (fork_is other fork same) ∙ e)
    forks

pub with_live : (live : KeyFork → Bool) (fork : KeyFork) (forks : List KeyFork) → live fork ≡ true
    → filter live (with_fork fork forks) ≡ with_fork fork (filter live forks)
with_live live fork forks e = step (list_any (λ other. same_fork other fork) forks) refl
  where
    step : (t : Bool) → list_any (λ other. same_fork other fork) forks ≡ t
        → filter live (cond t forks (forks ++ fork ∷ [])) ≡ with_fork fork (filter live forks)
    step true among =
        sym
        (ap (λ t. cond t (filter live forks) (filter live forks ++ fork ∷ [])) (kept_live live fork forks e ∙ among))
    step false among =
        filter-append live forks (fork ∷ [])
        ∙ ap (λ t. filter live forks ++ cond t (fork ∷ []) []) e
        ∙ sym
        (ap (λ t. cond t (filter live forks) (filter live forks ++ fork ∷ [])) (kept_live live fork forks e ∙ among))

pub live_at_event : (idle : Option ℕ) (fields : List Field) (h : History) (event : Event)
    → live_forks idle fields (h ▸ In (One event)) ≡ with_fork (fork_of idle fields event h) (live_forks idle fields h)
live_at_event idle fields h event =
    let times = times_ended idle fields (event_key event fields) h in
    with_live (is_live idle fields h) (fork_of idle fields event h) (forks_that_came idle fields h)
    (eq-eqb times times refl)

pub live_forks_follow : LiveForksFollowEntries
live_forks_follow idle fields = record {
  begin = λ start. refl;
  tick = live_at_tick idle fields;
  event = live_at_event idle fields;
  vector = λ h es. refl;
}

-- ---- so with their keys

pub live_forks_are_the_latest : LiveForksAreTheLatest
live_forks_are_the_latest idle fields h =
    all-weaker (λ (fork : KeyFork). is_live idle fields h fork ≡ true)
    (λ (fork : KeyFork). fork.number ≡ times_ended idle fields fork.key h)
    (λ fork e. eqb-true fork.number (times_ended idle fields fork.key h) e) (live_forks idle fields h)
    (recursion_from_All (λ (fork : KeyFork). is_live idle fields h fork ≡ true) (live_forks idle fields h)
    (filter_passes (is_live idle fields h) (forks_that_came idle fields h)))

-- forks whose numbers follow from their keys are told apart by these
module _ (number : List Value → ℕ) (fork : KeyFork) (own : fork.number ≡ number fork.key) where
  one_key : (other : KeyFork) → other.number ≡ number other.key → (t : Bool) → same_key other.key fork.key ≡ t
      → (other.number == fork.number && t) ≡ t
  one_key other is false e = and_false (other.number == fork.number)
  one_key other is true e =
      and_true (other.number == fork.number)
      ∙ eq-eqb other.number fork.number (is ∙ ap number (key_is other.key fork.key e) ∙ sym own)

  by_keys : (forks : List KeyFork) → AllByRecursion (λ other. other.number ≡ number other.key) forks
      → list_any (λ other. same_fork other fork) forks ≡ is_among fork.key (map key_of_fork forks)
  by_keys [] all = refl
  by_keys (other ∷ forks) all =
      ap (λ t. t || list_any (λ other. same_fork other fork) forks)
      (one_key other all.0 (same_key other.key fork.key) refl)
      ∙ ap (λ t. same_key other.key fork.key || t) (by_keys forks all.1)

-- a key without a live fork has sent no event to the fork to which its next one goes
pub not_come : (idle : Option ℕ) (fields : List Field) (key : List Value) (h : History) →
    is_among key (live_keys idle fields h) ≡ false →
    list_any (λ other. same_fork other (fork_at idle fields key h)) (forks_that_came idle fields h) ≡ false
not_come idle fields key h e =
    let fork = fork_at idle fields key h in
    let times = times_ended idle fields key h in
    sym (kept_live (is_live idle fields h) fork (forks_that_came idle fields h) (eq-eqb times times refl))
    ∙ by_keys (λ k. times_ended idle fields k h) fork refl (live_forks idle fields h)
    (live_forks_are_the_latest idle fields h)
    ∙ e

pub keys_at_tick : (idle : Option ℕ) (fields : List Field) (h : History)
    → live_keys idle fields (h ▸ Tick) ≡ filter (λ key. not (ends_next idle fields key h)) (live_keys idle fields h)
keys_at_tick idle fields h =
    ap (map key_of_fork) (live_at_tick idle fields h)
    ∙ map_filter key_of_fork (λ key. not (ends_next idle fields key h)) (live_forks idle fields h)

pub keys_at_event : (idle : Option ℕ) (fields : List Field) (h : History) (event : Event)
    → live_keys idle fields (h ▸ In (One event)) ≡ with_key (event_key event fields) (live_keys idle fields h)
keys_at_event idle fields h event =
    let fork = fork_of idle fields event h in
    let forks = live_forks idle fields h in
    ap (map key_of_fork) (live_at_event idle fields h event)
    ∙ map_cond key_of_fork (list_any (λ other. same_fork other fork) forks) forks fork
    ∙ ap (λ t. cond t (map key_of_fork forks) (map key_of_fork forks ++ fork.key ∷ []))
    (by_keys (λ key. times_ended idle fields key h) fork refl forks (live_forks_are_the_latest idle fields h))

pub live_keys_follow : LiveKeysFollowEntries
live_keys_follow idle fields = record {
  begin = λ start. refl;
  tick = keys_at_tick idle fields;
  event = keys_at_event idle fields;
  vector = λ h es. refl;
}

-- ---- keys are apart

distinct-filter : (p : List Value → Bool) (keys : List (List Value)) → IsDistinct same_key keys
    → IsDistinct same_key (filter p keys)
unfolding IsDistinct
distinct-filter p [] apart = tt
distinct-filter p (first ∷ keys) apart =
    step (p first) (all-filter (λ other. same_key first other ≡ false) p keys apart.0) (distinct-filter p keys apart.1)
  where
    step : (t : Bool) → AllByRecursion (λ other. same_key first other ≡ false) (filter p keys)
        → IsDistinct same_key (filter p keys) → IsDistinct same_key (cond t (first ∷ filter p keys) (filter p keys))
    step true all rest = (all, rest)
    step false all rest = rest

no_keys-apart : IsDistinct same_key []
unfolding IsDistinct
no_keys-apart = tt

pub live_keys_are_apart : LiveKeysAreApart
live_keys_are_apart idle fields (since start) = no_keys-apart
live_keys_are_apart idle fields (h ▸ Tick) =
    subst (IsDistinct same_key) (sym (keys_at_tick idle fields h))
    (distinct-filter (λ key. not (ends_next idle fields key h)) (live_keys idle fields h)
    (live_keys_are_apart idle fields h))
live_keys_are_apart idle fields (h ▸ In (One event)) =
    let key = event_key event fields in
    let keys = live_keys idle fields h in
    subst (IsDistinct same_key) (sym (keys_at_event idle fields h event))
    (distinct_step (is_among key keys) keys key refl (live_keys_are_apart idle fields h))
live_keys_are_apart idle fields (h ▸ In (Many es)) = live_keys_are_apart idle fields h

-- ---- keys are recent

-- a last event less than so many seconds ago
abbrev pub is_recent : ℕ → Option ℕ → ℕ → Bool
is_recent secs None now = false
is_recent secs (Some last) now = nat_lt now (last + secs)

recent_at_tick : (secs : ℕ) (last : Option ℕ) (now : ℕ)
    → (not (is_at (now + 1) (idle_after (Some secs) last)) && is_recent secs last now) ≡ is_recent secs last (now + 1)
recent_at_tick secs None now = refl
recent_at_tick secs (Some last) now = ahead (last + secs)
  where
    ahead : (end : ℕ) → (not (now + 1 == end) && nat_lt now end) ≡ nat_lt (now + 1) end
    ahead end = grind (arith, nat_tests)

recent_at_event : (secs now : ℕ) (t : Bool) (last : Option ℕ) → 0 < secs
    → (t || is_recent secs last now) ≡ is_recent secs (cond t (Some now) last) now
recent_at_event secs now true last pos = grind (arith, nat_tests)
recent_at_event secs now false last pos = refl

or_false : (t : Bool) → t || false ≡ t
or_false true = refl
or_false false = refl

or_true : (t : Bool) → t || true ≡ true
or_true true = refl
or_true false = refl

or_flip : (s t : Bool) → s || t ≡ t || s
or_flip true t = sym (or_true t)
or_flip false t = sym (or_false t)

-- of keys among which the new one is already (t) or not
among_step : (t : Bool) (key new : List Value) (keys : List (List Value)) → is_among new keys ≡ t
    → is_among key (cond t keys (keys ++ new ∷ [])) ≡ same_key new key || is_among key keys
among_step false key new keys e =
    list_any-append (λ other. same_key other key) keys (new ∷ [])
    ∙ ap (λ t. is_among key keys || t) (or_false (same_key new key)) ∙ or_flip (is_among key keys) (same_key new key)
among_step true key new keys e = step (same_key new key) refl
  where
    step : (t : Bool) → same_key new key ≡ t → is_among key keys ≡ t || is_among key keys
    step false f = refl
    step true f = sym (ap (λ k. is_among k keys) (key_is new key f)) ∙ e

pub live_is_recent : (secs : ℕ) (fields : List Field) (key : List Value) (h : History) → 0 < secs →
    is_among key (live_keys (Some secs) fields h) ≡ is_recent secs (last_moment fields key h) (moment_of h)
live_is_recent secs fields key (since start) pos = refl
live_is_recent secs fields key (h ▸ Tick) pos =
    let stays = λ (other : List Value). not (ends_next (Some secs) fields other h) in
    ap (is_among key) (keys_at_tick (Some secs) fields h)
    ∙ any-filter_same (λ other. same_key other key) stays (stays key) (λ other same. ap stays (key_is other key same))
    (live_keys (Some secs) fields h)
    ∙ ap (λ t. stays key && t) (live_is_recent secs fields key h pos)
    ∙ recent_at_tick secs (last_moment fields key h) (moment_of h)
live_is_recent secs fields key (h ▸ In (One event)) pos =
    let new = event_key event fields in
    let keys = live_keys (Some secs) fields h in
    ap (is_among key) (keys_at_event (Some secs) fields h event)
    ∙ among_step (is_among new keys) key new keys refl
    ∙ ap (λ t. same_key new key || t) (live_is_recent secs fields key h pos)
    ∙ recent_at_event secs (moment_of h) (same_key new key) (last_moment fields key h) pos
live_is_recent secs fields key (h ▸ In (Many es)) pos = live_is_recent secs fields key h pos

is_among-contained : (key : List Value) (keys : List (List Value)) → Contains keys key → is_among key keys ≡ true
is_among-contained key keys there =
    list_any_at (λ other. same_key other key) keys there.0 key there.1 (key_same _ key there.2)

pub live_keys_are_recent : LiveKeysAreRecent
live_keys_are_recent secs fields key h pos =
    let keys = live_keys (Some secs) fields h in
    let now = moment_of h in
    let same = live_is_recent secs fields key h pos in (
      λ there. came (last_moment fields key h) refl (sym same ∙ is_among-contained key keys there),
      λ c. among_is key keys
          (same ∙ ap (λ (last : Option ℕ). is_recent secs last now) c.is ∙ less now (c.last + secs) c.age),
    )
  where
    below : (a b : ℕ) → nat_lt a b ≡ true → a < b
    below a b e = grind (arith, nat_tests)

    less : (a b : ℕ) → a < b → nat_lt a b ≡ true
    less a b e = grind (arith, nat_tests)

    came : (last : Option ℕ) → last_moment fields key h ≡ last → is_recent secs last (moment_of h) ≡ true
        → CameWithin secs fields key h
    came None is e = absurd (true≢false (sym e))
    came (Some last) is e = record { last = last; is = is; age = below (moment_of h) (last + secs) e }

-- ---- without `idle`

pub never_ended : (fields : List Field) (key : List Value) (h : History) → times_ended None fields key h ≡ 0
never_ended fields key (since start) = refl
never_ended fields key (h ▸ Tick) = never_ended fields key h
never_ended fields key (h ▸ In item) = never_ended fields key h

pub first_among : (key : List Value) (keys : List (List Value))
    → list_any (λ other. same_fork other (first_fork key)) (map first_fork keys) ≡ is_among key keys
first_among key [] = refl
first_among key (other ∷ keys) = ap (λ t. same_key other key || t) (first_among key keys)

pub came_first : (fields : List Field) (h : History)
    → forks_that_came None fields h ≡ map first_fork (fork_keys fields h)
came_first fields (since start) = refl
came_first fields (h ▸ Tick) = came_first fields h
came_first fields (h ▸ In (One event)) =
    let key = event_key event fields in
    let keys = fork_keys fields h in
    ap (λ (number : ℕ). with_fork (the_fork key number) (forks_that_came None fields h)) (never_ended fields key h)
    ∙ ap (with_fork (first_fork key)) (came_first fields h)
    ∙ ap (λ t. cond t (map first_fork keys) (map first_fork keys ++ first_fork key ∷ [])) (first_among key keys)
    ∙ sym (map_cond first_fork (is_among key keys) keys key)
came_first fields (h ▸ In (Many es)) = came_first fields h

all_pass : (p : KeyFork → Bool) (keys : List (List Value)) → ((key : List Value) → p (first_fork key) ≡ true)
    → filter p (map first_fork keys) ≡ map first_fork keys
all_pass p [] f = refl
all_pass p (key ∷ keys) f =
    ap (λ t. cond t (first_fork key ∷ filter p (map first_fork keys)) (filter p (map first_fork keys))) (f key)
    ∙ ap (λ l. first_fork key ∷ l) (all_pass p keys f)

pub live_first : (fields : List Field) (h : History) → live_forks None fields h ≡ map first_fork (fork_keys fields h)
live_first fields h =
    ap (filter (is_live None fields h)) (came_first fields h)
    ∙ all_pass (is_live None fields h) (fork_keys fields h) (λ key. ap (λ (n : ℕ). 0 == n) (never_ended fields key h))

keys_of_first : (keys : List (List Value)) → map key_of_fork (map first_fork keys) ≡ keys
keys_of_first [] = refl
keys_of_first (key ∷ keys) = ap (λ l. key ∷ l) (keys_of_first keys)

events_of_first : (fields : List Field) (key : List Value) (h : History)
    → of_fork None fields (first_fork key) h ≡ of_key fields key h
events_of_first fields key (since start) = refl
events_of_first fields key (h ▸ Tick) = ap (λ g. g ▸ Tick) (events_of_first fields key h)
events_of_first fields key (h ▸ In (One event)) =
    let new = event_key event fields in
    ap
    (λ (n : ℕ). cond (n == 0 && same_key new key) (of_fork None fields (first_fork key) h ▸ In (One event))
    (of_fork None fields (first_fork key) h))
    (never_ended fields new h)
    ∙ ap (λ g. cond (same_key new key) (g ▸ In (One event)) g) (events_of_first fields key h)
events_of_first fields key (h ▸ In (Many es)) = events_of_first fields key h

pub nothing_ends_without_idle : NothingEndsWithoutIdle
nothing_ends_without_idle fields h = record {
  ends = λ key. refl;
  times = λ key. never_ended fields key h;
  forks = live_first fields h;
  keys = ap (map key_of_fork) (live_first fields h) ∙ keys_of_first (fork_keys fields h);
  events = λ key. events_of_first fields key h;
}
