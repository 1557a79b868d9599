-- The last event of each host and service: one event more, and the next boundary.
use Rattle.std.proofs.Common.{◌≡◌, ℕ, ◌+◌, ◌-◌, ◌*◌, ◌%◌, ◌<◌, ◌≤◌, ◌==◌, Bool, true, false, not, ◌&&◌, ◌||◌, cond}
use Rattle.std.proofs.Common.{List, [], ◌∷◌, ◌++◌, length, map, filter, nat_le, Some, None, refl, sym, ap, ◌∙◌, arith}
use mathlib.Core.Bool.{true≢false}
use Rattle.std.specs.List.{list_any}
use Rattle.std.proofs.Math.Nat.{mod-lt}
use Rattle.std.proofs.lemmas.Int.{ints}
use Rattle.std.proofs.lemmas.Nat.{div-add-mod'}
use Rattle.std.proofs.lemmas.Bool.Decides.{nat_tests}
use Rattle.ev_types.specs.declared.event.Event.{Event}
use Rattle.ev_types.specs.declared.item.Item.TheVariants.{One}
use Rattle.ev_types.specs.Expiry.{ends_key, is_late, is_expired}
use Rattle.index_log.specs.IndexKey.{same_index_key}
use Rattle.index_log.specs.Live.{placed, placed_onto, elsewhere}
use Rattle.index_log.proofs.IndexKeys.{filter-placed_onto}
use Rattle.stream_meaning.specs.Came.{Timed, timed_events, vector}
use Rattle.stream_meaning.specs.Coalesce.{replaces, newest, still_passes, event_of, coalesced, coalesce_items}
use Rattle.stream_meaning.specs.Deadlines.{next_window, next_deadline, is_there, some_if}
use Rattle.stream_meaning.specs.Emitted.{emitted}
use Rattle.stream_meaning.specs.declared.entry.Entry.TheVariants.{Tick, Item as In}
use Rattle.stream_meaning.specs.History.{History, since, ◌▸◌, begun, moment_of, window_of, TicksAlone}
use Rattle.ev_types.specs.declared.item.Item.TheVariants.{Many}
use Rattle.stream_meaning.proofs.MomentLaws.{begun-≤}
use Rattle.stream_meaning.proofs.TickLaws.{timed-ticks}
use Rattle.stream_meaning.proofs.WindowLaws.{turns_at, next_at}
use Rattle.stream_plan.specs.Tree.{Coalesce}
use Rattle.window_streams.specs.Coalesce.{CoalesceRepresents}
use Rattle.window_streams.specs.declared.coalesce.CoalesceState.{CoalesceState}
use Rattle.window_streams.proofs.EventLaws.{map-more, filter-more}

-- ---- one event more

or-false : (t : Bool) → (t || false) ≡ t
or-false true = refl
or-false false = refl

any-more : (p : Timed → Bool) (xs : List Timed) (x : Timed) → list_any p (xs ++ x ∷ []) ≡ (list_any p xs || p x)
any-more p [] x = or-false (p x)
any-more p (y ∷ xs) x = by_test (p y) (any-more p xs x)
  where
    by_test : (t : Bool) → list_any p (xs ++ x ∷ []) ≡ (list_any p xs || p x)
        → (t || list_any p (xs ++ x ∷ [])) ≡ ((t || list_any p xs) || p x)
    by_test true e = refl
    by_test false e = e

abbrev stays : Timed → Timed → Bool
stays last older = not (replaces older last)

newest-more : (came : List Timed) (last : Timed)
    → newest (came ++ last ∷ []) ≡ filter (stays last) (newest came) ++ last ∷ []
newest-more [] last = refl
newest-more (older ∷ came) last =
    by_tests (list_any (replaces older) came) (replaces older last) (any-more (replaces older) came last) refl refl
    (newest-more came last)
  where
    by_tests : (a b : Bool) →
        list_any (replaces older) (came ++ last ∷ []) ≡ (list_any (replaces older) came || replaces older last) →
        list_any (replaces older) came ≡ a → replaces older last ≡ b →
        newest (came ++ last ∷ []) ≡ filter (stays last) (newest came) ++ last ∷ [] →
        cond (list_any (replaces older) (came ++ last ∷ [])) (newest (came ++ last ∷ []))
        (older ∷ newest (came ++ last ∷ []))
        ≡ filter (stays last) (cond a (newest came) (older ∷ newest came)) ++ last ∷ []
    by_tests true b e f g ih =
        ap (λ t. cond t (newest (came ++ last ∷ [])) (older ∷ newest (came ++ last ∷ [])))
        (e ∙ ap (λ a. a || replaces older last) f)
        ∙ ih
    by_tests false true e f g ih =
        ap (λ t. cond t (newest (came ++ last ∷ [])) (older ∷ newest (came ++ last ∷ [])))
        (e ∙ ap (λ a. a || replaces older last) f ∙ g)
        ∙ ih
        ∙ sym (ap
        (λ t. cond (not t) (older ∷ filter (stays last) (newest came)) (filter (stays last) (newest came)) ++ last ∷ [])
        g)
    by_tests false false e f g ih =
        ap (λ t. cond t (newest (came ++ last ∷ [])) (older ∷ newest (came ++ last ∷ [])))
        (e ∙ ap (λ a. a || replaces older last) f ∙ g)
        ∙ ap (λ rest. older ∷ rest) ih
        ∙ sym (ap
        (λ t. cond (not t) (older ∷ filter (stays last) (newest came)) (filter (stays last) (newest came)) ++ last ∷ [])
        g)

filter-turned : (p q : Timed → Bool) (xs : List Timed) → filter p (filter q xs) ≡ filter q (filter p xs)
filter-turned p q [] = refl
filter-turned p q (x ∷ xs) = by_tests (p x) (q x) refl refl (filter-turned p q xs)
  where
    by_tests : (t u : Bool) → p x ≡ t → q x ≡ u → filter p (filter q xs) ≡ filter q (filter p xs)
        → filter p (cond u (x ∷ filter q xs) (filter q xs)) ≡ filter q (cond t (x ∷ filter p xs) (filter p xs))
    by_tests true true e f ih =
        ap (λ t. cond t (x ∷ filter p (filter q xs)) (filter p (filter q xs))) e ∙ ap (λ rest. x ∷ rest) ih
        ∙ sym (ap (λ u. cond u (x ∷ filter q (filter p xs)) (filter q (filter p xs))) f)
    by_tests true false e f ih = ih ∙ sym (ap (λ u. cond u (x ∷ filter q (filter p xs)) (filter q (filter p xs))) f)
    by_tests false true e f ih = ap (λ t. cond t (x ∷ filter p (filter q xs)) (filter p (filter q xs))) e ∙ ih
    by_tests false false e f ih = ih

map-filter : (q : Event → Bool) (ts : List Timed)
    → map event_of (filter (λ timed. q timed.event) ts) ≡ filter q (map event_of ts)
map-filter q [] = refl
map-filter q (timed ∷ ts) = by_test (q timed.event) (map-filter q ts)
  where
    by_test : (t : Bool) → map event_of (filter (λ timed. q timed.event) ts) ≡ filter q (map event_of ts) →
        map event_of (cond t (timed ∷ filter (λ timed. q timed.event) ts) (filter (λ timed. q timed.event) ts))
        ≡ cond t (timed.event ∷ filter q (map event_of ts)) (filter q (map event_of ts))
    by_test true e = ap (λ rest. timed.event ∷ rest) e
    by_test false e = e

placed_onto-more : (sorted es : List Event) (event : Event)
    → placed_onto sorted (es ++ event ∷ []) ≡ placed event (placed_onto sorted es)
placed_onto-more sorted [] event = refl
placed_onto-more sorted (first ∷ es) event = placed_onto-more (placed first sorted) es event

-- what a test of the events leaves, in key order
ordered-filter : (q : Event → Bool) (ts : List Timed)
    → placed_onto [] (map event_of (filter (λ timed. q timed.event) ts)) ≡ filter q (placed_onto [] (map event_of ts))
ordered-filter q ts = ap (placed_onto []) (map-filter q ts) ∙ sym (filter-placed_onto q [] (map event_of ts) tt)

coalesced-more : (secs t : ℕ) (came : List Timed) (last : Timed) → still_passes secs t last ≡ true
    → coalesced secs t (came ++ last ∷ []) ≡ placed last.event (elsewhere last.event (coalesced secs t came))
coalesced-more secs t came last passes =
    let kept = filter (stays last) (newest came) in
    ap (λ ts. placed_onto [] (map event_of (filter (still_passes secs t) ts))) (newest-more came last)
    ∙ ap (λ ts. placed_onto [] (map event_of ts))
    (filter-more (still_passes secs t) kept last
    ∙ ap (λ u. filter (still_passes secs t) kept ++ cond u (last ∷ []) []) passes)
    ∙ ap (placed_onto []) (map-more event_of (filter (still_passes secs t) kept) last)
    ∙ placed_onto-more [] (map event_of (filter (still_passes secs t) kept)) last.event
    ∙ ap (placed last.event)
    (ap (λ ts. placed_onto [] (map event_of ts)) (filter-turned (still_passes secs t) (stays last) (newest came))
    ∙ ordered-filter (λ other. not (same_index_key other last.event)) (filter (still_passes secs t) (newest came)))

-- ---- the next boundary

abbrev AllCameBefore : ℕ → List Timed → Type 0
AllCameBefore t [] = Unit {0}
AllCameBefore t (timed ∷ ts) = (timed.at < t) × AllCameBefore t ts

came-more : (t : ℕ) (ts : List Timed) (timed : Timed) → AllCameBefore t ts → timed.at < t
    → AllCameBefore t (ts ++ timed ∷ [])
came-more t [] timed all h = (h, tt)
came-more t (first ∷ ts) timed all h = (all.0, came-more t ts timed all.1 h)

came-before : (t : ℕ) (h : History) → moment_of h < t → AllCameBefore t (timed_events h)
came-before t (since start) less = tt
came-before t (h ▸ Tick) less = came-before t h (omega arith)
came-before t (h ▸ In (One event)) less =
    came-more t (timed_events h) (record { event = event; at = moment_of h }) (came-before t h less) less
came-before t (h ▸ In (Many es)) less = came-before t h less

newest-before : (t : ℕ) (ts : List Timed) → AllCameBefore t ts → AllCameBefore t (newest ts)
newest-before t [] all = tt
newest-before t (older ∷ later) all = by_test (list_any (replaces older) later) (newest-before t later all.1)
  where
    by_test : (u : Bool) → AllCameBefore t (newest later)
        → AllCameBefore t (cond u (newest later) (older ∷ newest later))
    by_test true k = k
    by_test false k = (all.0, k)

late-later : (event : Event) (t secs : ℕ) → is_late t event ≡ true → is_late (t + secs) event ≡ true
late-later event t secs h = grind (arith, ints)

expired-later : (event : Event) (t secs : ℕ) → is_expired t event ≡ true → is_expired (t + secs) event ≡ true
expired-later event t secs = by_test (ends_key event)
  where
    by_test : (u : Bool) → (u || is_late t event) ≡ true → (u || is_late (t + secs) event) ≡ true
    by_test true h = refl
    by_test false h = late-later event t secs h

and-false : (t : Bool) → (t && false) ≡ false
and-false true = refl
and-false false = refl

passes_by : (a b c d f : Bool) → (b ≡ true → a ≡ true) → d ≡ false
    → (not a || not b || d) ≡ ((not b || not c || f) && not b)
passes_by true true c d f m e = e ∙ sym (and-false (not c || f))
passes_by false true c d f m e = absurd (true≢false (sym (m refl)))
passes_by true false c d f m e = refl
passes_by false false c d f m e = refl

passes_next : (secs t : ℕ) (timed : Timed) → timed.at < t
    → still_passes secs (t + secs) timed ≡ (still_passes secs t timed && not (is_expired t timed.event))
passes_next secs t timed before =
    let back : t + secs - secs ≡ t = omega arith in
    let none : nat_le t timed.at ≡ false = grind (arith, nat_tests) in
    ap (λ u. not (is_expired (t + secs) timed.event) || not (is_expired u timed.event) || nat_le u timed.at) back
    ∙ passes_by (is_expired (t + secs) timed.event) (is_expired t timed.event) (is_expired (t - secs) timed.event)
    (nat_le t timed.at) (nat_le (t - secs) timed.at) (expired-later timed.event t secs) none

filter_next : (secs t : ℕ) (ts : List Timed) → AllCameBefore t ts
    → filter (still_passes secs (t + secs)) ts
    ≡ filter (λ timed. not (is_expired t timed.event)) (filter (still_passes secs t) ts)
filter_next secs t [] all = refl
filter_next secs t (timed ∷ ts) all =
    ap (λ u. cond u (timed ∷ filter (still_passes secs (t + secs)) ts) (filter (still_passes secs (t + secs)) ts))
    (passes_next secs t timed all.0)
    ∙ by_test (still_passes secs t timed) (filter_next secs t ts all.1)
  where
    by_test : (u : Bool) →
        filter (still_passes secs (t + secs)) ts
        ≡ filter (λ timed. not (is_expired t timed.event)) (filter (still_passes secs t) ts) →
        cond (u && not (is_expired t timed.event)) (timed ∷ filter (still_passes secs (t + secs)) ts)
        (filter (still_passes secs (t + secs)) ts)
        ≡ filter (λ timed. not (is_expired t timed.event))
        (cond u (timed ∷ filter (still_passes secs t) ts) (filter (still_passes secs t) ts))
    by_test true e = ap (λ rest. cond (not (is_expired t timed.event)) (timed ∷ rest) rest) e
    by_test false e = e

coalesced-next : (secs t : ℕ) (came : List Timed) → AllCameBefore t came
    → coalesced secs (t + secs) came ≡ filter (λ event. not (is_expired t event)) (coalesced secs t came)
coalesced-next secs t came all =
    ap (λ ts. placed_onto [] (map event_of ts)) (filter_next secs t (newest came) (newest-before t came all))
    ∙ ordered-filter (λ event. not (is_expired t event)) (filter (still_passes secs t) (newest came))

-- ---- where the boundaries are

boundary-after : (secs : ℕ) (h : History) → 0 < secs
    → (begun h + window_of secs h * secs ≤ moment_of h) × (moment_of h < begun h + window_of secs h * secs + secs)
boundary-after secs h positive =
    let after = begun-≤ h in
    let parts = div-add-mod' (moment_of h - begun h) secs in
    let rest : (moment_of h - begun h) % secs < secs = mod-lt (moment_of h - begun h) positive in
    (omega arith, omega arith)

next_is : (secs : ℕ) (h : History) → next_window secs h ≡ begun h + window_of secs h * secs + secs
next_is secs h = omega arith

next-tick : (secs : ℕ) (h : History) → 0 < secs
    → next_window secs (h ▸ Tick)
    ≡ cond (moment_of h + 1 == next_window secs h) (next_window secs h + secs) (next_window secs h)
next-tick secs h positive =
    ap (λ w. begun h + (w + 1) * secs) (next_at secs h positive)
    ∙ by_test (moment_of h + 1 == next_window secs h) (window_of secs h)
  where
    by_test : (t : Bool) (w : ℕ)
        → begun h + (cond t (w + 1) w + 1) * secs ≡ cond t (begun h + (w + 1) * secs + secs) (begun h + (w + 1) * secs)
    by_test true w = omega arith
    by_test false w = refl

-- ---- the state

last-true : (a b c : Bool) → c ≡ true → (not a || not b || c) ≡ true
last-true true true c e = e
last-true true false c e = refl
last-true false b c e = refl

pub coalesce-item : (old new : CoalesceState) (event : Event) (h : History) → CoalesceRepresents old h → 0 < old.secs →
    new.secs ≡ old.secs → new.start ≡ old.start → new.poisoned ≡ false →
    new.last ≡ placed event (elsewhere event old.last) → new.boundary ≡ next_window old.secs h →
    CoalesceRepresents new (h ▸ In (One event))
coalesce-item old new event h represents positive secs start sound last boundary =
    let t = next_window old.secs h in
    let came : Timed = record { event = event; at = moment_of h } in
    let around = boundary-after old.secs h positive in
    let next = next_is old.secs h in
    let low : next_window old.secs h - old.secs ≤ moment_of h = omega (arith, around.0, next) in
    let test : nat_le (next_window old.secs h - old.secs) (moment_of h) ≡ true = grind (arith, nat_tests) in
    record {
      sound = sound;
      start = start ∙ represents.start;
      last = last ∙ ap (λ es. placed event (elsewhere event es)) represents.last
          ∙ sym (coalesced-more old.secs t (timed_events h) came
          (last-true (is_expired t event) (is_expired (t - old.secs) event) (nat_le (t - old.secs) (moment_of h)) test))
          ∙ ap (λ n. coalesced n (next_window n h) (timed_events h ++ came ∷ [])) (sym secs);
      boundary = λ some. boundary ∙ ap (λ n. next_window n h) (sym secs);
    }

none_of : (es : List Event) → (0 < length es → ⊥) → es ≡ []
none_of [] h = refl
none_of (event ∷ es) h = absurd (h (omega arith))

nothing_of : (es : List Event) → 0 < length es → emitted (vector es) ≡ [] → ⊥
nothing_of [] h e = omega arith
nothing_of (event ∷ es) h e = cc

items_at : (state : CoalesceState) (h : History) → 0 < state.secs
    → coalesce_items state.secs (h ▸ Tick)
    ≡ cond (moment_of h + 1 == next_window state.secs h)
    (vector (coalesced state.secs (moment_of h + 1) (timed_events h))) []
items_at state h positive =
    ap (λ t. cond t (vector (coalesced state.secs (moment_of h + 1) (timed_events h))) [])
    (turns_at state.secs h positive)

-- no event is kept, or the next second does not end at the boundary
pub coalesce-waits : (state : CoalesceState) (h : History) → CoalesceRepresents state h → 0 < state.secs →
    (0 < length state.last → moment_of h + 1 ≡ state.boundary → ⊥) →
    (coalesce_items state.secs (h ▸ Tick) ≡ []) × CoalesceRepresents state (h ▸ Tick)
coalesce-waits state h represents positive nothing = by_test (moment_of h + 1 == next_window state.secs h) refl
  where
    by_test : (t : Bool) → (moment_of h + 1 == next_window state.secs h) ≡ t
        → (coalesce_items state.secs (h ▸ Tick) ≡ []) × CoalesceRepresents state (h ▸ Tick)
    by_test true e =
        let at : moment_of h + 1 ≡ next_window state.secs h = grind (arith, nat_tests) in
        let none : state.last ≡ [] = none_of state.last (λ some. nothing some (at ∙ sym (represents.boundary some))) in
        let empty : coalesced state.secs (next_window state.secs h) (timed_events h) ≡ [] =
        sym represents.last ∙ none in
        let next =
        next-tick state.secs h positive
        ∙ ap (λ t. cond t (next_window state.secs h + state.secs) (next_window state.secs h)) e in (
          items_at state h positive
              ∙ ap (λ t. cond t (vector (coalesced state.secs (moment_of h + 1) (timed_events h))) []) e
              ∙ ap (λ t. vector (coalesced state.secs t (timed_events h))) at ∙ ap vector empty,
          record {
            sound = represents.sound;
            start = represents.start;
            last = none ∙ sym (ap (λ t. coalesced state.secs t (timed_events h)) next
                ∙ coalesced-next state.secs (next_window state.secs h) (timed_events h)
                (came-before (next_window state.secs h) h (omega arith))
                ∙ ap (λ es. filter (λ event. not (is_expired (next_window state.secs h) event)) es) empty);
            boundary =
                λ some. absurd (let size : length state.last ≡ 0 = ap length none in let no : ⊥ = omega arith in no);
          },
        )
    by_test false e =
        let next =
        next-tick state.secs h positive
        ∙ ap (λ t. cond t (next_window state.secs h + state.secs) (next_window state.secs h)) e in (
          items_at state h positive
              ∙ ap (λ t. cond t (vector (coalesced state.secs (moment_of h + 1) (timed_events h))) []) e,
          record {
            sound = represents.sound;
            start = represents.start;
            last = represents.last ∙ ap (λ t. coalesced state.secs t (timed_events h)) (sym next);
            boundary = λ some. represents.boundary some ∙ sym next;
          },
        )

pub coalesce-emits : (state : CoalesceState) (h : History) → CoalesceRepresents state h → 0 < state.secs →
    0 < length state.last → moment_of h + 1 ≡ state.boundary →
    coalesce_items state.secs (h ▸ Tick) ≡ vector state.last
coalesce-emits state h represents positive some now =
    let at : moment_of h + 1 ≡ next_window state.secs h = now ∙ represents.boundary some in
    let test : (moment_of h + 1 == next_window state.secs h) ≡ true = grind (arith, nat_tests) in
    items_at state h positive
    ∙ ap (λ t. cond t (vector (coalesced state.secs (moment_of h + 1) (timed_events h))) []) test
    ∙ ap (λ t. vector (coalesced state.secs t (timed_events h))) at ∙ ap vector (sym represents.last)

pub coalesce-quiet : (state : CoalesceState) (h : History) → CoalesceRepresents state h → 0 < state.secs →
    emitted (coalesce_items state.secs (h ▸ Tick)) ≡ [] →
    0 < length state.last → moment_of h + 1 ≡ state.boundary → ⊥
coalesce-quiet state h represents positive quiet some now =
    nothing_of state.last some (ap emitted (sym (coalesce-emits state h represents positive some now)) ∙ quiet)

pub coalesce-passed : (old new : CoalesceState) (h : History) → CoalesceRepresents old h → 0 < old.secs →
    0 < length old.last → moment_of h + 1 ≡ old.boundary →
    new.secs ≡ old.secs → new.start ≡ old.start → new.poisoned ≡ false →
    new.last ≡ filter (λ event. not (is_expired (moment_of h + 1) event)) old.last →
    new.boundary ≡ moment_of h + 1 + old.secs →
    CoalesceRepresents new (h ▸ Tick)
coalesce-passed old new h represents positive some now secs start sound last boundary =
    let t = next_window old.secs h in
    let at : moment_of h + 1 ≡ next_window old.secs h = now ∙ represents.boundary some in
    let test : (moment_of h + 1 == next_window old.secs h) ≡ true = grind (arith, nat_tests) in
    let next =
    next-tick old.secs h positive
    ∙ ap (λ t. cond t (next_window old.secs h + old.secs) (next_window old.secs h)) test in
    record {
      sound = sound;
      start = start ∙ represents.start;
      last =
          last ∙ ap (λ m. filter (λ event. not (is_expired m event)) old.last) at
          ∙ ap (filter (λ event. not (is_expired t event))) represents.last
          ∙ sym (ap (λ t. coalesced old.secs t (timed_events h)) next
          ∙ coalesced-next old.secs t (timed_events h) (came-before t h (omega arith)))
          ∙ ap (λ n. coalesced n (next_window n (h ▸ Tick)) (timed_events h)) (sym secs);
      boundary =
          λ more. boundary ∙ ap (λ m. m + old.secs) at ∙ sym next ∙ ap (λ n. next_window n (h ▸ Tick)) (sym secs);
    }

pub due-none : (state : CoalesceState) (h : History) → CoalesceRepresents state h → length state.last ≡ 0
    → None ≡ next_deadline (Coalesce state.secs) h
due-none state h represents none =
    let empty = none_of state.last (λ some. omega arith) in
    sym (ap (λ es. some_if (is_there es) (next_window state.secs h)) (sym represents.last ∙ empty))

there : (es : List Event) → 0 < length es → is_there es ≡ true
there [] h = absurd (let no : ⊥ = omega arith in no)
there (event ∷ es) h = refl

pub due-some : (state : CoalesceState) (h : History) → CoalesceRepresents state h → 0 < length state.last
    → Some state.boundary ≡ next_deadline (Coalesce state.secs) h
due-some state h represents some =
    ap Some (represents.boundary some)
    ∙ sym (ap (λ es. some_if (is_there es) (next_window state.secs h)) (sym represents.last)
    ∙ ap (λ t. some_if t (next_window state.secs h)) (there state.last some))

pub coalesce-fresh : (state : CoalesceState) (h : History) → TicksAlone h → state.poisoned ≡ false
    → begun h ≡ state.start → state.last ≡ [] → CoalesceRepresents state h
coalesce-fresh state h alone sound start last = record {
  sound = sound;
  start = sym start;
  last = last ∙ sym (ap (coalesced state.secs (next_window state.secs h)) (timed-ticks h alone));
  boundary = λ some. absurd (let size : length state.last ≡ 0 = ap length last in let no : ⊥ = omega arith in no);
}
