-- A tick at which a stream passes nothing on leaves its deadline, which is therefore the first at which it does.
use Rattle.std.proofs.Common.{◌≡◌, ℕ, zero, suc, ◌+◌, ◌-◌, ◌*◌, ◌%◌, ◌<◌, ◌≤◌, ◌==◌, ℤ, pos, ◌-ℤ◌, Bool, true, false}
use Rattle.std.proofs.Common.{not, ◌&&◌, ◌||◌, cond, List, [], ◌∷◌, ◌++◌, map, length, nat_lt, nat_le, refl, sym, ap}
use Rattle.std.proofs.Common.{subst, ◌∙◌, add-one, arith}
use mathlib.Core.Bool.{true≢false}
use Rattle.std.specs.Prelude.{IfSome, int_lt, unwrap_or, filter}
use Rattle.std.specs.List.{list_any}
use Rattle.std.proofs.Math.Nat.{mod-lt, zero-mod}
use Rattle.std.proofs.lemmas.Nat.{div-add-mod'}
use Rattle.std.proofs.lemmas.Int.{ints}
use Rattle.std.proofs.lemmas.Bool.Decides.{nat_tests}
use Rattle.std.proofs.lemmas.Bool.{eqb-true}
use Rattle.ev_types.specs.declared.event.Event.{Event}
use Rattle.ev_types.specs.declared.item.Item.TheVariants.{One, Many}
use Rattle.ev_types.specs.Expiry.{ends_key, is_late, is_expired}
use Rattle.index_log.specs.Live.{placed, placed_onto}
use Rattle.stream_plan.specs.Tree.{KindTree, Rollup, Batch, Stable, Coalesce}
use Rattle.stream_meaning.specs.History.{History, since, ◌▸◌, Tick, In, begun, moment_of, window_of, is_at}
use Rattle.stream_meaning.specs.Came.{Timed, events_in, timed_events}
use Rattle.stream_meaning.specs.Runs.{run, run_began}
use Rattle.stream_meaning.specs.Rates.{events_now, rolls_into, one_if}
use Rattle.stream_meaning.specs.Coalesce.{coalesced, newest, replaces, still_passes, event_of}
use Rattle.stream_meaning.specs.Deadlines.{some_if, is_there, next_window, next_deadline}
use Rattle.stream_meaning.specs.DeadlineLaws.{HasRange, emits, waited, IsStill, DeadlinesAreFirst}
use Rattle.stream_meaning.proofs.MomentLaws.{begun-≤}
use Rattle.stream_meaning.proofs.WindowLaws.{next_at, no_later_events, rolls_into-tick}
use Rattle.stream_meaning.proofs.MetLaws.{is_at-some_if, and_true, deadlines_met}

-- what depends on the window stays within it (u), and is false on both sides of its end
stays_in_window : (u c : Bool) (c' : ℕ → Bool) (w begin secs : ℕ) → c && u ≡ false → c' w ≡ c →
    (u ≡ true → c' (w + 1) ≡ false) →
    some_if (c' (cond u (w + 1) w)) (begin + (cond u (w + 1) w + 1) * secs) ≡ some_if c (begin + (w + 1) * secs)
stays_in_window false c c' w begin secs silent here next = ap (λ t. some_if t (begin + (w + 1) * secs)) here
stays_in_window true c c' w begin secs silent here next =
    ap (λ t. some_if t (begin + (w + 1 + 1) * secs)) (next refl)
    ∙ sym (ap (λ t. some_if t (begin + (w + 1) * secs)) (sym (and_true c) ∙ silent))

-- from the test at which it would emit
silent-both : (kind : KindTree) (h : History) (deadline : ℕ) (c : Bool) → HasRange kind
    → next_deadline kind h ≡ some_if c deadline → emits kind (h ▸ Tick) ≡ false
    → c && (moment_of h + 1 == deadline) ≡ false
silent-both kind h deadline c range e silent =
    sym (is_at-some_if (moment_of h + 1) deadline c) ∙ ap (is_at (moment_of h + 1)) (sym e)
    ∙ sym (deadlines_met kind h range) ∙ silent

no_roll : (n : ℕ) (came : List Event) (r : Bool) → came ≡ [] → r ≡ false → nat_lt n (length came + one_if r) ≡ false
no_roll n came r e f = ap (λ es. nat_lt n (length es + one_if r)) e ∙ ap (λ t. nat_lt n (0 + one_if t)) f ∙ below n
  where
    below : (n : ℕ) → nat_lt n 0 ≡ false
    below n = grind (arith, nat_tests)

stable_stays : (t : Bool) (now deadline : ℕ) (es : List Event) → (now + 1 == deadline) ≡ t →
    (is_there es && nat_lt now deadline) && t ≡ false →
    some_if (is_there es && nat_lt (now + 1) deadline) deadline ≡ some_if (is_there es && nat_lt now deadline) deadline
stable_stays t now deadline [] e silent = refl
stable_stays false now deadline (event ∷ es) e silent = ap (λ t. some_if t deadline) (same now deadline e)
  where
    same : (now deadline : ℕ) → (now + 1 == deadline) ≡ false → nat_lt (now + 1) deadline ≡ nat_lt now deadline
    same now deadline e = grind (arith, nat_tests)
stable_stays true now deadline (event ∷ es) e silent =
    let ahead : nat_lt now deadline ≡ true = grind (arith, nat_tests) in
    absurd (true≢false (sym ahead ∙ sym (and_true (nat_lt now deadline)) ∙ silent))

-- ---- what passes later passes now

late_later : (ttl : ℕ) (time : ℤ) (t secs : ℕ) → int_lt (pos ttl) (pos t -ℤ time) ≡ true
    → int_lt (pos ttl) (pos (t + secs) -ℤ time) ≡ true
late_later ttl time t secs e = grind (arith, ints)

or_late : (o l m : Bool) → (l ≡ true → m ≡ true) → o || l ≡ true → o || m ≡ true
or_late true l m f e = refl
or_late false l m f e = f e

expired_later : (event : Event) (t secs : ℕ) → is_expired t event ≡ true → is_expired (t + secs) event ≡ true
expired_later event t secs e =
    or_late (ends_key event) (is_late t event) (is_late (t + secs) event)
    (late_later (unwrap_or event.ttl 60) event.time t secs) e

-- expired at the next moment (p), at this one (q), one length before (r), and come in between (s)
passes_step : (p q r s : Bool) → (q ≡ true → p ≡ true) → not p || not q || false ≡ true → not q || not r || s ≡ true
passes_step p false r s f e = refl
passes_step false true r s f e = absurd (true≢false (sym (f refl)))
passes_step true true r s f e = absurd (true≢false (sym e))

-- all came before this moment
abbrev CameBefore : ℕ → List Timed → Type 0
CameBefore t [] = Unit {0}
CameBefore t (timed ∷ came) = (timed.at < t) × CameBefore t came

passes_later : (secs t : ℕ) (timed : Timed) → timed.at < t → still_passes secs (t + secs) timed ≡ true
    → still_passes secs t timed ≡ true
passes_later secs t timed before e =
    let back : t + secs - secs ≡ t = omega arith in
    let not_since : nat_le t timed.at ≡ false = grind (arith, nat_tests) in
    passes_step (is_expired (t + secs) timed.event) (is_expired t timed.event) (is_expired (t - secs) timed.event)
    (nat_le (t - secs) timed.at)
    (expired_later timed.event t secs)
    (sym (ap (λ m. not (is_expired (t + secs) timed.event) || not (is_expired m timed.event) || nat_le m timed.at) back
    ∙ ap (λ s. not (is_expired (t + secs) timed.event) || not (is_expired t timed.event) || s) not_since) ∙ e)

newest_step : (t : ℕ) (test : Bool) (timed : Timed) (later : List Timed) → timed.at < t → CameBefore t later
    → CameBefore t (cond test later (timed ∷ later))
newest_step t true timed later here rest = rest
newest_step t false timed later here rest = (here, rest)

newest-before : (t : ℕ) (came : List Timed) → CameBefore t came → CameBefore t (newest came)
newest-before t [] before = tt
newest-before t (timed ∷ later) before =
    newest_step t (list_any (replaces timed) later) timed (newest later) before.0 (newest-before t later before.1)

append-before : (t : ℕ) (came : List Timed) (timed : Timed) → CameBefore t came → timed.at < t
    → CameBefore t (came ++ timed ∷ [])
append-before t [] timed before last = (last, tt)
append-before t (first ∷ came) timed before last = (before.0, append-before t came timed before.1 last)

more-before : (s t : ℕ) (came : List Timed) → s ≤ t → CameBefore s came → CameBefore t came
more-before s t [] up before = tt
more-before s t (timed ∷ came) up before = (let here = before.0 in omega arith, more-before s t came up before.1)

came-before : (h : History) → CameBefore (moment_of h + 1) (timed_events h)
came-before (since start) = tt
came-before (h ▸ Tick) =
    more-before (moment_of h + 1) (moment_of h + 1 + 1) (timed_events h) (omega arith) (came-before h)
came-before (h ▸ In (One event)) =
    append-before (moment_of h + 1) (timed_events h) (record { event = event; at = moment_of h }) (came-before h)
    (omega arith)
came-before (h ▸ In (Many es)) = came-before h

-- of the first event, which passes later (p) and now (q)
none_step : (p q : Bool) (timed : Timed) (more : List Timed) → (p ≡ true → q ≡ true) →
    is_there (map event_of (cond q (timed ∷ more) more)) ≡ false →
    (p ≡ false) × (is_there (map event_of more) ≡ false)
none_step p true timed more f e = absurd (true≢false e)
none_step true false timed more f e = absurd (true≢false (sym (f refl)))
none_step false false timed more f e = (refl, e)

none_later : (secs t : ℕ) (came : List Timed) → CameBefore t came →
    is_there (map event_of (filter (still_passes secs t) came)) ≡ false →
    is_there (map event_of (filter (still_passes secs (t + secs)) came)) ≡ false
none_later secs t [] before e = refl
none_later secs t (timed ∷ more) before e =
    let parts =
    none_step (still_passes secs (t + secs) timed) (still_passes secs t timed) timed (filter (still_passes secs t) more)
    (passes_later secs t timed before.0) e in
    ap
    (λ p. is_there (map event_of
    (cond p (timed ∷ filter (still_passes secs (t + secs)) more) (filter (still_passes secs (t + secs)) more))))
    parts.0
    ∙ none_later secs t more before.1 parts.1

-- ---- what is placed is there

placed_by-there : (t : Bool) (event first : Event) (rest other : List Event)
    → is_there (cond t (event ∷ (first ∷ rest)) (first ∷ other)) ≡ true
placed_by-there true event first rest other = refl
placed_by-there false event first rest other = refl

placed-there : (event : Event) (es : List Event) → is_there (placed event es) ≡ true
placed-there event [] = refl
placed-there event (first ∷ rest) = placed_by-there _ event first rest (placed event rest)

onto-there : (sorted es : List Event) → is_there sorted ≡ true → is_there (placed_onto sorted es) ≡ true
onto-there sorted [] e = e
onto-there sorted (event ∷ es) e = onto-there (placed event sorted) es (placed-there event sorted)

placed_onto-there : (es : List Event) → is_there (placed_onto [] es) ≡ is_there es
placed_onto-there [] = refl
placed_onto-there (event ∷ es) = onto-there (event ∷ []) es refl

pub coalesced_later : (secs t : ℕ) (h : History) → moment_of h + 1 ≡ t
    → is_there (coalesced secs t (timed_events h)) ≡ false
    → is_there (coalesced secs (t + secs) (timed_events h)) ≡ false
coalesced_later secs t h now e =
    let came = newest (timed_events h) in
    let before : CameBefore t came =
    newest-before t (timed_events h) (subst (λ (m : ℕ). CameBefore m (timed_events h)) now (came-before h)) in
    placed_onto-there (map event_of (filter (still_passes secs (t + secs)) came))
    ∙ none_later secs t came before (sym (placed_onto-there (map event_of (filter (still_passes secs t) came))) ∙ e)

-- ---- the laws of deadlines

none_of : (c u : Bool) → c && u ≡ false → u ≡ true → c ≡ false
none_of c true e f = sym (and_true c) ∙ e
none_of c false e f = absurd (true≢false (sym f))

no_rest : (n : ℕ) (came : List Event) → came ≡ [] → not (length came % n == 0) ≡ false
no_rest n came e = ap (λ es. not (length es % n == 0)) e ∙ ap (λ m. not (m == 0)) (zero-mod n)

pub deadlines_stay : (kind : KindTree) (h : History) → HasRange kind → emits kind (h ▸ Tick) ≡ false
    → next_deadline kind (h ▸ Tick) ≡ next_deadline kind h
deadlines_stay (Rollup n secs) h range silent =
    let w = window_of secs h in
    let w' = window_of secs (h ▸ Tick) in
    let u = moment_of h + 1 == next_window secs h in
    let c = rolls_into n secs (suc w) h in
    let quiet : c && u ≡ false = silent-both (Rollup n secs) h (next_window secs h) c range refl silent in
    ap (λ t. some_if t (begun h + (w' + 1) * secs)) (rolls_into-tick n secs (suc w') h)
    ∙ ap (λ v. some_if (rolls_into n secs (suc v) h) (begun h + (v + 1) * secs)) (next_at secs h range.1)
    ∙ stays_in_window u c (λ v. rolls_into n secs (suc v) h) w (begun h) secs quiet refl
    (λ ends. no_roll n (events_in secs (w + 1) h) (rolls_into n secs (w + 1) h)
    (no_later_events secs (w + 1) h range.1 (omega arith))
    (ap (λ v. rolls_into n secs v h) (add-one w) ∙ none_of c u quiet ends))
deadlines_stay (Batch n secs) h range silent =
    let w = window_of secs h in
    let u = moment_of h + 1 == next_window secs h in
    let c = not (length (events_now secs h) % n == 0) in
    ap (λ v. some_if (not (length (events_in secs v h) % n == 0)) (begun h + (v + 1) * secs)) (next_at secs h range)
    ∙ stays_in_window u c (λ v. not (length (events_in secs v h) % n == 0)) w (begun h) secs
    (silent-both (Batch n secs) h (next_window secs h) c range refl silent) refl
    (λ ends. no_rest n (events_in secs (w + 1) h) (no_later_events secs (w + 1) h range (omega arith)))
deadlines_stay (Stable secs field) h range silent =
    let deadline = run_began field h + secs in
    let c = is_there (run field h) && nat_lt (moment_of h) deadline in
    stable_stays (moment_of h + 1 == deadline) (moment_of h) deadline (run field h) refl
    (silent-both (Stable secs field) h deadline c range refl silent)
deadlines_stay (Coalesce secs) h range silent =
    let w = window_of secs h in
    let t = next_window secs h in
    let u = moment_of h + 1 == t in
    let c = is_there (coalesced secs t (timed_events h)) in
    let quiet : c && u ≡ false = silent-both (Coalesce secs) h t c range refl silent in
    let c' : ℕ → Bool = λ v. is_there (coalesced secs (begun h + (v + 1) * secs) (timed_events h)) in
    ap (λ v. some_if (c' v) (begun h + (v + 1) * secs)) (next_at secs h range)
    ∙ stays_in_window u c c' w (begun h) secs quiet refl
    (λ ends. ap (λ m. is_there (coalesced secs m (timed_events h))) (one_more (begun h) w secs)
    ∙ coalesced_later secs t h (eqb-true (moment_of h + 1) t ends) (none_of c u quiet ends))
  where
    one_more : (s w secs : ℕ) → s + (w + 1 + 1) * secs ≡ s + (w + 1) * secs + secs
    one_more s w secs = omega arith
deadlines_stay kind h range silent = refl

ahead_if : (c : Bool) (now deadline : ℕ) → (c ≡ true → now < deadline)
    → IfSome (some_if c deadline) (λ deadline. now < deadline)
ahead_if true now deadline f = f refl
ahead_if false now deadline f = tt

next_window-ahead : (secs : ℕ) (h : History) → 0 < secs → moment_of h < next_window secs h
next_window-ahead secs h range =
    let after = begun-≤ h in
    let d : ℕ = moment_of h - begun h in
    let parts = div-add-mod' d secs in
    let bound : d % secs < secs = mod-lt d range in
    omega arith

and_right : (s t : Bool) → s && t ≡ true → t ≡ true
and_right true t e = e
and_right false t e = absurd (true≢false (sym e))

pub deadlines_ahead : (kind : KindTree) (h : History) → HasRange kind
    → IfSome (next_deadline kind h) (λ deadline. moment_of h < deadline)
deadlines_ahead (Rollup n secs) h range =
    ahead_if (rolls_into n secs (suc (window_of secs h)) h) (moment_of h) (next_window secs h)
    (λ e. next_window-ahead secs h range.1)
deadlines_ahead (Batch n secs) h range =
    ahead_if (not (length (events_now secs h) % n == 0)) (moment_of h) (next_window secs h)
    (λ e. next_window-ahead secs h range)
deadlines_ahead (Coalesce secs) h range =
    ahead_if (is_there (coalesced secs (next_window secs h) (timed_events h))) (moment_of h) (next_window secs h)
    (λ e. next_window-ahead secs h range)
deadlines_ahead (Stable secs field) h range =
    let deadline = run_began field h + secs in
    ahead_if (is_there (run field h) && nat_lt (moment_of h) deadline) (moment_of h) deadline
    (λ e. below (moment_of h) deadline (and_right (is_there (run field h)) (nat_lt (moment_of h) deadline) e))
  where
    below : (a b : ℕ) → nat_lt a b ≡ true → a < b
    below a b e = grind (arith, nat_tests)
deadlines_ahead kind h range = tt

pub moment-waited : (n : ℕ) (h : History) → moment_of (waited n h) ≡ moment_of h + n
moment-waited zero h = omega arith
moment-waited (suc n) h = let before = moment-waited n h in omega arith

deadline-waited : (kind : KindTree) (h : History) (n : ℕ) → HasRange kind → IsStill kind h n
    → next_deadline kind (waited n h) ≡ next_deadline kind h
deadline-waited kind h zero range still = refl
deadline-waited kind h (suc n) range still =
    deadlines_stay kind (waited n h) range (still n (omega arith))
    ∙ deadline-waited kind h n range (λ k below. still k (omega arith))

pub deadlines_first : DeadlinesAreFirst
deadlines_first kind h n range still =
    deadlines_met kind (waited n h) range
    ∙ ap (λ m. is_at (m + 1) (next_deadline kind (waited n h))) (moment-waited n h)
    ∙ ap (is_at (moment_of h + n + 1)) (deadline-waited kind h n range still)
