-- At its deadline, and at no other tick, a stream passes something on.
use Rattle.std.proofs.Common.{◌≡◌, ℕ, suc, ◌+◌, ◌-◌, ◌%◌, ◌<◌, ◌≤◌, ◌==◌, Bool, true, false, not, ◌&&◌, cond, List, []}
use Rattle.std.proofs.Common.{◌∷◌, length, drop, nat_lt, refl, sym, ap, subst, ◌∙◌, arith}
use Rattle.std.proofs.Math.Nat.{mod-le}
use Rattle.std.proofs.lemmas.List.{length-drop}
use Rattle.std.proofs.lemmas.Bool.Decides.{nat_tests}
use Rattle.std.proofs.lemmas.Bool.{eqb-true}
use Rattle.ev_types.specs.declared.event.Event.{Event}
use Rattle.ev_types.specs.declared.item.Item.{Item}
use Rattle.stream_plan.specs.Tree.{KindTree, Rollup, Batch, Stable, Coalesce}
use Rattle.stream_meaning.specs.History.{History, ◌▸◌, Tick, begun, moment_of, window_of, is_at}
use Rattle.stream_meaning.specs.Came.{Timed, events_in, timed_events, each, vector, last_of}
use Rattle.stream_meaning.specs.Runs.{run, run_began}
use Rattle.stream_meaning.specs.Rates.{events_now, rolls_into, allowed, one_if}
use Rattle.stream_meaning.specs.Coalesce.{coalesced}
use Rattle.stream_meaning.specs.Emission.{to_children}
use Rattle.stream_meaning.specs.Deadlines.{some_if, is_there, next_window, next_deadline}
use Rattle.stream_meaning.specs.DeadlineLaws.{HasRange, is_any, emits}
use Rattle.stream_meaning.proofs.MomentLaws.{ne-zero}
use Rattle.stream_meaning.proofs.WindowLaws.{turns_at, stays_at}

pub is_at-some_if : (now deadline : ℕ) (t : Bool) → is_at now (some_if t deadline) ≡ t && (now == deadline)
is_at-some_if now deadline true = refl
is_at-some_if now deadline false = refl

pub and_true : (t : Bool) → t && true ≡ t
and_true true = refl
and_true false = refl

pub and_false : (t : Bool) → t && false ≡ false
and_false true = refl
and_false false = refl

any-vector : (es : List Event) → is_any (to_children (vector es)) ≡ is_there es
any-vector [] = refl
any-vector (event ∷ es) = refl

any-each : (es : List Event) → is_any (to_children (each es)) ≡ is_there es
any-each [] = refl
any-each (event ∷ es) = refl

there-length : (es : List Event) → is_there es ≡ not (length es == 0)
there-length [] = refl
there-length (event ∷ es) = ap not (sym (ne-zero (length (event ∷ es)) (omega arith)))

-- what is passed on where the window ends (u)
at_window : (t u c : Bool) (items : List Item) → t ≡ not u → is_any (to_children items) ≡ c
    → is_any (to_children (cond t [] items)) ≡ c && u
at_window t true c items e f = ap (λ t. is_any (to_children (cond t [] items))) e ∙ f ∙ sym (and_true c)
at_window t false c items e f = ap (λ t. is_any (to_children (cond t [] items))) e ∙ sym (and_false c)

one_if-≤ : (t : Bool) (n : ℕ) → 0 < n → one_if t ≤ n
one_if-≤ true n pos = omega arith
one_if-≤ false n pos = omega arith

-- where more than n came, not all are left out
rolled : (r : Bool) (n o : ℕ) (es : List Event) → o ≤ n → 0 < n → nat_lt n (length es + o) ≡ r
    → is_any (to_children (cond r (vector (drop (n - o) es)) [])) ≡ r
rolled false n o es least pos e = refl
rolled true n o es least pos e =
    let more : n < length es + o = grind (arith, nat_tests) in
    let left : 0 < length (drop (n - o) es) =
    subst (λ (m : ℕ). 0 < m) (sym (length-drop (n - o) es)) (some_left o n (length es) least pos more) in
    any-vector (drop (n - o) es) ∙ there-length (drop (n - o) es) ∙ ap not (ne-zero (length (drop (n - o) es)) left)
  where
    some_left : (o n m : ℕ) → o ≤ n → 0 < n → n < m + o → 0 < m - (n - o)
    some_left o n m least pos h = omega arith

batched : (k : ℕ) (es : List Event) → k ≤ length es → is_any (to_children (vector (last_of k es))) ≡ not (k == 0)
batched k es h =
    let left : length (last_of k es) ≡ k =
    length-drop (length es - k) es ∙ (let exact : length es - (length es - k) ≡ k = omega arith in exact) in
    any-vector (last_of k es) ∙ there-length (last_of k es) ∙ ap (λ m. not (m == 0)) left

stable_met : (t : Bool) (now deadline : ℕ) (es : List Event) → (now + 1 == deadline) ≡ t
    → is_any (to_children (cond t (each es) [])) ≡ (is_there es && nat_lt now deadline) && t
stable_met false now deadline es e = sym (and_false (is_there es && nat_lt now deadline))
stable_met true now deadline es e =
    let ahead : nat_lt now deadline ≡ true = grind (arith, nat_tests) in
    any-each es
    ∙ sym (and_true (is_there es && nat_lt now deadline) ∙ ap (λ t. is_there es && t) ahead ∙ and_true (is_there es))

coalesce_met : (t u : Bool) (secs now deadline : ℕ) (came : List Timed) → t ≡ u → (now == deadline) ≡ u →
    is_any (to_children (cond t (vector (coalesced secs now came)) [])) ≡ is_there (coalesced secs deadline came) && u
coalesce_met t false secs now deadline came e f =
    ap (λ t. is_any (to_children (cond t (vector (coalesced secs now came)) []))) e
    ∙ sym (and_false (is_there (coalesced secs deadline came)))
coalesce_met t true secs now deadline came e f =
    ap (λ t. is_any (to_children (cond t (vector (coalesced secs now came)) []))) e
    ∙ any-vector (coalesced secs now came)
    ∙ ap (λ m. is_there (coalesced secs m came)) (eqb-true now deadline f)
    ∙ sym (and_true (is_there (coalesced secs deadline came)))

pub deadlines_met : (kind : KindTree) (h : History) → HasRange kind
    → emits kind (h ▸ Tick) ≡ is_at (moment_of h + 1) (next_deadline kind h)
deadlines_met (Rollup n secs) h range =
    let pos = range.1 in
    let o = one_if (rolls_into n secs (window_of secs h) h) in
    let least : o ≤ n = one_if-≤ (rolls_into n secs (window_of secs h) h) n range.0 in
    let window = window_of secs h in
    let r = rolls_into n secs (suc window) h in
    let now = moment_of h + 1 in
    at_window (window_of secs (h ▸ Tick) == window) (now == next_window secs h) r
    (cond r (vector (drop (allowed n secs window h) (events_in secs window h))) [])
    (stays_at secs h pos) (rolled r n o (events_in secs window h) least range.0 refl)
    ∙ sym (is_at-some_if now (next_window secs h) r)
deadlines_met (Batch n secs) h pos =
    let came = events_now secs h in
    let k = length came % n in
    let now = moment_of h + 1 in
    at_window (window_of secs (h ▸ Tick) == window_of secs h) (now == next_window secs h) (not (k == 0))
    (vector (last_of k came)) (stays_at secs h pos) (batched k came (mod-le (length came) n))
    ∙ sym (is_at-some_if now (next_window secs h) (not (k == 0)))
deadlines_met (Stable secs field) h pos =
    let deadline = run_began field h + secs in
    let now = moment_of h in
    stable_met (now + 1 == deadline) now deadline (run field h) refl
    ∙ sym (is_at-some_if (now + 1) deadline (is_there (run field h) && nat_lt now deadline))
deadlines_met (Coalesce secs) h pos =
    let now = moment_of h + 1 in
    let deadline = next_window secs h in
    coalesce_met ((now - begun h) % secs == 0) (now == deadline) secs now deadline (timed_events h)
    (turns_at secs h pos) refl
    ∙ sym (is_at-some_if now deadline (is_there (coalesced secs deadline (timed_events h))))
deadlines_met kind h pos = refl
