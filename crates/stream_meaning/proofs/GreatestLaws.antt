-- The greatest of some numbers is one of them and a bound, and no other number is both.
use Rattle.std.proofs.Common.{◌≡◌, ℕ, suc, ℤ, pos, negsuc, neg_ℤ, ◌+◌, ◌*◌, ◌/◌, ◌%◌, ◌<◌, ◌≤◌, ◌+ℤ◌, ◌-ℤ◌, ◌*ℤ◌, inl}
use Rattle.std.proofs.Common.{inr, Bool, true, false, cond, List, [], ◌∷◌, ◌++◌, map, refl, sym, ap, subst, ◌∙◌, arith}
use Rattle.std.specs.Prelude.{◌<ℤ◌, ◌≤ℤ◌, int_lt, filter, fold, Contains}
use Rattle.std.specs.Int.{int_max}
use Rattle.std.specs.Ordering.{int_eq}
use Rattle.std.proofs.Math.Nat.{mod-lt}
use Rattle.std.proofs.lemmas.Nat.{div-add-mod'}
use Rattle.std.proofs.lemmas.Int.{ints, fold-int_max_bounds, fold-int_max_reached}
use Rattle.std.proofs.lemmas.List.{map-append}
use Rattle.std.proofs.lemmas.List.Elements.{All-cons, All-head, All-tail, All-push, All-contains, Contains-append_left}
use Rattle.std.proofs.lemmas.List.Elements.{Contains-append_right, Contains-append_cases, Contains-push}
use Rattle.ev_types.specs.declared.event.Event.{Event}
use Rattle.stream_meaning.specs.Came.{events, vector}
use Rattle.stream_meaning.specs.Windows.{greatest, time_of, latest_time, is_recent, floor_div, stretch_of}
use Rattle.stream_meaning.specs.Windows.{stretch_before}
use Rattle.stream_meaning.specs.GreatestLaws.{IsGreatest, GreatestIsReached, MovingTimeGoesByTheGreatest}
use Rattle.stream_meaning.specs.GreatestLaws.{FixedTimeGoesByTheGreatest, EventsLieInTheirStretch}

as_fold : (a : ℤ) (bs : List ℤ) → greatest a bs ≡ fold int_max a bs
as_fold a [] = refl
as_fold a (b ∷ bs) = as_fold (int_max a b) bs

pub greatest_reached : GreatestIsReached
greatest_reached first more =
    let bounds = fold-int_max_bounds first more (greatest first more) (as_fold first more) in
    record {
      among = elim (fold-int_max_reached first more (greatest first more) (as_fold first more)) [
        | inl is ↦
            subst (Contains (first ∷ more)) (sym is)
            (Contains-append_left (first ∷ []) more first (Contains-push [] first))
        | inr later ↦ Contains-append_right (first ∷ []) more (greatest first more) later
      ];
      bound = All-cons (λ number. number ≤ℤ greatest first more) first more bounds.0 bounds.1;
    }

both_ways : (a b : ℤ) → a ≤ℤ b → b ≤ℤ a → a ≡ b
both_ways a b p q = omega (arith, ints)

only_one : (numbers : List ℤ) (a b : ℤ) → IsGreatest numbers a → IsGreatest numbers b → a ≡ b
only_one numbers a b p q =
    both_ways a b (All-contains (λ number. number ≤ℤ b) numbers a q.bound p.among)
    (All-contains (λ number. number ≤ℤ a) numbers b p.bound q.among)

moved : (first top : ℤ) (more : List ℤ) → IsGreatest (first ∷ more) top → IsGreatest (more ++ first ∷ []) top
moved first top more is = record {
  among = elim (Contains-append_cases (first ∷ []) more top is.among) [
    | inl here ↦ Contains-append_right more (first ∷ []) top here
    | inr later ↦ Contains-append_left more (first ∷ []) top later
  ];
  bound =
      All-push (λ number. number ≤ℤ top) more first (All-tail (λ number. number ≤ℤ top) first more is.bound)
      (All-head (λ number. number ≤ℤ top) first more is.bound);
}

latest_is : (before : List Event) (event : Event)
    → IsGreatest (map time_of (before ++ event ∷ [])) (latest_time before event)
latest_is before event =
    subst (λ (times : List ℤ). IsGreatest times (latest_time before event))
    (sym (map-append time_of before (event ∷ [])))
    (moved event.time (latest_time before event) (map time_of before)
    (greatest_reached event.time (map time_of before)))

pub moving_time_goes_by_the_greatest : MovingTimeGoesByTheGreatest
moving_time_goes_by_the_greatest secs h event latest is =
    let came : List Event = events h ++ event ∷ [] in
    ap (λ (top : ℤ). cond (is_recent secs top event) (vector (filter (is_recent secs top) came)) [])
    (only_one (map time_of came) (latest_time (events h) event) latest (latest_is (events h) event) is)

vector_if : (t : Bool) (es : List Event) → vector (cond t es []) ≡ cond t (vector es) []
vector_if true es = refl
vector_if false es = refl

pub fixed_time_goes_by_the_greatest : FixedTimeGoesByTheGreatest
fixed_time_goes_by_the_greatest secs h event first more latest came is =
    let reached : IsGreatest (map (stretch_of secs first) (first ∷ more)) latest =
    subst (λ (es : List Event). IsGreatest (map (stretch_of secs first) es) latest) came is in
    let top : ℤ = greatest (stretch_of secs first first) (map (stretch_of secs first) more) in
    let same : top ≡ latest =
    only_one (map (stretch_of secs first) (first ∷ more)) top latest
    (greatest_reached (stretch_of secs first first) (map (stretch_of secs first) more)) reached in
    ap (λ (es : List Event). vector (stretch_before secs es event)) came
    ∙ vector_if (int_lt top (stretch_of secs first event))
    (filter (λ (other : Event). int_eq (stretch_of secs first other) top) (first ∷ more))
    ∙ ap
    (λ (t : ℤ). cond (int_lt t (stretch_of secs first event))
    (vector (filter (λ (other : Event). int_eq (stretch_of secs first other) t) (first ∷ more))) [])
    same
    ∙ ap
    (λ (es : List Event). cond (int_lt latest (stretch_of secs first event))
    (vector (filter (λ (other : Event). int_eq (stretch_of secs first other) latest) es)) [])
    (sym came)

-- ---- stretches

neg_at_most : (m a : ℕ) → a < m → neg_ℤ (pos m) ≤ℤ negsuc a
neg_at_most m a below = omega (arith, ints)

neg_more : (m n a : ℕ) → m ≤ a + n → negsuc a <ℤ (neg_ℤ (pos m) +ℤ pos n)
neg_more m n a below = omega (arith, ints)

floors : (a : ℤ) (n : ℕ) → 0 < n → ((floor_div a n *ℤ pos n) ≤ℤ a) × (a <ℤ (floor_div a n *ℤ pos n +ℤ pos n))
floors (pos a) n positive =
    let parts : a / n * n + a % n ≡ a = div-add-mod' a n in
    let bound : a % n < n = mod-lt a positive in
    (omega (arith, ints), omega (arith, ints))
floors (negsuc a) n positive =
    let parts : a / n * n + a % n ≡ a = div-add-mod' a n in
    let bound : a % n < n = mod-lt a positive in
    let more : suc (a / n) * n ≡ a / n * n + n = omega arith in
    (neg_at_most (suc (a / n) * n) a (omega arith), neg_more (suc (a / n) * n) n a (omega arith))

moved_from : (first time part : ℤ) → part ≤ℤ (time -ℤ first) → (first +ℤ part) ≤ℤ time
moved_from first time part p = omega (arith, ints)

moved_until : (first time part length : ℤ) → (time -ℤ first) <ℤ (part +ℤ length) → time <ℤ (first +ℤ part +ℤ length)
moved_until first time part length p = omega (arith, ints)

pub events_lie_in_their_stretch : EventsLieInTheirStretch
events_lie_in_their_stretch secs first event positive =
    let part : ℤ = stretch_of secs first event *ℤ pos secs in
    let bounds = floors (event.time -ℤ first.time) secs positive in
    record {
      from = moved_from first.time event.time part bounds.0;
      until = moved_until first.time event.time part (pos secs) bounds.1;
    }
