-- The latest stretch of a list of events, and of one that is one event longer.
use Rattle.std.proofs.Common.{◌≡◌, ℕ, ◌<◌, ◌≤◌, max, ◌⊎◌, inl, inr, ℤ, pos, negsuc, ◌-ℤ◌, Bool, true, false, cond, List}
use Rattle.std.proofs.Common.{[], ◌∷◌, ◌++◌, map, filter, Option, Some, None, unwrap_or, refl, sym, ap, subst, ◌∙◌}
use Rattle.std.proofs.Common.{arith}
use Rattle.std.specs.Int.{int_max}
use Rattle.std.specs.Ordering.{int_eq}
use Rattle.std.specs.Prelude.{int_lt, nat_lt, ◌==◌, unsigned_abs}
use Rattle.std.proofs.lemmas.List.{append-nil}
use Rattle.std.proofs.Math.Nat.{zero-div}
use Rattle.std.proofs.lemmas.Int.{ints}
use Rattle.std.proofs.lemmas.Bool.Decides.{nat_tests}
use Rattle.ev_types.specs.declared.event.Event.{Event}
use Rattle.ev_types.specs.declared.item.Item.{Item}
use Rattle.ev_types.specs.declared.item.Item.TheVariants.{One}
use Rattle.stream_meaning.specs.Came.{events, vector}
use Rattle.stream_meaning.specs.declared.entry.Entry.TheVariants.{Item as In}
use Rattle.stream_meaning.specs.History.{History, ◌▸◌, TicksAlone}
use Rattle.stream_meaning.specs.Windows.{floor_div, stretch_of, greatest, stretch_before, fixed_time_items}
use Rattle.window_streams.specs.FixedTime.{FixedTimeRepresents, first_time, latest_stretch, latest_events}
use Rattle.window_streams.specs.declared.fixed_time.FixedTimeState.{FixedTimeState}
use Rattle.window_streams.proofs.EventLaws.{greatest-more, map-more, filter-more}
use Rattle.window_streams.proofs.TickedLaws.{events-ticks}
use Rattle.window_streams.specs.Stretch.{stretch_from, is_later, is_same, later_of}

-- ---- the greatest of a list

below_both : (a b z : ℤ) → int_lt (int_max a b) z ≡ true → (int_lt a z ≡ true) × (int_lt b z ≡ true)
below_both a b z h = by_test (int_lt b a) refl h
  where
    by_test : (t : Bool) → int_lt b a ≡ t → int_lt (cond t a b) z ≡ true → (int_lt a z ≡ true) × (int_lt b z ≡ true)
    by_test true e k = (k, grind (arith, ints))
    by_test false e k = (grind (arith, ints), k)

apart : (b z : ℤ) → int_lt b z ≡ true → int_eq b z ≡ false
apart b z h = grind (arith, ints)

-- what is above the greatest of a list is the number of none
pub none_at : (f : Event → ℤ) (a : ℤ) (es : List Event) (z : ℤ) → int_lt (greatest a (map f es)) z ≡ true
    → (int_lt a z ≡ true) × (filter (λ other. int_eq (f other) z) es ≡ [])
none_at f a [] z h = (h, refl)
none_at f a (event ∷ es) z h =
    let later = none_at f (int_max a (f event)) es z h in
    let both = below_both a (f event) z later.0 in (
      both.0,
      ap (λ t. cond t (event ∷ filter (λ other. int_eq (f other) z) es) (filter (λ other. int_eq (f other) z) es))
          (apart (f event) z both.1)
          ∙ later.1,
    )

-- ---- an event more

module _ (secs : ℕ) (event : Event) where
  stretch_of-self : stretch_of secs event event ≡ pos 0
  stretch_of-self =
      let none : event.time -ℤ event.time ≡ pos 0 = omega (arith, ints) in
      ap (λ z. floor_div z secs) none ∙ ap pos (zero-div secs)

  later_is : (latest : ℕ) (z : ℤ) → pos (later_of (stretch_from z) latest) ≡ int_max (pos latest) z
  later_is latest (pos number) = grind (arith, ints, nat_tests)
  later_is latest (negsuc number) = refl

  -- the latest stretch
  pub latest-more : (first : Event) (more : List Event)
      → latest_stretch secs ((first ∷ more) ++ event ∷ [])
      ≡ int_max (latest_stretch secs (first ∷ more)) (stretch_of secs first event)
  latest-more first more =
      ap (greatest (stretch_of secs first first)) (map-more (stretch_of secs first) more event)
      ∙ greatest-more (stretch_of secs first first) (map (stretch_of secs first) more) (stretch_of secs first event)

  abbrev entered : Option ℕ → ℕ → List Event → List Event
  entered stretch latest waiting =
      cond (is_later stretch latest) (event ∷ []) (cond (is_same stretch latest) (waiting ++ event ∷ []) waiting)

  module _ (f : Event → ℤ) (first : Event) (more : List Event) where
    abbrev at : ℤ → List Event
    at z = filter (λ other. int_eq (f other) z) (first ∷ more)

    none_above : (z : ℤ) → int_lt (greatest (f first) (map f more)) z ≡ true
        → filter (λ other. int_eq (f other) z) (first ∷ more) ≡ []
    none_above z h =
        let later = none_at f (f first) more z h in
        ap (λ t. cond t (first ∷ filter (λ other. int_eq (f other) z) more) (filter (λ other. int_eq (f other) z) more))
        (apart (f first) z later.0)
        ∙ later.1

    -- the list with the event, where the number is at z
    more_at : (z g : ℤ) (t : Bool) → g ≡ z → int_eq (f event) z ≡ t
        → filter (λ other. int_eq (f other) g) ((first ∷ more) ++ event ∷ []) ≡ at z ++ cond t (event ∷ []) []
    more_at z g t e own =
        ap (λ g. filter (λ other. int_eq (f other) g) ((first ∷ more) ++ event ∷ [])) e
        ∙ filter-more (λ other. int_eq (f other) z) (first ∷ more) event
        ∙ ap (λ t. at z ++ cond t (event ∷ []) []) own

    abbrev Waits : ℕ → ℤ → Type 0
    Waits latest z =
        entered (stretch_from z) latest (at (pos latest))
        ≡ filter (λ other. int_eq (f other) (int_max (pos latest) z)) ((first ∷ more) ++ event ∷ [])

    eq-same : (n : ℕ) → int_eq (pos n) (pos n) ≡ true
    eq-same n = grind (arith, nat_tests)

    eq-less : (m n : ℕ) → m < n → int_eq (pos m) (pos n) ≡ false
    eq-less m n h = grind (arith, nat_tests)

    when_later : (latest number : ℕ) → pos latest ≡ greatest (f first) (map f more) → f event ≡ pos number
        → latest < number → Waits latest (pos number)
    when_later latest number top e h =
        let test : nat_lt latest number ≡ true = grind (arith, nat_tests) in
        let other : nat_lt number latest ≡ false = grind (arith, nat_tests) in
        let clear = none_above (pos number) (subst (λ (g : ℤ). int_lt g (pos number) ≡ true) top test) in
        ap (λ t. cond t (event ∷ []) (cond (number == latest) (at (pos latest) ++ event ∷ []) (at (pos latest)))) test
        ∙ sym (more_at (pos number) (int_max (pos latest) (pos number)) true
        (ap (λ t. cond t (pos latest) (pos number)) other) (ap (λ z. int_eq z (pos number)) e ∙ eq-same number)
        ∙ ap (λ es. es ++ event ∷ []) clear)

    when_same : (latest number : ℕ) → f event ≡ pos number → latest ≡ number → Waits latest (pos number)
    when_same latest number e h =
        let test : nat_lt latest number ≡ false = grind (arith, nat_tests) in
        let same : (number == latest) ≡ true = grind (arith, nat_tests) in
        let other : nat_lt number latest ≡ false = grind (arith, nat_tests) in
        ap (λ t. cond t (event ∷ []) (cond (number == latest) (at (pos latest) ++ event ∷ []) (at (pos latest)))) test
        ∙ ap (λ t. cond t (at (pos latest) ++ event ∷ []) (at (pos latest))) same
        ∙ sym (more_at (pos latest) (int_max (pos latest) (pos number)) true
        (ap (λ t. cond t (pos latest) (pos number)) other ∙ ap pos (sym h))
        (ap (λ z. int_eq z (pos latest)) (e ∙ ap pos (sym h)) ∙ eq-same latest))

    when_earlier : (latest number : ℕ) → f event ≡ pos number → number < latest → Waits latest (pos number)
    when_earlier latest number e h =
        let test : nat_lt latest number ≡ false = grind (arith, nat_tests) in
        let same : (number == latest) ≡ false = grind (arith, nat_tests) in
        let other : nat_lt number latest ≡ true = grind (arith, nat_tests) in
        ap (λ t. cond t (event ∷ []) (cond (number == latest) (at (pos latest) ++ event ∷ []) (at (pos latest)))) test
        ∙ ap (λ t. cond t (at (pos latest) ++ event ∷ []) (at (pos latest))) same
        ∙ sym (more_at (pos latest) (int_max (pos latest) (pos number)) false
        (ap (λ t. cond t (pos latest) (pos number)) other) (ap (λ z. int_eq z (pos latest)) e ∙ eq-less number latest h)
        ∙ append-nil (at (pos latest)))

    waits : (latest : ℕ) (z : ℤ) → pos latest ≡ greatest (f first) (map f more) → f event ≡ z → Waits latest z
    waits latest (pos number) top e =
        let way : (latest < number) ⊎ (number ≤ latest) = grind arith in
        elim way [ inl h ↦ when_later latest number top e h | inr h ↦ upto h ]
      where
        upto : number ≤ latest → Waits latest (pos number)
        upto h =
            let way : (latest ≡ number) ⊎ (number < latest) = grind arith in
            elim way [ inl same ↦ when_same latest number e same | inr less ↦ when_earlier latest number e less ]
    waits latest (negsuc number) top e =
        sym (more_at (pos latest) (pos latest) false refl (ap (λ z. int_eq z (pos latest)) e)
        ∙ append-nil (at (pos latest)))

  -- what is kept of the events, and then of one more
  record Keeps (begin : Option ℤ) (top : ℕ) (kept es : List Event) : Type 0 where
    first : begin ≡ first_time es
    latest : pos top ≡ latest_stretch secs es
    waiting : kept ≡ latest_events secs es

  keeps-more : (begin : Option ℤ) (top : ℕ) (kept es : List Event) (start : ℤ) → Keeps begin top kept es →
      start ≡ unwrap_or begin event.time →
      let stretch = stretch_from (floor_div (event.time -ℤ start) secs) in
      Keeps (Some start) (later_of stretch top) (entered stretch top kept) (es ++ event ∷ [])
  keeps-more begin top kept [] start keeps e =
      let from : start ≡ event.time = e ∙ ap (λ b. unwrap_or b event.time) keeps.first in
      let zero_stretch : floor_div (event.time -ℤ start) secs ≡ pos 0 =
      ap (λ z. floor_div (event.time -ℤ z) secs) from ∙ stretch_of-self in
      let none : top ≡ 0 = nat_of (pos top) 0 keeps.latest in
      record {
        first = ap Some from;
        latest =
            ap (λ z. pos (later_of (stretch_from z) top)) zero_stretch ∙ ap (λ n. pos (max n 0)) none
            ∙ sym stretch_of-self;
        waiting =
            ap (λ z. entered (stretch_from z) top kept) zero_stretch ∙ ap (λ n. entered (Some 0) n kept) none
            ∙ ap (λ es. es ++ event ∷ []) keeps.waiting
            ∙ sym (ap (λ z. filter (λ other. int_eq (stretch_of secs event other) z) (event ∷ [])) stretch_of-self
            ∙ ap (λ z. cond (int_eq z (pos 0)) (event ∷ []) []) stretch_of-self);
      }
    where
      nat_of : (z : ℤ) (n : ℕ) → z ≡ pos n → unsigned_abs z ≡ n
      nat_of z n e = ap unsigned_abs e
  keeps-more begin top kept (first ∷ more) start keeps e =
      let from : start ≡ first.time = e ∙ ap (λ b. unwrap_or b event.time) keeps.first in
      let own : floor_div (event.time -ℤ start) secs ≡ stretch_of secs first event =
      ap (λ z. floor_div (event.time -ℤ z) secs) from in
      record {
        first = ap Some from;
        latest =
            ap (λ z. pos (later_of (stretch_from z) top)) own ∙ later_is top (stretch_of secs first event)
            ∙ ap (λ z. int_max z (stretch_of secs first event)) keeps.latest ∙ sym (latest-more first more);
        waiting = ap (λ z. entered (stretch_from z) top kept) own
            ∙ ap (λ es. entered (stretch_from (stretch_of secs first event)) top es)
            (keeps.waiting
            ∙ ap (λ z. filter (λ other. int_eq (stretch_of secs first other) z) (first ∷ more)) (sym keeps.latest))
            ∙ waits (stretch_of secs first) first more top (stretch_of secs first event) keeps.latest refl
            ∙ ap (λ z. filter (λ other. int_eq (stretch_of secs first other) z) ((first ∷ more) ++ event ∷ []))
            (ap (λ z. int_max z (stretch_of secs first event)) keeps.latest ∙ sym (latest-more first more));
      }

-- what is passed on at an event
pub fixed_time-emits : (state : FixedTimeState) (event : Event) (h : History) (start : ℤ) →
    FixedTimeRepresents state h → start ≡ unwrap_or state.first event.time →
    cond (is_later (stretch_from (floor_div (event.time -ℤ start) state.secs)) state.latest) (vector state.waiting) []
    ≡ fixed_time_items state.secs (h ▸ In (One event))
fixed_time-emits state event h start represents e =
    by_events (events h) represents.first represents.latest represents.waiting
  where
    later_than : (latest : ℕ) (z : ℤ) → is_later (stretch_from z) latest ≡ int_lt (pos latest) z
    later_than latest (pos number) = refl
    later_than latest (negsuc number) = refl

    by_events : (es : List Event) → state.first ≡ first_time es → pos state.latest ≡ latest_stretch state.secs es →
        state.waiting ≡ latest_events state.secs es →
        cond (is_later (stretch_from (floor_div (event.time -ℤ start) state.secs)) state.latest) (vector state.waiting)
        []
        ≡ vector (stretch_before state.secs es event)
    by_events [] first latest waiting =
        ap
        (λ es. cond (is_later (stretch_from (floor_div (event.time -ℤ start) state.secs)) state.latest) (vector es) [])
        waiting
        ∙ same_nil (is_later (stretch_from (floor_div (event.time -ℤ start) state.secs)) state.latest)
      where
        same_nil : (t : Bool) → cond {A = List Item} t [] [] ≡ []
        same_nil true = refl
        same_nil false = refl
    by_events (begin ∷ more) first latest waiting =
        let own : floor_div (event.time -ℤ start) state.secs ≡ stretch_of state.secs begin event =
        ap (λ z. floor_div (event.time -ℤ z) state.secs) (e ∙ ap (λ b. unwrap_or b event.time) first) in
        let test : is_later (stretch_from (floor_div (event.time -ℤ start) state.secs)) state.latest
        ≡ int_lt (latest_stretch state.secs (begin ∷ more)) (stretch_of state.secs begin event) =
        later_than state.latest (floor_div (event.time -ℤ start) state.secs) ∙ ap (λ z. int_lt (pos state.latest) z) own
        ∙ ap (λ z. int_lt z (stretch_of state.secs begin event)) latest in
        ap
        (λ es. cond (is_later (stretch_from (floor_div (event.time -ℤ start) state.secs)) state.latest) (vector es) [])
        waiting
        ∙ vector_by (is_later (stretch_from (floor_div (event.time -ℤ start) state.secs)) state.latest)
        (int_lt (latest_stretch state.secs (begin ∷ more)) (stretch_of state.secs begin event))
        (latest_events state.secs (begin ∷ more)) test
      where
        vector_by : (t u : Bool) (es : List Event) → t ≡ u → cond t (vector es) [] ≡ vector (cond u es [])
        vector_by t true es e = ap (λ t. cond t (vector es) []) e
        vector_by t false es e = ap (λ t. cond t (vector es) []) e

pub fixed_time-represents : (old new : FixedTimeState) (event : Event) (h : History) (start : ℤ) →
    FixedTimeRepresents old h → start ≡ unwrap_or old.first event.time →
    new.secs ≡ old.secs → new.poisoned ≡ false → new.first ≡ Some start →
    new.latest ≡ later_of (stretch_from (floor_div (event.time -ℤ start) old.secs)) old.latest →
    new.waiting ≡ cond (is_later (stretch_from (floor_div (event.time -ℤ start) old.secs)) old.latest) (event ∷ [])
    (cond (is_same (stretch_from (floor_div (event.time -ℤ start) old.secs)) old.latest) (old.waiting ++ event ∷ [])
    old.waiting) →
    FixedTimeRepresents new (h ▸ In (One event))
fixed_time-represents old new event h start represents e secs sound first latest waiting =
    let keeps =
    keeps-more old.secs event old.first old.latest old.waiting (events h) start
    (record { first = represents.first; latest = represents.latest; waiting = represents.waiting }) e in
    record {
      sound = sound;
      first = first ∙ keeps.first;
      latest = ap pos latest ∙ keeps.latest ∙ ap (λ n. latest_stretch n (events h ++ event ∷ [])) (sym secs);
      waiting = waiting ∙ keeps.waiting ∙ ap (λ n. latest_events n (events h ++ event ∷ [])) (sym secs);
    }

pub fixed_time-fresh : (state : FixedTimeState) (h : History) → TicksAlone h → state.poisoned ≡ false
    → state.first ≡ None → state.latest ≡ 0 → state.waiting ≡ [] → FixedTimeRepresents state h
fixed_time-fresh state h alone sound first latest waiting = record {
  sound = sound;
  first = first ∙ sym (ap first_time (events-ticks h alone));
  latest = ap pos latest ∙ sym (ap (latest_stretch state.secs) (events-ticks h alone));
  waiting = waiting ∙ sym (ap (latest_events state.secs) (events-ticks h alone));
}
