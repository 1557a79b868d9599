-- A run is the longest suffix of the events whose field holds one value, and begins with the first of them.
use Rattle.std.proofs.Common.{◌≡◌, ℕ, zero, suc, ◌+◌, ◌-◌, ◌≤◌, ◌⊎◌, inl, inr, Bool, true, false, not, ◌&&◌, cond, List}
use Rattle.std.proofs.Common.{[], ◌∷◌, ◌++◌, map, length, take, drop, nat_le, refl, sym, ap, subst, ◌∙◌, arith}
use Rattle.std.proofs.Common.{append_assoc, length-append}
use mathlib.Core.Bool.{true≢false}
use Rattle.std.specs.Prelude.{Option, Some, None}
use Rattle.std.specs.List.{list_all}
use Rattle.std.proofs.lemmas.List.{same_from_push, map-append, take-append-drop, length-drop, length_push}
use Rattle.std.proofs.Math.Seq.{drop-append-add}
use Rattle.std.proofs.lemmas.List.Folds.{list_all-append}
use Rattle.std.proofs.lemmas.Bool.Decides.{nat_tests}
use Rattle.ev_types.specs.declared.event.Event.{Event}
use Rattle.ev_types.specs.declared.field.Field.{Field}
use Rattle.ev_types.specs.declared.item.Item.TheVariants.{One, Many}
use Rattle.ev_types.specs.declared.value.Value.{Value}
use Rattle.ev_types.specs.declared.value.Value.TheVariants.{Nil}
use Rattle.ev_types.specs.Field.{field_value}
use Rattle.ev_types.proofs.Values.{same_value_decides}
use Rattle.stream_meaning.specs.History.{History, since, ◌▸◌, Tick, In, begun, moment_of}
use Rattle.stream_meaning.specs.Came.{Timed, events, timed_events}
use Rattle.stream_meaning.specs.Coalesce.{event_of}
use Rattle.stream_meaning.specs.Runs.{holds_value, differs_from, last_value, has_run, run, run_began}
use Rattle.stream_meaning.specs.RunLaws.{all_hold, RunsAreLongest, first_moment, RunsBeginWithTheirFirst}

-- ---- lists from their ends

-- some first items and a last one
pub record Ends {A : Type 0} (xs : List A) : Type 0 where
  pub first : List A
  pub last : A
  pub is : xs ≡ first ++ last ∷ []

with_first : {A : Type 0} (x : A) (xs : List A) → (xs ≡ []) ⊎ Ends xs → (x ∷ xs ≡ []) ⊎ Ends (x ∷ xs)
with_first x xs (inl none) = inr (record { first = []; last = x; is = ap (λ more. x ∷ more) none })
with_first x xs (inr ends) =
    inr (record { first = x ∷ ends.first; last = ends.last; is = ap (λ more. x ∷ more) ends.is })

pub end_of : {A : Type 0} (xs : List A) → (xs ≡ []) ⊎ Ends xs
end_of [] = inl refl
end_of (x ∷ xs) = with_first x xs (end_of xs)

and_left : (s t : Bool) → s && t ≡ true → s ≡ true
and_left true t e = refl
and_left false t e = e

and_right : (s t : Bool) → s && t ≡ true → t ≡ true
and_right true t e = e
and_right false t e = absurd (true≢false (sym e))

both_true : (s t : Bool) → s ≡ true → t ≡ true → s && t ≡ true
both_true true t e f = f
both_true false t e f = e

all_of_first : (p : Event → Bool) (first : List Event) (x : Event) → list_all p (first ++ x ∷ []) ≡ true
    → list_all p first ≡ true
all_of_first p first x e =
    and_left (list_all p first) (list_all p (x ∷ [])) (sym (list_all-append p first (x ∷ [])) ∙ e)

holds_of_last : (p : Event → Bool) (first : List Event) (x : Event) → list_all p (first ++ x ∷ []) ≡ true → p x ≡ true
holds_of_last p first x e =
    and_left (p x) true
    (and_right (list_all p first) (list_all p (x ∷ [])) (sym (list_all-append p first (x ∷ [])) ∙ e))

all_of_more : (p : Event → Bool) (first : List Event) (x : Event) → list_all p first ≡ true → p x ≡ true
    → list_all p (first ++ x ∷ []) ≡ true
all_of_more p first x e f =
    list_all-append p first (x ∷ [])
    ∙ both_true (list_all p first) (list_all p (x ∷ [])) e (both_true (p x) true f refl)

nothing_after : {A : Type 0} (front back : List A) → [] ≡ front ++ back → back ≡ []
nothing_after [] back e = sym e
nothing_after (x ∷ front) back e = cc

-- the last of both parts of a list is the last of the list
split_last : {A : Type 0} (all front back first : List A) (x y : A) → all ++ x ∷ [] ≡ front ++ back
    → back ≡ first ++ y ∷ [] → (all ≡ front ++ first) × (x ≡ y)
split_last all front back first x y e is =
    same_from_push all (front ++ first) x y (e ∙ ap (λ l. front ++ l) is ∙ sym (append_assoc front first (y ∷ [])))

-- ---- the last event

value_is : (field : Field) (value : Value) (event : Event) → holds_value field value event ≡ true
    → field_value event field ≡ value
value_is field value event e = (same_value_decides (field_value event field) value).0 e

is_held : (field : Field) (value : Value) (event : Event) → field_value event field ≡ value
    → holds_value field value event ≡ true
is_held field value event e = (same_value_decides (field_value event field) value).1 e

last_holds : (field : Field) (value : Value) (h : History) (front back : List Event) → events h ≡ front ++ back →
    all_hold field value back →
    (back ≡ []) ⊎ (last_value field None h ≡ Some value)
last_holds field value (since start) front back e same = inl (nothing_after front back e)
last_holds field value (h ▸ Tick) front back e same = last_holds field value h front back e same
last_holds field value (h ▸ In (Many es)) front back e same = last_holds field value h front back e same
last_holds field value (h ▸ In (One event)) front back e same =
    elim (end_of back) [
      | inl none ↦ inl none
      | inr ends ↦
          let parts = split_last (events h) front back ends.first event ends.last e ends.is in
          let held : holds_value field value ends.last ≡ true =
          holds_of_last (holds_value field value) ends.first ends.last (subst (all_hold field value) ends.is same) in
          inr (ap Some (ap (λ last. field_value last field) parts.1 ∙ value_is field value ends.last held))
    ]

-- ---- longest

grows : (d : Bool) (r : List Event) (event : Event) (n : ℕ) → (d ≡ true → n ≡ 0) → n ≤ length r
    → n + 1 ≤ length (cond d (event ∷ []) (r ++ event ∷ []))
grows true r event n f below = let none = f refl in omega arith
grows false r event n f below = omega (arith, length_push r event)

not_held : (field : Field) (value : Value) (event : Event) (kept : Option Value) → kept ≡ Some value
    → holds_value field value event ≡ true → differs_from field kept event ≡ false
not_held field value event kept e held = ap (λ k. differs_from field k event) e ∙ ap not held

none_before : (field : Field) (value : Value) (event : Event) (kept : Option Value) (first : List Event) →
    holds_value field value event ≡ true →
    (first ≡ []) ⊎ (kept ≡ Some value) → differs_from field kept event ≡ true → length first ≡ 0
none_before field value event kept first held (inl none) differs = ap length none
none_before field value event kept first held (inr is) differs =
    absurd (true≢false (sym differs ∙ not_held field value event kept is held))

longest : (field : Field) (h : History) (value : Value) (front back : List Event) → events h ≡ front ++ back
    → all_hold field value back → length back ≤ length (run field h)
longest field (since start) value front back e same = let none = ap length (nothing_after front back e) in omega arith
longest field (h ▸ Tick) value front back e same = longest field h value front back e same
longest field (h ▸ In (Many es)) value front back e same = longest field h value front back e same
longest field (h ▸ In (One event)) value front back e same =
    elim (end_of back) [
      | inl none ↦ let gone = ap length none in omega arith
      | inr ends ↦
          let parts = split_last (events h) front back ends.first event ends.last e ends.is in
          let all : all_hold field value (ends.first ++ ends.last ∷ []) = subst (all_hold field value) ends.is same in
          let rest : all_hold field value ends.first =
          all_of_first (holds_value field value) ends.first ends.last all in
          let held : holds_value field value event ≡ true =
          ap (holds_value field value) parts.1 ∙ holds_of_last (holds_value field value) ends.first ends.last all in
          let before : length ends.first ≤ length (run field h) = longest field h value front ends.first parts.0 rest in
          let size : length back ≡ length ends.first + 1 = ap length ends.is ∙ length_push ends.first ends.last in
          let more : length ends.first + 1 ≤ length (run field (h ▸ In (One event))) =
          grows (differs_from field (last_value field None h) event) (run field h) event (length ends.first)
          (none_before field value event (last_value field None h) ends.first held
          (last_holds field value h front ends.first parts.0 rest))
          before in
          omega arith
    ]

-- ---- a suffix that holds one value

record IsSuffix (all last : List Event) : Type 0 where
  earlier : List Event
  suffix : all ≡ earlier ++ last

suffix_step : (d : Bool) (all last : List Event) (event : Event) → IsSuffix all last
    → IsSuffix (all ++ event ∷ []) (cond d (event ∷ []) (last ++ event ∷ []))
suffix_step true all last event s = record { earlier = all; suffix = refl }
suffix_step false all last event s = record {
  earlier = s.earlier;
  suffix = ap (λ l. l ++ event ∷ []) s.suffix ∙ append_assoc s.earlier last (event ∷ []);
}

run_suffix : (field : Field) (h : History) → IsSuffix (events h) (run field h)
run_suffix field (since start) = record { earlier = []; suffix = refl }
run_suffix field (h ▸ Tick) = run_suffix field h
run_suffix field (h ▸ In (Many es)) = run_suffix field h
run_suffix field (h ▸ In (One event)) =
    suffix_step (differs_from field (last_value field None h) event) (events h) (run field h) event (run_suffix field h)

some_is : {A : Type 0} (x y : A) → Some x ≡ Some y → x ≡ y
some_is x y e = cc

-- what an event that goes on with a run is compared with
goes_on : (field : Field) (value : Value) (event : Event) (kept : Option Value) → field_value event field ≡ value
    → differs_from field kept event ≡ false → kept ≡ Some value
goes_on field value event None is same = absurd (true≢false same)
goes_on field value event (Some other) is same =
    ap Some (sym (value_is field other event (not_false (holds_value field other event) same)) ∙ is)
  where
    not_false : (t : Bool) → not t ≡ false → t ≡ true
    not_false true e = refl
    not_false false e = absurd (true≢false e)

holds_step : (p : Event → Bool) (d : Bool) (r : List Event) (event : Event) → p event ≡ true
    → (d ≡ false → list_all p r ≡ true) → list_all p (cond d (event ∷ []) (r ++ event ∷ [])) ≡ true
holds_step p true r event here f = both_true (p event) true here refl
holds_step p false r event here f = all_of_more p r event (f refl) here

run_holds : (field : Field) (value : Value) (h : History) → last_value field None h ≡ Some value
    → all_hold field value (run field h)
run_holds field value (since start) e = refl
run_holds field value (h ▸ Tick) e = run_holds field value h e
run_holds field value (h ▸ In (Many es)) e = run_holds field value h e
run_holds field value (h ▸ In (One event)) e =
    let is : field_value event field ≡ value = some_is (field_value event field) value e in
    holds_step (holds_value field value) (differs_from field (last_value field None h) event) (run field h) event
    (is_held field value event is)
    (λ same. run_holds field value h (goes_on field value event (last_value field None h) is same))

pub run_empty : (field : Field) (h : History) → last_value field None h ≡ None → run field h ≡ []
run_empty field (since start) e = refl
run_empty field (h ▸ Tick) e = run_empty field h e
run_empty field (h ▸ In (Many es)) e = run_empty field h e
run_empty field (h ▸ In (One event)) e = absurd (cc)

-- the value that a run holds
abbrev value_or : Option Value → Value
value_or None = Nil
value_or (Some value) = value

same_in : (field : Field) (h : History) (kept : Option Value) → last_value field None h ≡ kept
    → all_hold field (value_or kept) (run field h)
same_in field h None e = ap (list_all (holds_value field Nil)) (run_empty field h e)
same_in field h (Some value) e = run_holds field value h e

pub runs_are_longest : RunsAreLongest
runs_are_longest field h =
    let part = run_suffix field h in
    record {
      earlier = part.earlier;
      suffix = part.suffix;
      value = value_or (last_value field None h);
      same = same_in field h (last_value field None h) refl;
      longest = longest field h;
    }

-- ---- the first of a run

pub run_there : (field : Field) (h : History) (value : Value) → last_value field None h ≡ Some value → run field h ≡ []
    → ⊥
run_there field (since start) value e none = cc
run_there field (h ▸ Tick) value e none = run_there field h value e none
run_there field (h ▸ In (Many es)) value e none = run_there field h value e none
run_there field (h ▸ In (One event)) value e none =
    there (differs_from field (last_value field None h) event) (run field h) event none
  where
    there : (d : Bool) (r : List Event) (event : Event) → cond d (event ∷ []) (r ++ event ∷ []) ≡ [] → ⊥
    there true r event none = cc
    there false [] event none = cc
    there false (x ∷ r) event none = cc

first_kept : (start : ℕ) (last : List Timed) (timed : Timed) → (last ≡ [] → ⊥)
    → first_moment start (last ++ timed ∷ []) ≡ first_moment start last
first_kept start [] timed there = absurd (there refl)
first_kept start (first ∷ more) timed there = refl

-- the parts of `RunBegins` over plain lists
record Begins (start : ℕ) (came : List Timed) (es : List Event) (began : ℕ) : Type 0 where
  earlier : List Timed
  last : List Timed
  suffix : came ≡ earlier ++ last
  events_are : map event_of last ≡ es
  first_is : began ≡ first_moment start last

begins_step : (d : Bool) (start now began : ℕ) (came : List Timed) (es : List Event) (event : Event) →
    Begins start came es began → (d ≡ false → es ≡ [] → ⊥) →
    Begins start (came ++ record { event = event; at = now } ∷ []) (cond d (event ∷ []) (es ++ event ∷ []))
    (cond d now began)
begins_step true start now began came es event b there = record {
  earlier = came;
  last = record { event = event; at = now } ∷ [];
  suffix = refl;
  events_are = refl;
  first_is = refl;
}
begins_step false start now began came es event b there =
    let timed : Timed = record { event = event; at = now } in
    record {
      earlier = b.earlier;
      last = b.last ++ timed ∷ [];
      suffix = ap (λ l. l ++ timed ∷ []) b.suffix ∙ append_assoc b.earlier b.last (timed ∷ []);
      events_are = map-append event_of b.last (timed ∷ []) ∙ ap (λ l. l ++ event ∷ []) b.events_are;
      first_is =
          b.first_is
          ∙ sym (first_kept start b.last timed (λ none. there refl (sym b.events_are ∙ ap (map event_of) none)));
    }

still_there : (field : Field) (h : History) (event : Event) (kept : Option Value) → last_value field None h ≡ kept
    → differs_from field kept event ≡ false → run field h ≡ [] → ⊥
still_there field h event None e same none = true≢false same
still_there field h event (Some value) e same none = run_there field h value e none

run_begins : (field : Field) (h : History) → Begins (begun h) (timed_events h) (run field h) (run_began field h)
run_begins field (since start) = record { earlier = []; last = []; suffix = refl; events_are = refl; first_is = refl }
run_begins field (h ▸ Tick) = run_begins field h
run_begins field (h ▸ In (Many es)) = run_begins field h
run_begins field (h ▸ In (One event)) =
    begins_step (differs_from field (last_value field None h) event) (begun h) (moment_of h) (run_began field h)
    (timed_events h) (run field h) event (run_begins field h)
    (still_there field h event (last_value field None h) refl)

pub runs_begin_with_their_first : RunsBeginWithTheirFirst
runs_begin_with_their_first field h =
    let b = run_begins field h in
    record { earlier = b.earlier; last = b.last; suffix = b.suffix; events_are = b.events_are; began = b.first_is }

-- ---- the test of `runs`

in_back : (p : Event → Bool) (n : ℕ) (es : List Event) → list_all p es ≡ true → list_all p (drop n es) ≡ true
in_back p zero es e = e
in_back p (suc n) [] e = e
in_back p (suc n) (x ∷ es) e = in_back p n es (and_right (p x) (list_all p es) e)

same_test : (s t : Bool) → (s ≡ true → t ≡ true) → (t ≡ true → s ≡ true) → s ≡ t
same_test true t f g = sym (f refl)
same_test false true f g = g refl
same_test false false f g = refl

le_true : (m n : ℕ) → m ≤ n → nat_le m n ≡ true
le_true m n below = grind (arith, nat_tests)

true_le : (m n : ℕ) → nat_le m n ≡ true → m ≤ n
true_le m n e = grind (arith, nat_tests)

-- n that hold the same are within the run
within_run : (n : ℕ) (field : Field) (value : Value) (h : History) → has_run n field value (events h) ≡ true
    → n ≤ length (run field h)
within_run n field value h e =
    let es = events h in
    let k : ℕ = length es - n in
    let enough : n ≤ length es =
    true_le n (length es) (and_left (nat_le n (length es)) (list_all (holds_value field value) (drop k es)) e) in
    let all : all_hold field value (drop k es) =
    and_right (nat_le n (length es)) (list_all (holds_value field value) (drop k es)) e in
    let size : length (drop k es) ≡ length es - k = length-drop k es in
    let bound : length (drop k es) ≤ length (run field h) =
    longest field h value (take k es) (drop k es) (sym (take-append-drop k es)) all in
    omega arith

-- and a run holds one value, also in its last n
holds_run : (n : ℕ) (field : Field) (value : Value) (h : History) → last_value field None h ≡ Some value →
    n ≤ length (run field h) →
    has_run n field value (events h) ≡ true
holds_run n field value h is enough =
    let es = events h in
    let r = run field h in
    let part = run_suffix field h in
    let size : length es ≡ length part.earlier + length r = ap length part.suffix ∙ length-append part.earlier r in
    let k : length es - n ≡ length part.earlier + (length r - n) = omega arith in
    let back : drop (length es - n) es ≡ drop (length r - n) r =
    ap (λ m. drop m es) k ∙ ap (drop (length part.earlier + (length r - n))) part.suffix
    ∙ drop-append-add part.earlier r (length r - n) in
    both_true (nat_le n (length es)) (list_all (holds_value field value) (drop (length es - n) es))
    (le_true n (length es) (omega arith))
    (ap (list_all (holds_value field value)) back
    ∙ in_back (holds_value field value) (length r - n) r (run_holds field value h is))

pub has_run-length : (n : ℕ) (field : Field) (value : Value) (h : History) → last_value field None h ≡ Some value →
    has_run n field value (events h) ≡ nat_le n (length (run field h))
has_run-length n field value h is =
    same_test (has_run n field value (events h)) (nat_le n (length (run field h)))
    (λ e. le_true n (length (run field h)) (within_run n field value h e))
    (λ e. holds_run n field value h is (true_le n (length (run field h)) e))
