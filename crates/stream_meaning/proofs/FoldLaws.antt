-- The least and the greatest of events by their metrics, the first of those that tie, and the sum within its range.
use Rattle.std.proofs.Common.{◌≡◌, ℤ, pos, negsuc, ◌+ℤ◌, Bool, true, false, cond, List, [], ◌∷◌, ◌++◌, refl, sym, ap}
use Rattle.std.proofs.Common.{subst, ◌∙◌, arith, append_assoc}
use Rattle.std.specs.Prelude.{◌<ℤ◌, ◌≤ℤ◌, int_lt, All, MatchOption}
use Rattle.std.specs.Int.{w64, saturate_signed}
use Rattle.std.proofs.lemmas.Int.{ints}
use Rattle.std.proofs.lemmas.List.{append-nil}
use Rattle.std.proofs.lemmas.List.Elements.{All-nil, All-cons, All-append, All-weaker, All-same}
use Rattle.ev_types.specs.declared.event.Event.{Event}
use Rattle.stream_meaning.specs.Images.{measured, metric_of, sum_of_metrics, least_of, least_event, greatest_of}
use Rattle.stream_meaning.specs.Images.{greatest_event, sum_event}
use Rattle.stream_meaning.specs.FoldLaws.{IsFirstLeast, IsFirstGreatest, MinimumIsTheFirstLeast}
use Rattle.stream_meaning.specs.FoldLaws.{MaximumIsTheFirstGreatest, SumsAdd, least_number, greatest_number, IsHeld}
use Rattle.stream_meaning.specs.FoldLaws.{IsSumOfAll, SumIsHeldToTheRange}

-- ---- least

less_chain : (a b c : ℤ) → a <ℤ b → b ≤ℤ c → a <ℤ c
less_chain a b c p q = omega (arith, ints)

less_at_most : (a b : ℤ) → a <ℤ b → a ≤ℤ b
less_at_most a b p = omega (arith, ints)

is_less : (a b : ℤ) → int_lt a b ≡ true → a <ℤ b
is_less a b e = grind (arith, ints)

is_not_less : (a b : ℤ) → int_lt a b ≡ false → b ≤ℤ a
is_not_less a b e = grind (arith, ints)

-- the first least of the events so far, and one more event
least_more : (t : Bool) (es : List Event) (least event : Event) → int_lt (metric_of event) (metric_of least) ≡ t
    → IsFirstLeast es least → IsFirstLeast (es ++ event ∷ []) (cond t event least)
least_more true es least event e is =
    let less = is_less (metric_of event) (metric_of least) e in
    let over : (other : Event) → metric_of least ≤ℤ metric_of other → metric_of event <ℤ metric_of other =
    λ other p. less_chain (metric_of event) (metric_of least) (metric_of other) less p in
    let all : All (λ (other : Event). metric_of event <ℤ metric_of other) (is.before ++ least ∷ is.after) =
    All-append (λ (other : Event). metric_of event <ℤ metric_of other) is.before (least ∷ is.after)
    (All-weaker (λ (other : Event). metric_of least <ℤ metric_of other)
    (λ (other : Event). metric_of event <ℤ metric_of other)
    (λ other p. over other (less_at_most (metric_of least) (metric_of other) p)) is.before is.first)
    (All-cons (λ (other : Event). metric_of event <ℤ metric_of other) least is.after less
    (All-weaker (λ (other : Event). metric_of least ≤ℤ metric_of other)
    (λ (other : Event). metric_of event <ℤ metric_of other) over is.after is.bound)) in
    record {
      before = es;
      after = [];
      among = refl;
      first =
          All-same (λ (other : Event). metric_of event <ℤ metric_of other) es (is.before ++ least ∷ is.after) is.among
          all;
      bound = All-nil (λ (other : Event). metric_of event ≤ℤ metric_of other);
    }
least_more false es least event e is = record {
  before = is.before;
  after = is.after ++ event ∷ [];
  among =
      ap (λ (all : List Event). all ++ event ∷ []) is.among ∙ append_assoc is.before (least ∷ is.after) (event ∷ []);
  first = is.first;
  bound = All-append (λ (other : Event). metric_of least ≤ℤ metric_of other) is.after (event ∷ []) is.bound
      (All-cons (λ (other : Event). metric_of least ≤ℤ metric_of other) event []
      (is_not_less (metric_of event) (metric_of least) e)
      (All-nil (λ (other : Event). metric_of least ≤ℤ metric_of other)));
}

least_is : (es : List Event) (least : Event) (more : List Event) → IsFirstLeast es least
    → IsFirstLeast (es ++ more) (least_of least more)
least_is es least [] is = subst (λ (all : List Event). IsFirstLeast all least) (sym (append-nil es)) is
least_is es least (event ∷ more) is =
    let next : Event = cond (int_lt (metric_of event) (metric_of least)) event least in
    subst (λ (all : List Event). IsFirstLeast all (least_of next more)) (append_assoc es (event ∷ []) more)
    (least_is (es ++ event ∷ []) next more
    (least_more (int_lt (metric_of event) (metric_of least)) es least event refl is))

least_of_all : (es : List Event) → MatchOption (least_event es) (es ≡ []) (IsFirstLeast es)
least_of_all [] = refl
least_of_all (first ∷ more) = least_is (first ∷ []) first more (record {
  before = [];
  after = [];
  among = refl;
  first = All-nil (λ (other : Event). metric_of first <ℤ metric_of other);
  bound = All-nil (λ (other : Event). metric_of first ≤ℤ metric_of other);
})

pub minimum_is : MinimumIsTheFirstLeast
minimum_is es = least_of_all (measured es)

-- ---- greatest

-- the first greatest of the events so far, and one more event
greatest_more : (t : Bool) (es : List Event) (greatest event : Event)
    → int_lt (metric_of greatest) (metric_of event) ≡ t → IsFirstGreatest es greatest
    → IsFirstGreatest (es ++ event ∷ []) (cond t event greatest)
greatest_more true es greatest event e is =
    let less = is_less (metric_of greatest) (metric_of event) e in
    let under : (other : Event) → metric_of other ≤ℤ metric_of greatest → metric_of other <ℤ metric_of event =
    λ other p. chain (metric_of other) (metric_of greatest) (metric_of event) p less in
    let all : All (λ (other : Event). metric_of other <ℤ metric_of event) (is.before ++ greatest ∷ is.after) =
    All-append (λ (other : Event). metric_of other <ℤ metric_of event) is.before (greatest ∷ is.after)
    (All-weaker (λ (other : Event). metric_of other <ℤ metric_of greatest)
    (λ (other : Event). metric_of other <ℤ metric_of event)
    (λ other p. under other (less_at_most (metric_of other) (metric_of greatest) p)) is.before is.first)
    (All-cons (λ (other : Event). metric_of other <ℤ metric_of event) greatest is.after less
    (All-weaker (λ (other : Event). metric_of other ≤ℤ metric_of greatest)
    (λ (other : Event). metric_of other <ℤ metric_of event) under is.after is.bound)) in
    record {
      before = es;
      after = [];
      among = refl;
      first =
          All-same (λ (other : Event). metric_of other <ℤ metric_of event) es (is.before ++ greatest ∷ is.after)
          is.among all;
      bound = All-nil (λ (other : Event). metric_of other ≤ℤ metric_of event);
    }
  where
    chain : (a b c : ℤ) → a ≤ℤ b → b <ℤ c → a <ℤ c
    chain a b c p q = omega (arith, ints)
greatest_more false es greatest event e is = record {
  before = is.before;
  after = is.after ++ event ∷ [];
  among =
      ap (λ (all : List Event). all ++ event ∷ []) is.among ∙ append_assoc is.before (greatest ∷ is.after) (event ∷ []);
  first = is.first;
  bound = All-append (λ (other : Event). metric_of other ≤ℤ metric_of greatest) is.after (event ∷ []) is.bound
      (All-cons (λ (other : Event). metric_of other ≤ℤ metric_of greatest) event []
      (is_not_less (metric_of greatest) (metric_of event) e)
      (All-nil (λ (other : Event). metric_of other ≤ℤ metric_of greatest)));
}

greatest_is : (es : List Event) (greatest : Event) (more : List Event) → IsFirstGreatest es greatest
    → IsFirstGreatest (es ++ more) (greatest_of greatest more)
greatest_is es greatest [] is = subst (λ (all : List Event). IsFirstGreatest all greatest) (sym (append-nil es)) is
greatest_is es greatest (event ∷ more) is =
    let next : Event = cond (int_lt (metric_of greatest) (metric_of event)) event greatest in
    subst (λ (all : List Event). IsFirstGreatest all (greatest_of next more)) (append_assoc es (event ∷ []) more)
    (greatest_is (es ++ event ∷ []) next more
    (greatest_more (int_lt (metric_of greatest) (metric_of event)) es greatest event refl is))

greatest_of_all : (es : List Event) → MatchOption (greatest_event es) (es ≡ []) (IsFirstGreatest es)
greatest_of_all [] = refl
greatest_of_all (first ∷ more) = greatest_is (first ∷ []) first more (record {
  before = [];
  after = [];
  among = refl;
  first = All-nil (λ (other : Event). metric_of other <ℤ metric_of first);
  bound = All-nil (λ (other : Event). metric_of other ≤ℤ metric_of first);
})

pub maximum_is : MaximumIsTheFirstGreatest
maximum_is es = greatest_of_all (measured es)

-- ---- sum

with_zero : (a : ℤ) → a +ℤ pos 0 ≡ a
with_zero a = omega (arith, ints)

after_zero : (a : ℤ) → a ≡ pos 0 +ℤ a
after_zero a = omega (arith, ints)

sum_assoc : (a b c : ℤ) → a +ℤ (b +ℤ c) ≡ (a +ℤ b) +ℤ c
sum_assoc a b c = omega (arith, ints)

sum_both : (es more : List Event) → sum_of_metrics (es ++ more) ≡ sum_of_metrics es +ℤ sum_of_metrics more
sum_both [] more = after_zero (sum_of_metrics more)
sum_both (event ∷ es) more =
    ap (λ (sum : ℤ). metric_of event +ℤ sum) (sum_both es more)
    ∙ sum_assoc (metric_of event) (sum_of_metrics es) (sum_of_metrics more)

pub sums_add : SumsAdd
sums_add = record { one = λ event. with_zero (metric_of event); both = sum_both }

is_held : (number : ℤ) → IsHeld number (saturate_signed w64 number)
is_held number = record {
  within = λ p q. is_within number p q;
  below = λ p. is_below number p;
  above = λ p. is_above number p;
}
  where
    is_within : (number : ℤ) → least_number ≤ℤ number → number ≤ℤ greatest_number → saturate_signed w64 number ≡ number
    is_within (pos n) p q = grind (arith, ints)
    is_within (negsuc n) p q = grind (arith, ints)

    is_below : (number : ℤ) → number <ℤ least_number → saturate_signed w64 number ≡ least_number
    is_below (pos n) p = grind (arith, ints)
    is_below (negsuc n) p = grind (arith, ints)

    is_above : (number : ℤ) → greatest_number <ℤ number → saturate_signed w64 number ≡ greatest_number
    is_above (pos n) p = grind (arith, ints)
    is_above (negsuc n) p = grind (arith, ints)

sum_of_all : (es : List Event) → MatchOption (sum_event es) (es ≡ []) (IsSumOfAll es)
sum_of_all [] = refl
sum_of_all (first ∷ more) = record {
  first = first;
  more = more;
  among = refl;
  sum = saturate_signed w64 (sum_of_metrics (first ∷ more));
  held = is_held (sum_of_metrics (first ∷ more));
  made = refl;
}

pub sum_is_held : SumIsHeldToTheRange
sum_is_held es = sum_of_all (measured es)
