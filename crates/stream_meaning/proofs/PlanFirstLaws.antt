-- The deadline of a plan is the first and the least, and a plan without faults has its numbers in their ranges.
use Rattle.std.proofs.Common.{◌≡◌, ℕ, zero, suc, ◌+◌, ◌<◌, ◌≤◌, ◌⊎◌, inl, inr, min, Bool, true, false, ◌&&◌, cond}
use Rattle.std.proofs.Common.{nat_le, List, [], ◌∷◌, ◌++◌, map, Option, Some, None, refl, sym, ap, subst, ◌∙◌, arith}
use mathlib.Core.Bool.{true≢false}
use Rattle.std.specs.Prelude.{IfSome, Contains}
use Rattle.std.specs.List.{AllByRecursion, flat_map}
use Rattle.std.proofs.lemmas.Bool.Decides.{nat_tests}
use Rattle.std.proofs.Math.ListN.{get_or-map}
use Rattle.std.proofs.lemmas.List.{length-map}
use Rattle.std.proofs.lemmas.List.Elements.{All-nil, All-cons, All-append, All-map, All-weaker, Contains-append_left}
use Rattle.std.proofs.lemmas.List.Elements.{Contains-append_right, Contains-push}
use Rattle.stream_plan.specs.Faults.{preorder_at, preorder_in, count_of}
use Rattle.stream_plan.specs.Kinds.{passes_on, is_in_range, is_count, is_secs}
use Rattle.stream_plan.specs.Sound.{IsInRange}
use Rattle.stream_plan.specs.Tree.{KindTree, By, Rollup, Batch, Coalesce, StreamTree, StreamTrees, stream, none, also}
use Rattle.stream_plan.proofs.SoundLaws.{faultless_is_sound}
use Rattle.stream_meaning.specs.History.{History, moment_of, is_at}
use Rattle.stream_meaning.specs.Emission.{Branch, Children, Otherwise, Fork}
use Rattle.stream_meaning.specs.Branches.{child_history, branches}
use Rattle.stream_meaning.specs.Deadlines.{next_deadline, branch_end, until, earlier, earliest, deadline_of}
use Rattle.stream_meaning.specs.Deadlines.{stream_deadline, plan_deadline}
use Rattle.stream_meaning.specs.DeadlineLaws.{HasRange, waited}
use Rattle.stream_meaning.specs.DueLaws.{HasStreamRanges, HasRanges, IsPlanStill, PlanDeadlinesAreFirst, deadlines_of}
use Rattle.stream_meaning.specs.DueLaws.{stream_deadlines, plan_deadlines, IsEarliest, PlanDeadlinesAreEarliest}
use Rattle.stream_meaning.specs.DueLaws.{FaultlessPlansHaveRanges, FaultlessPlansMeetDeadlines}
use Rattle.stream_meaning.proofs.StayLaws.{moment-waited}
use Rattle.stream_meaning.proofs.PlanDueLaws.{plan_ahead, plan_met, plan_stays}

-- ---- first

plan-waited : (plan : StreamTrees) (h : History) (n : ℕ) → HasRanges plan → IsPlanStill plan h n
    → plan_deadline plan (waited n h) ≡ plan_deadline plan h
plan-waited plan h zero ranges still = refl
plan-waited plan h (suc n) ranges still =
    plan_stays plan (waited n h) ranges (still n (omega arith))
    ∙ plan-waited plan h n ranges (λ k below. still k (omega arith))

pub plan_first : PlanDeadlinesAreFirst
plan_first plan h n ranges still =
    plan_met plan (waited n h) ranges
    ∙ ap (λ m. is_at (m + 1) (plan_deadline plan (waited n h))) (moment-waited n h)
    ∙ ap (is_at (moment_of h + n + 1)) (plan-waited plan h n ranges still)

-- ---- least

abbrev IsFrom : ℕ → Option ℕ → Type 0
IsFrom first deadline = IfSome deadline (λ moment. first ≤ moment)

nothing_from : (first : ℕ) (deadline : Option ℕ) → deadline ≡ None → IsFrom first deadline
nothing_from first deadline is = subst (IsFrom first) (sym is) tt

from_less : (a b : ℕ) → a ≤ b → (deadline : Option ℕ) → IsFrom b deadline → IsFrom a deadline
from_less a b below None from = tt
from_less a b below (Some moment) from = omega arith

earliest_append : (xs ys : List (Option ℕ)) (a b : Option ℕ) → IsEarliest xs a → IsEarliest ys b
    → IsEarliest (xs ++ ys) (earlier a b)
earliest_append xs ys None None p q = All-append (λ (d : Option ℕ). d ≡ None) xs ys p q
earliest_append xs ys None (Some b) p q = (
  Contains-append_right xs ys (Some b) q.0,
  All-append (IsFrom b) xs ys (All-weaker (λ (d : Option ℕ). d ≡ None) (IsFrom b) (nothing_from b) xs p) q.1,
)
earliest_append xs ys (Some a) None p q = (
  Contains-append_left xs ys (Some a) p.0,
  All-append (IsFrom a) xs ys p.1 (All-weaker (λ (d : Option ℕ). d ≡ None) (IsFrom a) (nothing_from a) ys q),
)
earliest_append xs ys (Some a) (Some b) p q =
    let side : ((min a b ≡ a) × (a ≤ b)) ⊎ ((min a b ≡ b) × (b ≤ a)) = grind arith in
    elim side [
      | inl here ↦
          subst (λ (m : ℕ). IsEarliest (xs ++ ys) (Some m)) (sym here.0) (
            Contains-append_left xs ys (Some a) p.0,
            All-append (IsFrom a) xs ys p.1 (All-weaker (IsFrom b) (IsFrom a) (from_less a b here.1) ys q.1),
          )
      | inr later ↦
          subst (λ (m : ℕ). IsEarliest (xs ++ ys) (Some m)) (sym later.0) (
            Contains-append_right xs ys (Some b) q.0,
            All-append (IsFrom b) xs ys (All-weaker (IsFrom a) (IsFrom b) (from_less b a later.1) xs p.1) q.1,
          )
    ]

own_earliest : (deadline : Option ℕ) → IsEarliest (deadline ∷ []) deadline
own_earliest None = All-cons (λ (d : Option ℕ). d ≡ None) None [] refl (All-nil (λ (d : Option ℕ). d ≡ None))
own_earliest (Some moment) =
    (Contains-push [] (Some moment), All-cons (IsFrom moment) (Some moment) [] (omega arith) (All-nil (IsFrom moment)))

branches_earliest : (lists : Branch → List (Option ℕ)) (deadline : Branch → Option ℕ) →
    ((branch : Branch) → IsEarliest (lists branch) (deadline branch)) → (bs : List Branch) →
    IsEarliest (flat_map lists bs) (earliest (map deadline bs))
branches_earliest lists deadline each [] = All-nil (λ (d : Option ℕ). d ≡ None)
branches_earliest lists deadline each (branch ∷ bs) =
    earliest_append (lists branch) (flat_map lists bs) (deadline branch) (earliest (map deadline bs)) (each branch)
    (branches_earliest lists deadline each bs)

abbrev AreEarliest : (History → List (Option ℕ)) → (History → Option ℕ) → Type 0
AreEarliest lists deadline = (h : History) → IsEarliest (lists h) (deadline h)

branch_earliest : (cs os : History → List (Option ℕ)) (c o : History → Option ℕ) → AreEarliest cs c → AreEarliest os o
    → (branch : Branch) → AreEarliest (deadlines_of cs os branch) (deadline_of c o branch)
branch_earliest cs os c o p q Children = p
branch_earliest cs os c o p q Otherwise = q
branch_earliest cs os c o p q (Fork fork) = p

map_all : (xs : List (Option ℕ)) → map (until None) xs ≡ xs
map_all [] = refl
map_all (first ∷ xs) = ap (λ l. first ∷ l) (map_all xs)

contains_map : (f : Option ℕ → Option ℕ) (xs : List (Option ℕ)) (x : Option ℕ) → Contains xs x
    → Contains (map f xs) (f x)
contains_map f xs x there =
    (there.0, subst (λ (n : ℕ). there.0 < n) (sym (length-map xs f)) there.1, get_or-map f xs there.0 x ∙ ap f there.2)

until_from : (end moment : ℕ) (deadline : Option ℕ) → IsFrom moment deadline → IsFrom moment (until (Some end) deadline)
until_from end moment None from = tt
until_from end moment (Some other) from = step (nat_le other end)
  where
    step : (t : Bool) → IsFrom moment (cond t (Some other) None)
    step true = from
    step false = tt

until_after : (end moment : ℕ) (deadline : Option ℕ) → nat_le moment end ≡ false → IsFrom moment deadline
    → until (Some end) deadline ≡ None
until_after end moment None late from = refl
until_after end moment (Some other) late from = ap (λ t. cond t (Some other) None) (past other from)
  where
    past : (other : ℕ) → moment ≤ other → nat_le other end ≡ false
    past other from = grind (arith, nat_tests)

-- of deadlines up to an end the earliest is that of all, if that is not after it
earliest_until : (end : Option ℕ) (xs : List (Option ℕ)) (first : Option ℕ) → IsEarliest xs first
    → IsEarliest (map (until end) xs) (until end first)
earliest_until None xs first is = subst (λ (l : List (Option ℕ)). IsEarliest l first) (sym (map_all xs)) is
earliest_until (Some end) xs None is =
    All-map (λ (d : Option ℕ). d ≡ None) (until (Some end)) xs
    (All-weaker (λ (d : Option ℕ). d ≡ None) (λ (d : Option ℕ). until (Some end) d ≡ None)
    (λ d none. ap (until (Some end)) none) xs is)
earliest_until (Some end) xs (Some moment) is = step (nat_le moment end) refl
  where
    step : (t : Bool) → nat_le moment end ≡ t → IsEarliest (map (until (Some end)) xs) (cond t (Some moment) None)
    step true e = (
      subst (Contains (map (until (Some end)) xs)) (ap (λ t. cond t (Some moment) None) e)
          (contains_map (until (Some end)) xs (Some moment) is.0),
      All-map (IsFrom moment) (until (Some end)) xs
          (All-weaker (IsFrom moment) (λ (d : Option ℕ). IsFrom moment (until (Some end) d)) (until_from end moment) xs
          is.1),
    )
    step false e =
        All-map (λ (d : Option ℕ). d ≡ None) (until (Some end)) xs
        (All-weaker (IsFrom moment) (λ (d : Option ℕ). until (Some end) d ≡ None) (λ d. until_after end moment d e) xs
        is.1)

mutual
  stream_earliest : (s : StreamTree) (h : History) → IsEarliest (stream_deadlines s h) (stream_deadline s h)
  stream_earliest (stream kind children otherwise) h =
      let all =
      λ (branch : Branch).
      deadlines_of (plan_deadlines children) (plan_deadlines otherwise) branch (child_history kind branch h) in
      let least =
      λ (branch : Branch).
      deadline_of (plan_deadline children) (plan_deadline otherwise) branch (child_history kind branch h) in
      let lists = λ (branch : Branch). map (until (branch_end kind branch h)) (all branch) in
      let deadline = λ (branch : Branch). until (branch_end kind branch h) (least branch) in
      earliest_append (next_deadline kind h ∷ []) (flat_map lists (branches kind h)) (next_deadline kind h)
      (earliest (map deadline (branches kind h)))
      (own_earliest (next_deadline kind h))
      (branches_earliest lists deadline
      (λ branch. earliest_until (branch_end kind branch h) (all branch) (least branch)
      (branch_earliest (plan_deadlines children) (plan_deadlines otherwise) (plan_deadline children)
      (plan_deadline otherwise) (λ g. plan_earliest children g) (λ g. plan_earliest otherwise g) branch
      (child_history kind branch h)))
      (branches kind h))

  pub plan_earliest : (plan : StreamTrees) (h : History) → IsEarliest (plan_deadlines plan h) (plan_deadline plan h)
  plan_earliest none h = All-nil (λ (d : Option ℕ). d ≡ None)
  plan_earliest (also first more) h =
      earliest_append (stream_deadlines first h) (plan_deadlines more h) (stream_deadline first h)
      (plan_deadline more h) (stream_earliest first h) (plan_earliest more h)

pub deadlines_earliest : PlanDeadlinesAreEarliest
deadlines_earliest = plan_earliest

-- ---- ranges

and_both : (s t : Bool) → s && t ≡ true → (s ≡ true) × (t ≡ true)
and_both true t e = (refl, e)
and_both false t e = absurd (true≢false (sym e))

positive : (n most : ℕ) → nat_le 1 n && nat_le n most ≡ true → 0 < n
positive n most e = let parts = and_both (nat_le 1 n) (nat_le n most) e in above (parts.0)
  where
    above : nat_le 1 n ≡ true → 0 < n
    above is = grind (arith, nat_tests)

kind_range : (kind : KindTree) → is_in_range kind ≡ true → HasRange kind
kind_range (By fields None) e = tt
kind_range (By fields (Some secs)) e = positive secs _ e
kind_range (Rollup n secs) e =
    let parts = and_both (is_count n) (is_secs secs) e in (positive n _ parts.0, positive secs _ parts.1)
kind_range (Batch n secs) e = let parts = and_both (is_count n) (is_secs secs) e in positive secs _ parts.1
kind_range (Coalesce secs) e = positive secs _ e
kind_range kind e = tt

split : {A : Type 0} (P : A → Type 0) (xs ys : List A) → AllByRecursion P (xs ++ ys)
    → AllByRecursion P xs × AllByRecursion P ys
split P [] ys all = (tt, all)
split P (x ∷ xs) ys all =
    let parts = split P xs ys all.1 in
    ((all.0, parts.0), parts.1)

mutual
  unfolding preorder_at preorder_in

  ranges_at : (path : List ℕ) (flow : _) (s : StreamTree) → AllByRecursion IsInRange (preorder_at path flow s)
      → HasStreamRanges s
  ranges_at path flow (stream kind children otherwise) all =
      let parts =
      split IsInRange (preorder_in path 0 (passes_on kind flow) children)
      (preorder_in path (count_of children) (passes_on kind flow) otherwise) all.1 in (
        kind_range kind all.0,
        ranges_in path 0 (passes_on kind flow) children parts.0,
        ranges_in path (count_of children) (passes_on kind flow) otherwise parts.1,
      )

  ranges_in : (path : List ℕ) (number : ℕ) (flow : _) (streams : StreamTrees)
      → AllByRecursion IsInRange (preorder_in path number flow streams) → HasRanges streams
  ranges_in path number flow none all = tt
  ranges_in path number flow (also s streams) all =
      let parts =
      split IsInRange (preorder_at (path ++ number ∷ []) flow s) (preorder_in path (number + 1) flow streams) all in
      (ranges_at (path ++ number ∷ []) flow s parts.0, ranges_in path (number + 1) flow streams parts.1)

pub faultless_ranges : FaultlessPlansHaveRanges
faultless_ranges plan faultless = ranges_in [] 0 _ plan ((faultless_is_sound plan).0 faultless).in_range

pub faultless_deadlines : FaultlessPlansMeetDeadlines
faultless_deadlines plan faultless =
    let ranges = faultless_ranges plan faultless in
    record { ahead = λ h. plan_ahead plan h ranges; first = λ h n still. plan_first plan h n ranges still }
