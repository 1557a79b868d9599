-- There is no fault exactly where each stream is without it.
use Rattle.std.proofs.Common.{inl, inr, ◌≡◌, ◌≤◌, Bool, true, false, not, ◌||◌, List, [], ◌∷◌, length, Option, Some}
use Rattle.std.proofs.Common.{None, refl, ap}
use Rattle.std.specs.Prelude.{slice_get}
use Rattle.std.specs.List.{filter, AllByRecursion}
use Rattle.std.specs.Option.{option_map, option_or}
use Rattle.std.proofs.lemmas.Bool.{le-ltb, ltb-false}
use Rattle.std.proofs.lemmas.Option.{slice_get_cases, slice_get_past}
use Rattle.stream_plan.specs.declared.fault.PlanWhy.{PlanWhy}
use Rattle.stream_plan.specs.declared.fault.PlanWhy.TheVariants.{Many, Deep, Children, Range, Kind}
use Rattle.stream_plan.specs.Faults.{Placed, Fault, preorder_of, kind_of, counts, ends_in_fork, place_of, fault_for}
use Rattle.stream_plan.specs.Faults.{first_fault}
use Rattle.stream_plan.specs.Kinds.{takes, is_in_range}
use Rattle.stream_plan.specs.Sound.{IsSound, IsShallow, IsInRange, IsEndlessInForks, TakesWhatComes}
use Rattle.stream_plan.specs.Sound.{SoundPlansHaveNoFault}
use Rattle.stream_plan.specs.Tree.{StreamTrees}

all_are : {A : Type 0} (P Q : A → Type 0) → ((x : A) → P x → Q x) → (xs : List A) → AllByRecursion P xs
    → AllByRecursion Q xs
all_are P Q turned [] all = tt
all_are P Q turned (x ∷ xs) all = (turned x all.0, all_are P Q turned xs all.1)

-- ---- the first that passes a test

none_passes-at : {A : Type 0} (test : A → Bool) (x : A) (xs : List A) (b : Bool) → test x ≡ b →
    slice_get (filter test (x ∷ xs)) 0 ≡ None →
    (test x ≡ false) × (slice_get (filter test xs) 0 ≡ None)
none_passes-at test x xs true is none = cc
none_passes-at test x xs false is none = (is, rw is at none)

none_passes : {A : Type 0} (test : A → Bool) (xs : List A) → slice_get (filter test xs) 0 ≡ None
    → AllByRecursion (λ x. test x ≡ false) xs
none_passes test [] none = tt
none_passes test (x ∷ xs) none =
    let first = none_passes-at test x xs (test x) refl none in
    (first.0, none_passes test xs first.1)

passes_none : {A : Type 0} (test : A → Bool) (xs : List A) → AllByRecursion (λ x. test x ≡ false) xs
    → slice_get (filter test xs) 0 ≡ None
passes_none test [] all = refl
passes_none test (x ∷ xs) all = rw all.0 (passes_none test xs all.1)

filter-all : {A : Type 0} (xs : List A) → filter (λ x. true) xs ≡ xs
filter-all [] = refl
filter-all (x ∷ xs) = ap (λ ys. x ∷ ys) (filter-all xs)

-- ---- a cause has no place

abbrev Lacks : PlanWhy → List Placed → Type 0
Lacks why streams = place_of why streams ≡ None

none_among : (place : Option Placed) (why : PlanWhy)
    → option_map (λ (s : Placed). let f : Fault = record { path = s.path; why = why } in f) place ≡ None → place ≡ None
none_among None why is = refl
none_among (Some s) why is = cc

lacks : (why : PlanWhy) (streams : List Placed) → fault_for why streams ≡ None → Lacks why streams
lacks why streams = none_among (place_of why streams) why

no_fault : (why : PlanWhy) (streams : List Placed) → Lacks why streams → fault_for why streams ≡ None
no_fault why streams is = rw is refl

or_none : {A : Type 0} (first second : Option A) → option_or first second ≡ None → (first ≡ None) × (second ≡ None)
or_none None second is = (refl, is)
or_none (Some x) second is = cc

few_from : (streams : List Placed) → Lacks Many streams → length streams ≤ 4096
few_from streams lacking =
    let none : slice_get streams 4096 ≡ None = rw (filter-all streams) at lacking in
    elim (slice_get_cases streams 4096).1 [ inl found ↦ cc | inr past ↦ past.0 ]

few_lack : (streams : List Placed) → length streams ≤ 4096 → Lacks Many streams
few_lack streams few = rw (filter-all streams) (slice_get_past streams 4096 few)

shallow_from : (s : Placed) → counts Deep s ≡ false → IsShallow s
shallow_from s is = ltb-false 64 (length s.path) is

shallow_lack : (s : Placed) → IsShallow s → counts Deep s ≡ false
shallow_lack s shallow = le-ltb 64 (length s.path) shallow

true_from : (b : Bool) → not b ≡ false → b ≡ true
true_from true is = refl
true_from false is = cc

not_true : (b : Bool) → b ≡ true → not b ≡ false
not_true b is = rw is refl

-- a number is in its range, and forks in forks don't end
neither_from : (a b : Bool) → not a || b ≡ false → (a ≡ true) × (b ≡ false)
neither_from true b is = (refl, is)
neither_from false b is = cc

pub neither : (a b : Bool) → a ≡ true → b ≡ false → not a || b ≡ false
neither a b is off = rw (is, off) refl

pub all_both : {A : Type 0} (P Q R : A → Type 0) → ((x : A) → P x → Q x → R x) → (xs : List A) → AllByRecursion P xs
    → AllByRecursion Q xs → AllByRecursion R xs
all_both P Q R joined [] first second = tt
all_both P Q R joined (x ∷ xs) first second = (
  joined x first.0 second.0,
  all_both P Q R joined xs first.1 second.1,
)

-- ---- all causes

sound_from : (streams : StreamTrees) → first_fault streams ≡ None → IsSound streams
unfolding first_fault
sound_from streams none =
    let all = preorder_of streams in
    let many = or_none (fault_for Many all) _ none in
    let deep = or_none (fault_for Deep all) _ many.1 in
    let children = or_none (fault_for Children all) _ deep.1 in
    let range = or_none (fault_for Range all) (fault_for Kind all) children.1 in
    let ranges = none_passes (counts Range) all (lacks Range all range.0) in
    record {
      few = few_from all (lacks Many all many.0);
      shallow =
          all_are (λ s. counts Deep s ≡ false) IsShallow shallow_from all
          (none_passes (counts Deep) all (lacks Deep all deep.0));
      followed = none_passes (counts Children) all (lacks Children all children.0);
      in_range =
          all_are (λ s. counts Range s ≡ false) IsInRange
          (λ s is. (neither_from (is_in_range (kind_of s.tree)) (ends_in_fork s) is).0) all ranges;
      endless =
          all_are (λ s. counts Range s ≡ false) IsEndlessInForks
          (λ s is. (neither_from (is_in_range (kind_of s.tree)) (ends_in_fork s) is).1) all ranges;
      taken =
          all_are (λ s. counts Kind s ≡ false) TakesWhatComes (λ s. true_from (takes (kind_of s.tree) s.flow.input)) all
          (none_passes (counts Kind) all (lacks Kind all range.1));
    }

sound_lack : (streams : StreamTrees) → IsSound streams → first_fault streams ≡ None
unfolding first_fault
sound_lack streams sound =
    let all = preorder_of streams in
    let many = no_fault Many all (few_lack all sound.few) in
    let deep =
    no_fault Deep all
    (passes_none (counts Deep) all (all_are IsShallow (λ s. counts Deep s ≡ false) shallow_lack all sound.shallow)) in
    let children = no_fault Children all (passes_none (counts Children) all sound.followed) in
    let range =
    no_fault Range all (passes_none (counts Range) all
    (all_both IsInRange IsEndlessInForks (λ s. counts Range s ≡ false)
    (λ s. neither (is_in_range (kind_of s.tree)) (ends_in_fork s)) all sound.in_range sound.endless)) in
    let kind =
    no_fault Kind all (passes_none (counts Kind) all
    (all_are TakesWhatComes (λ s. counts Kind s ≡ false) (λ s. not_true (takes (kind_of s.tree) s.flow.input)) all
    sound.taken)) in
    rw (many, deep, children, range, kind) refl

pub faultless_is_sound : SoundPlansHaveNoFault
faultless_is_sound streams = (sound_from streams, sound_lack streams)
