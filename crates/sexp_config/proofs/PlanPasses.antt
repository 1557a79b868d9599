-- Streams pass as a plan exactly where they are few enough and take what comes.
use Rattle.std.proofs.Common.{inl, inr, ◌≡◌, ◌≤◌, Bool, true, false, not, List, [], ◌∷◌, length, Option, Some, None}
use Rattle.std.proofs.Common.{refl, ap}
use Rattle.std.specs.Prelude.{slice_get}
use Rattle.std.specs.List.{filter, AllByRecursion}
use Rattle.std.specs.Option.{option_map, option_or}
use Rattle.std.proofs.lemmas.Option.{slice_get_cases, slice_get_past}
use Rattle.stream_plan.specs.declared.fault.PlanWhy.TheVariants.{Many, Kind}
use Rattle.stream_plan.specs.Faults.{Placed, preorder_of, kind_of, counts, place_of}
use Rattle.stream_plan.specs.Kinds.{takes}
use Rattle.stream_plan.specs.Sound.{TakesWhatComes}
use Rattle.config_streams.specs.Streams.{Located}
use Rattle.sexp_config.specs.Config.{plan_fault}

pub all_are : {A : Type 0} (P Q : A → Type 0) → ((x : A) → P x → Q x) → (xs : List A) → AllByRecursion P xs
    → AllByRecursion Q xs
all_are P Q turned [] all = tt
all_are P Q turned (x ∷ xs) all = (turned x all.0, all_are P Q turned xs all.1)

pub passes_none : {A : Type 0} (test : A → Bool) (xs : List A) → AllByRecursion (λ x. test x ≡ false) xs
    → slice_get (filter test xs) 0 ≡ None
passes_none test [] all = refl
passes_none test (x ∷ xs) all = rw all.0 (passes_none test xs all.1)

pub not_true : (b : Bool) → b ≡ true → not b ≡ false
not_true b is = rw is refl

filter-all : {A : Type 0} (xs : List A) → filter (λ x. true) xs ≡ xs
filter-all [] = refl
filter-all (x ∷ xs) = ap (λ ys. x ∷ ys) (filter-all xs)

none_passes-at : {A : Type 0} (test : A → Bool) (x : A) (xs : List A) (b : Bool) → test x ≡ b →
    slice_get (filter test (x ∷ xs)) 0 ≡ None →
    (test x ≡ false) × (slice_get (filter test xs) 0 ≡ None)
none_passes-at test x xs true is none = cc
none_passes-at test x xs false is none = (is, rw is at none)

none_passes : {A : Type 0} (test : A → Bool) (xs : List A) → slice_get (filter test xs) 0 ≡ None
    → AllByRecursion (λ x. test x ≡ false) xs
none_passes test [] none = tt
none_passes test (x ∷ xs) none =
    let first = none_passes-at test x xs (test x) refl none in
    (first.0, none_passes test xs first.1)

true_from : (b : Bool) → not b ≡ false → b ≡ true
true_from true is = refl
true_from false is = cc

-- the streams are few enough, and take what comes
pub record Passes (streams : List Placed) : Type 0 where
  pub few : length streams ≤ 4096
  pub taken : AllByRecursion TakesWhatComes streams

few_none : (streams : List Placed) → length streams ≤ 4096 → place_of Many streams ≡ None
few_none streams few = rw (filter-all streams) (slice_get_past streams 4096 few)

none_few : (streams : List Placed) → place_of Many streams ≡ None → length streams ≤ 4096
none_few streams lacking =
    let none : slice_get streams 4096 ≡ None = rw (filter-all streams) at lacking in
    elim (slice_get_cases streams 4096).1 [ inl found ↦ cc | inr past ↦ past.0 ]

taken_none : (streams : List Placed) → AllByRecursion TakesWhatComes streams → place_of Kind streams ≡ None
taken_none streams taken =
    passes_none (counts Kind) streams
    (all_are TakesWhatComes (λ s. counts Kind s ≡ false) (λ s. not_true (takes (kind_of s.tree) s.flow.input)) streams
    taken)

none_taken : (streams : List Placed) → place_of Kind streams ≡ None → AllByRecursion TakesWhatComes streams
none_taken streams none =
    all_are (λ s. counts Kind s ≡ false) TakesWhatComes (λ s. true_from (takes (kind_of s.tree) s.flow.input)) streams
    (none_passes (counts Kind) streams none)

map_none : {A B : Type 0} (f : A → B) (found : Option A) → option_map f found ≡ None → found ≡ None
map_none f None is = refl
map_none f (Some a) is = cc

both_none : {A : Type 0} (first second : Option A) → option_or first second ≡ None → (first ≡ None) × (second ≡ None)
both_none None second is = (refl, is)
both_none (Some a) second is = cc

pub passes : (located : Located) → Passes (preorder_of located.streams) → plan_fault located ≡ None
unfolding plan_fault
passes located known =
    rw (few_none (preorder_of located.streams) known.few, taken_none (preorder_of located.streams) known.taken) refl

pub passed : (located : Located) → plan_fault located ≡ None → Passes (preorder_of located.streams)
unfolding plan_fault
passed located none =
    let all = preorder_of located.streams in
    let both = both_none _ _ none in
    record {
      few = none_few all (map_none _ (place_of Many all) both.0);
      taken = none_taken all (map_none _ (place_of Kind all) both.1);
    }
