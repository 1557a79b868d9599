-- Numbers that are put in order rise, and are those that were put.
use Rattle.std.proofs.Common.{◌≡◌, ℕ, ◌<◌, ◌⊎◌, inl, inr, List, [], ◌∷◌, refl, sym, subst, arith}
use Rattle.std.specs.Prelude.{fold, Contains}
use Rattle.std.specs.BTreeSet.{insert_key}
use Rattle.std.specs.List.{AllByRecursion, flat_map}
use Rattle.std.specs.List.Sorted.{IsStrictlySortedBy}
use Rattle.std.proofs.Common.{Ordering, Less, Equal, Greater}
use Rattle.std.specs.Ordering.{nat_cmp, match_ordering, MatchOrdering}
use Rattle.std.specs.Cmp.{nat_cmp_is}
use Rattle.std.proofs.lemmas.Cmp.{ranked}
use Rattle.std.proofs.lemmas.List.Elements.{Contains-append_left, Contains-append_right, Contains-append_cases}
use Rattle.std.proofs.lemmas.List.Elements.{Contains-push, Contains-push_cases}
use Rattle.std.proofs.lemmas.Map.Keys.{IsStrictlyIncreasing-from_sorted}
use Rattle.ports.specs.declared.script.LinkEvent.{LinkEvent}
use Rattle.ports.specs.declared.script.LinkEvent.TheVariants as event
use Rattle.ports.specs.declared.script.Step.{Step}
use Rattle.ports.specs.declared.script.Step.TheVariants.{Turn, Take, Fail}
use Rattle.script_text.specs.LinkLines.{number_in, rising, opened_numbers}
use Rattle.script_text.specs.NumberLaws.{IsOpenedIn, NumbersAreThoseOpened, NumbersRise}

-- ---- members

in_nothing : {A : Type 0} (x : A) → Contains [] x → ⊥
in_nothing x there = let within = there.1 in omega arith

here : {A : Type 0} (x : A) (xs : List A) → Contains (x ∷ xs) x
here x xs = Contains-append_left (x ∷ []) xs x (Contains-push [] x)

later : {A : Type 0} (y : A) (xs : List A) (x : A) → Contains xs x → Contains (y ∷ xs) x
later y xs x there = Contains-append_right (y ∷ []) xs x there

in_one : {A : Type 0} (y x : A) → Contains (y ∷ []) x → y ≡ x
in_one y x there = elim (Contains-push_cases [] y x there) [ inl none ↦ absurd (in_nothing x none) | inr is ↦ is ]

first_or_later : {A : Type 0} (y : A) (xs : List A) (x : A) → Contains (y ∷ xs) x → (y ≡ x) ⊎ Contains xs x
first_or_later y xs x there =
    elim (Contains-append_cases (y ∷ []) xs x there) [ inl one ↦ inl (in_one y x one) | inr more ↦ inr more ]

or_more : {A B C : Type 0} → (B → C) → A ⊎ B → A ⊎ C
or_more f (inl a) = inl a
or_more f (inr b) = inr (f b)

-- ---- one number more

inserted_step : (o : Ordering) (k x q : ℕ) (xs put : List ℕ) → MatchOrdering o (k < x) (k ≡ x) (x < k) →
    (Contains put q → (k ≡ q) ⊎ Contains xs q) →
    Contains (match_ordering o (k ∷ x ∷ xs) (x ∷ xs) (x ∷ put)) q → (k ≡ q) ⊎ Contains (x ∷ xs) q
inserted_step Less k x q xs put is more there = first_or_later k (x ∷ xs) q there
inserted_step Equal k x q xs put is more there = inr there
inserted_step Greater k x q xs put is more there =
    elim (first_or_later x put q there) [
      | inl first ↦ inr (subst (Contains (x ∷ xs)) first (here x xs))
      | inr among ↦ or_more (later x xs q) (more among)
    ]

from_inserted : (k q : ℕ) (xs : List ℕ) → Contains (insert_key nat_cmp xs k) q → (k ≡ q) ⊎ Contains xs q
from_inserted k q [] there = inl (in_one k q there)
from_inserted k q (x ∷ xs) there =
    inserted_step (nat_cmp k x) k x q xs (insert_key nat_cmp xs k) (ranked k x (nat_cmp k x) refl)
    (from_inserted k q xs) there

insert_step : (o : Ordering) (k x q : ℕ) (xs put : List ℕ) → MatchOrdering o (k < x) (k ≡ x) (x < k) →
    ((k ≡ q) ⊎ Contains xs q → Contains put q) →
    (k ≡ q) ⊎ Contains (x ∷ xs) q → Contains (match_ordering o (k ∷ x ∷ xs) (x ∷ xs) (x ∷ put)) q
insert_step Less k x q xs put is more (inl new) = subst (Contains (k ∷ x ∷ xs)) new (here k (x ∷ xs))
insert_step Less k x q xs put is more (inr there) = later k (x ∷ xs) q there
insert_step Equal k x q xs put is more (inl new) =
    subst (λ (n : ℕ). Contains (n ∷ xs) q) is (subst (Contains (k ∷ xs)) new (here k xs))
insert_step Equal k x q xs put is more (inr there) = there
insert_step Greater k x q xs put is more (inl new) = later x put q (more (inl new))
insert_step Greater k x q xs put is more (inr there) =
    elim (first_or_later x xs q there) [
      | inl first ↦ subst (Contains (x ∷ put)) first (here x put)
      | inr among ↦ later x put q (more (inr among))
    ]

to_inserted : (k q : ℕ) (xs : List ℕ) → (k ≡ q) ⊎ Contains xs q → Contains (insert_key nat_cmp xs k) q
to_inserted k q [] (inl new) = subst (Contains (k ∷ [])) new (here k [])
to_inserted k q [] (inr there) = absurd (in_nothing q there)
to_inserted k q (x ∷ xs) either =
    insert_step (nat_cmp k x) k x q xs (insert_key nat_cmp xs k) (ranked k x (nat_cmp k x) refl) (to_inserted k q xs)
    either

-- ---- all numbers

from_put : (numbers before : List ℕ) (q : ℕ) → Contains (fold (insert_key nat_cmp) before numbers) q
    → Contains before q ⊎ Contains numbers q
from_put [] before q there = inl there
from_put (k ∷ numbers) before q there =
    elim (from_put numbers (insert_key nat_cmp before k) q there) [
      | inl was ↦
          elim (from_inserted k q before was)
          [ inl new ↦ inr (subst (Contains (k ∷ numbers)) new (here k numbers)) | inr old ↦ inl old ]
      | inr more ↦ inr (later k numbers q more)
    ]

to_put : (numbers before : List ℕ) (q : ℕ) → Contains before q ⊎ Contains numbers q
    → Contains (fold (insert_key nat_cmp) before numbers) q
to_put [] before q (inl was) = was
to_put [] before q (inr none) = absurd (in_nothing q none)
to_put (k ∷ numbers) before q (inl was) =
    to_put numbers (insert_key nat_cmp before k) q (inl (to_inserted k q before (inr was)))
to_put (k ∷ numbers) before q (inr there) =
    elim (first_or_later k numbers q there) [
      | inl new ↦ to_put numbers (insert_key nat_cmp before k) q (inl (to_inserted k q before (inl new)))
      | inr more ↦ to_put numbers (insert_key nat_cmp before k) q (inr more)
    ]

-- ---- the numbers of a line and of all lines

from_event : (secs q : ℕ) (happens : LinkEvent) → Contains (number_in (Turn secs happens)) q → happens ≡ event.Opened q
from_event secs q event.Idle there = absurd (in_nothing q there)
from_event secs q (event.Opened link) there = let is = in_one link q there in rw is refl
from_event secs q (event.Read link piece) there = absurd (in_nothing q there)
from_event secs q (event.Ended link) there = absurd (in_nothing q there)
from_event secs q (event.Broken link) there = absurd (in_nothing q there)
from_event secs q (event.Room link) there = absurd (in_nothing q there)

opened_here : (step : Step) (steps : List Step) (q : ℕ) → Contains (number_in step) q → IsOpenedIn (step ∷ steps) q
opened_here (Turn secs happens) steps q there = record {
  secs = secs;
  turn =
      subst (λ (other : LinkEvent). Contains (Turn secs happens ∷ steps) (Turn secs other))
      (from_event secs q happens there) (here (Turn secs happens) steps);
}
opened_here (Take link count) steps q there = absurd (in_nothing q there)
opened_here (Fail link) steps q there = absurd (in_nothing q there)

opened_later : (step : Step) (steps : List Step) (q : ℕ) → IsOpenedIn steps q → IsOpenedIn (step ∷ steps) q
opened_later step steps q opened =
    record { secs = opened.secs; turn = later step steps (Turn opened.secs (event.Opened q)) opened.turn }

from_steps : (steps : List Step) (q : ℕ) → Contains (flat_map number_in steps) q → IsOpenedIn steps q
from_steps [] q there = absurd (in_nothing q there)
from_steps (step ∷ steps) q there =
    elim (Contains-append_cases (number_in step) (flat_map number_in steps) q there) [
      | inl own ↦ opened_here step steps q own
      | inr more ↦ opened_later step steps q (from_steps steps q more)
    ]

to_steps : (steps : List Step) (q secs : ℕ) → Contains steps (Turn secs (event.Opened q))
    → Contains (flat_map number_in steps) q
to_steps [] q secs there = absurd (in_nothing (Turn secs (event.Opened q)) there)
to_steps (step ∷ steps) q secs there =
    elim (first_or_later step steps (Turn secs (event.Opened q)) there) [
      | inl first ↦
          Contains-append_left (number_in step) (flat_map number_in steps) q
          (subst (λ (own : Step). Contains (number_in own) q) (sym first) (here q []))
      | inr more ↦ Contains-append_right (number_in step) (flat_map number_in steps) q (to_steps steps q secs more)
    ]

only_put : (numbers : List ℕ) (q : ℕ) → Contains (rising numbers) q → Contains numbers q
only_put numbers q there = elim (from_put numbers [] q there) [ inl none ↦ absurd (in_nothing q none) | inr is ↦ is ]

pub numbers_are_those_opened : NumbersAreThoseOpened
numbers_are_those_opened steps link = (
  λ there. from_steps steps link (only_put (flat_map number_in steps) link there),
  λ opened. to_put (flat_map number_in steps) [] link (inr (to_steps steps link opened.secs opened.turn)),
)

-- ---- in order

all_inserted : (P : ℕ → Type 0) (k : ℕ) (xs : List ℕ) → P k → AllByRecursion P xs
    → AllByRecursion P (insert_key nat_cmp xs k)
all_inserted P k [] new all = (new, tt)
all_inserted P k (x ∷ xs) new all = step (nat_cmp k x) (all_inserted P k xs new all.1)
  where
    step : (o : Ordering) → AllByRecursion P (insert_key nat_cmp xs k)
        → AllByRecursion P (match_ordering o (k ∷ x ∷ xs) (x ∷ xs) (x ∷ insert_key nat_cmp xs k))
    step Less more = (new, all)
    step Equal more = all
    step Greater more = (all.0, more)

less : (a b : ℕ) → a < b → nat_cmp a b ≡ Less
less a b below = sym (nat_cmp_is a b Less below)

less_chain : (k x y : ℕ) → k < x → nat_cmp x y ≡ Less → nat_cmp k y ≡ Less
less_chain k x y below next = let above : x < y = ranked x y Less (sym next) in less k y (omega arith)

all_above : (k x : ℕ) → k < x → (xs : List ℕ) → AllByRecursion (λ y. nat_cmp x y ≡ Less) xs
    → AllByRecursion (λ y. nat_cmp k y ≡ Less) xs
all_above k x below [] all = tt
all_above k x below (y ∷ xs) all = (less_chain k x y below all.0, all_above k x below xs all.1)

rises_inserted : (k : ℕ) (xs : List ℕ) → IsStrictlySortedBy nat_cmp xs
    → IsStrictlySortedBy nat_cmp (insert_key nat_cmp xs k)
unfolding IsStrictlySortedBy
rises_inserted k [] rises = (tt, tt)
rises_inserted k (x ∷ xs) rises = step (nat_cmp k x) (ranked k x (nat_cmp k x) refl) (rises_inserted k xs rises.1)
  where
    step : (o : Ordering) → MatchOrdering o (k < x) (k ≡ x) (x < k) →
        IsStrictlySortedBy nat_cmp (insert_key nat_cmp xs k) →
        IsStrictlySortedBy nat_cmp (match_ordering o (k ∷ x ∷ xs) (x ∷ xs) (x ∷ insert_key nat_cmp xs k))
    step Less is more = ((less k x is, all_above k x is xs rises.0), rises)
    step Equal is more = rises
    step Greater is more = (all_inserted (λ y. nat_cmp x y ≡ Less) k xs (less x k is) rises.0, more)

rises_put : (numbers before : List ℕ) → IsStrictlySortedBy nat_cmp before
    → IsStrictlySortedBy nat_cmp (fold (insert_key nat_cmp) before numbers)
rises_put [] before rises = rises
rises_put (k ∷ numbers) before rises = rises_put numbers (insert_key nat_cmp before k) (rises_inserted k before rises)

none_rise : IsStrictlySortedBy nat_cmp []
unfolding IsStrictlySortedBy
none_rise = tt

pub numbers_rise : NumbersRise
numbers_rise steps =
    IsStrictlyIncreasing-from_sorted (opened_numbers steps) (rises_put (flat_map number_in steps) [] none_rise)
