-- Lists of forks as a table keeps them: their keys and numbers, and what is so of each.
use Rattle.std.proofs.Common.{◌≡◌, ℕ, Bool, true, false, ◌||◌, cond, eqb, List, [], ◌∷◌, ◌++◌, map, filter, Some, None}
use Rattle.std.proofs.Common.{refl, sym, ap, ◌∙◌, subst, arith}
use mathlib.Core.Bool.{true≢false}
use Rattle.std.specs.List.{AllByRecursion, IsDistinct, list_any}
use Rattle.std.proofs.lemmas.Bool.Decides.{nat_tests}
use Rattle.ev_types.specs.declared.value.Value.{Value}
use Rattle.ev_types.specs.Key.{same_key}
use Rattle.fork_by.specs.Table.{KeptFork, kept_number, kept_at, AreApart}
use Rattle.stream_meaning.specs.Laws.{is_among}
use Rattle.stream_meaning.proofs.EndLaws.{key_same, key_flip}
use Rattle.stream_meaning.proofs.KeptEvents.{all-weaker}
use Rattle.stream_tree.specs.declared.forest.Forest.{Forest}

-- ---- what is so of each of a list

pub all-both : {A : Type 0} (P Q R : A → Type 0) → ((x : A) → P x → Q x → R x) → (xs : List A) → AllByRecursion P xs
    → AllByRecursion Q xs → AllByRecursion R xs
all-both P Q R join [] ps qs = tt
all-both P Q R join (x ∷ xs) ps qs = (join x ps.0 qs.0, all-both P Q R join xs ps.1 qs.1)

pub all-to_map : {A B : Type 0} (P : B → Type 0) (f : A → B) (xs : List A) → AllByRecursion (λ x. P (f x)) xs
    → AllByRecursion P (map f xs)
all-to_map P f [] all = tt
all-to_map P f (x ∷ xs) all = (all.0, all-to_map P f xs all.1)

pub all-from_map : {A B : Type 0} (P : B → Type 0) (f : A → B) (xs : List A) → AllByRecursion P (map f xs)
    → AllByRecursion (λ x. P (f x)) xs
all-from_map P f [] all = tt
all-from_map P f (x ∷ xs) all = (all.0, all-from_map P f xs all.1)

-- those that pass a test have passed it
pub all-passed : {A : Type 0} (P Q : A → Type 0) (p : A → Bool) → ((x : A) → P x → p x ≡ true → Q x) → (xs : List A)
    → AllByRecursion P xs → AllByRecursion Q (filter p xs)
all-passed P Q p pass [] all = tt
all-passed {A} P Q p pass (x ∷ xs) all = step (p x) refl (all-passed P Q p pass xs all.1)
  where
    step : (b : Bool) → p x ≡ b → AllByRecursion Q (filter p xs)
        → AllByRecursion Q (cond b (x ∷ filter p xs) (filter p xs))
    step true e rest = (pass x all.0 e, rest)
    step false e rest = rest

pub all-front : {A : Type 0} (P : A → Type 0) (xs ys : List A) → AllByRecursion P (xs ++ ys) → AllByRecursion P xs
all-front P [] ys all = tt
all-front P (x ∷ xs) ys all = (all.0, all-front P xs ys all.1)

pub all-last : {A : Type 0} (P : A → Type 0) (xs : List A) (x : A) → AllByRecursion P (xs ++ x ∷ []) → P x
all-last P [] x all = all.0
all-last P (y ∷ xs) x all = all-last P xs x all.1

pub map-pointwise : {A B : Type 0} (f g : A → B) (xs : List A) → AllByRecursion (λ x. f x ≡ g x) xs
    → map f xs ≡ map g xs
map-pointwise f g [] same = refl
map-pointwise {A} {B} f g (x ∷ xs) same =
    ap (λ (y : B). y ∷ map f xs) same.0 ∙ ap (λ (ys : List B). g x ∷ ys) (map-pointwise f g xs same.1)

pub map-map : {A B C : Type 0} (f : B → C) (g : A → B) (xs : List A) → map f (map g xs) ≡ map (λ x. f (g x)) xs
map-map f g [] = refl
map-map {A} {B} {C} f g (x ∷ xs) = ap (λ (ys : List C). f (g x) ∷ ys) (map-map f g xs)

-- ---- numbers

pub eqb-is : (a b : ℕ) → eqb a b ≡ true → a ≡ b
eqb-is a b e = grind (arith, nat_tests)

pub eqb-self : (a : ℕ) → eqb a a ≡ true
eqb-self a = grind (arith, nat_tests)

pub eqb-flip : (a b : ℕ) → eqb a b ≡ eqb b a
eqb-flip a b = grind (arith, nat_tests)

-- whether the number is among them
abbrev pub has : ℕ → List ℕ → Bool
has number ids = list_any (eqb number) ids

pub or-true : (s t : Bool) → t ≡ true → s || t ≡ true
or-true true t e = refl
or-true false t e = e

-- ---- keys and numbers of kept forks

abbrev pub Kept : Type 0
Kept = KeptFork Forest

abbrev pub numbers_of : List Kept → List ℕ
numbers_of ks = map (λ kept. kept.number) ks

abbrev pub keys_of_kept : List Kept → List (List Value)
keys_of_kept ks = map (λ kept. kept.key) ks

-- the number is that of the key
abbrev pub Tied : List Value → ℕ → Kept → Type 0
Tied key number kept = eqb kept.number number ≡ same_key key kept.key

tied_self : (kept : Kept) → Tied kept.key kept.number kept
tied_self kept = eqb-self kept.number ∙ sym (key_same kept.key kept.key refl)

abbrev Differs : Kept → Kept → Type 0
Differs one other = (same_key one.key other.key ≡ false) × (eqb one.number other.number ≡ false)

tied_after : (one other : Kept) → Differs one other → Tied one.key one.number other
tied_after one other apart = eqb-flip other.number one.number ∙ apart.1 ∙ sym apart.0

tied_before : (one other : Kept) → Differs one other → Tied other.key other.number one
tied_before one other apart = apart.1 ∙ sym (key_flip other.key one.key ∙ apart.0)

-- each fork has its number, and no other fork has it
pub all_tied : (ks : List Kept) → IsDistinct same_key (keys_of_kept ks) → IsDistinct eqb (numbers_of ks)
    → AllByRecursion (λ one. AllByRecursion (Tied one.key one.number) ks) ks
unfolding IsDistinct
all_tied [] keys numbers = tt
all_tied (first ∷ ks) keys numbers =
    let apart : AllByRecursion (Differs first) ks =
    all-both (λ k. same_key first.key k.key ≡ false) (λ k. eqb first.number k.number ≡ false) (Differs first)
    (λ k a b. (a, b)) ks
    (all-from_map (λ key. same_key first.key key ≡ false) (λ k. k.key) ks keys.0)
    (all-from_map (λ number. eqb first.number number ≡ false) (λ k. k.number) ks numbers.0) in (
      (tied_self first, all-weaker (Differs first) (Tied first.key first.number) (tied_after first) ks apart),
      all-both (Differs first) (λ one. AllByRecursion (Tied one.key one.number) ks)
          (λ one. AllByRecursion (Tied one.key one.number) (first ∷ ks)) (λ one a rest. (tied_before first one a, rest))
          ks apart
          (all_tied ks keys.1 numbers.1),
    )

pub apart_tied : (ks : List Kept) → AreApart ks → AllByRecursion (λ one. AllByRecursion (Tied one.key one.number) ks) ks
apart_tied ks apart = all_tied ks apart.keys apart.numbers

-- ---- the fork of a number

-- what is so of each is so of the one of the number
pub at_number : (P : Kept → Type 0) (number : ℕ) (ks : List Kept) (kept : Kept) → AllByRecursion P ks
    → kept_at number ks ≡ Some kept → P kept × (kept.number ≡ number)
at_number P number [] kept all at = absurd (cc)
at_number P number (first ∷ ks) kept all at =
    step (eqb first.number number) refl at (at_number P number ks kept all.1)
  where
    step : (b : Bool) → eqb first.number number ≡ b → cond b (Some first) (kept_at number ks) ≡ Some kept
        → (kept_at number ks ≡ Some kept → P kept × (kept.number ≡ number)) → P kept × (kept.number ≡ number)
    step true e at rest =
        let is : first ≡ kept = cc in
        (subst P is all.0, ap (λ (k : Kept). k.number) (sym is) ∙ eqb-is first.number number e)
    step false e at rest = rest at

-- its key is among the keys
pub among_at : (number : ℕ) (ks : List Kept) (kept : Kept) → kept_at number ks ≡ Some kept
    → is_among kept.key (keys_of_kept ks) ≡ true
among_at number [] kept at = cc
among_at number (first ∷ ks) kept at = step (eqb first.number number) at (among_at number ks kept)
  where
    step : (b : Bool) → cond b (Some first) (kept_at number ks) ≡ Some kept
        → (kept_at number ks ≡ Some kept → is_among kept.key (keys_of_kept ks) ≡ true)
        → is_among kept.key (keys_of_kept (first ∷ ks)) ≡ true
    step true at rest =
        let is : first ≡ kept = cc in
        ap (λ (b : Bool). b || is_among kept.key (keys_of_kept ks))
        (key_same first.key kept.key (ap (λ (k : Kept). k.key) is))
    step false at rest = or-true (same_key first.key kept.key) (is_among kept.key (keys_of_kept ks)) (rest at)

-- no other one has the number
pub only_kept : (number : ℕ) (ks : List Kept) (kept : Kept) → IsDistinct eqb (numbers_of ks)
    → kept_at number ks ≡ Some kept → AllByRecursion (λ k. eqb k.number number ≡ true → k ≡ kept) ks
unfolding IsDistinct
only_kept number [] kept distinct at = tt
only_kept number (first ∷ ks) kept distinct at =
    step (eqb first.number number) refl at (only_kept number ks kept distinct.1)
  where
    step : (b : Bool) → eqb first.number number ≡ b → cond b (Some first) (kept_at number ks) ≡ Some kept
        → (kept_at number ks ≡ Some kept → AllByRecursion (λ (k : Kept). eqb k.number number ≡ true → k ≡ kept) ks)
        → AllByRecursion (λ (k : Kept). eqb k.number number ≡ true → k ≡ kept) (first ∷ ks)
    step true e at rest =
        let is : first ≡ kept = cc in
        let own : first.number ≡ number = eqb-is first.number number e in (
          (λ same. is),
          all-weaker (λ k. eqb first.number k.number ≡ false) (λ k. eqb k.number number ≡ true → k ≡ kept)
              (λ k apart same. absurd (true≢false (sym same ∙ ap (eqb k.number) (sym own)
              ∙ eqb-flip k.number first.number
              ∙ apart)))
              ks (all-from_map (λ n. eqb first.number n ≡ false) (λ k. k.number) ks distinct.0),
        )
    step false e at rest = ((λ same. absurd (true≢false (sym same ∙ e))), rest at)

-- ---- the number of a key

none_among : (key : List Value) (ks : List Kept) → AllByRecursion (λ k. same_key key k.key ≡ false) ks
    → is_among key (keys_of_kept ks) ≡ false
none_among key [] all = refl
none_among key (first ∷ ks) all =
    ap (λ (b : Bool). b || is_among key (keys_of_kept ks)) (key_flip first.key key ∙ all.0) ∙ none_among key ks all.1

pub no_number : (key : List Value) (ks : List Kept) → kept_number key ks ≡ None
    → AllByRecursion (λ k. same_key key k.key ≡ false) ks
no_number key [] none = tt
no_number key (first ∷ ks) none = step (same_key key first.key) refl none (no_number key ks)
  where
    step : (b : Bool) → same_key key first.key ≡ b → cond b (Some first.number) (kept_number key ks) ≡ None
        → (kept_number key ks ≡ None → AllByRecursion (λ (k : Kept). same_key key k.key ≡ false) ks)
        → AllByRecursion (λ (k : Kept). same_key key k.key ≡ false) (first ∷ ks)
    step true e none rest = absurd (cc)
    step false e none rest = (e, rest none)

pub new_key : (key : List Value) (ks : List Kept) → kept_number key ks ≡ None
    → is_among key (keys_of_kept ks) ≡ false
new_key key ks none = none_among key ks (no_number key ks none)

-- ---- numbers that are chosen

has_filtered : (number : ℕ) (p : Kept → Bool) (ks : List Kept) → AllByRecursion (λ k. eqb number k.number ≡ false) ks
    → has number (numbers_of (filter p ks)) ≡ false
has_filtered number p [] all = refl
has_filtered number p (first ∷ ks) all = step (p first) (has_filtered number p ks all.1)
  where
    step : (b : Bool) → has number (numbers_of (filter p ks)) ≡ false
        → has number (numbers_of (cond b (first ∷ filter p ks) (filter p ks))) ≡ false
    step true rest = ap (λ (b : Bool). b || has number (numbers_of (filter p ks))) all.0 ∙ rest
    step false rest = rest

-- a number is among the chosen ones if its fork was chosen
pub has_chosen : (p : Kept → Bool) (ks : List Kept) → IsDistinct eqb (numbers_of ks)
    → AllByRecursion (λ k. has k.number (numbers_of (filter p ks)) ≡ p k) ks
unfolding IsDistinct
has_chosen p [] distinct = tt
has_chosen p (first ∷ ks) distinct =
    let apart : AllByRecursion (λ k. eqb first.number k.number ≡ false) ks =
    all-from_map (λ n. eqb first.number n ≡ false) (λ k. k.number) ks distinct.0 in (
      own (p first) (has_filtered first.number p ks apart),
      all-both (λ k. eqb first.number k.number ≡ false) (λ k. has k.number (numbers_of (filter p ks)) ≡ p k)
          (λ k. has k.number (numbers_of (filter p (first ∷ ks))) ≡ p k) (λ k a e. other (p first) k a e) ks apart
          (has_chosen p ks distinct.1),
    )
  where
    own : (b : Bool) → has first.number (numbers_of (filter p ks)) ≡ false
        → has first.number (numbers_of (cond b (first ∷ filter p ks) (filter p ks))) ≡ b
    own true none = ap (λ (b : Bool). b || has first.number (numbers_of (filter p ks))) (eqb-self first.number)
    own false none = none

    other : (b : Bool) (k : Kept) → eqb first.number k.number ≡ false → has k.number (numbers_of (filter p ks)) ≡ p k
        → has k.number (numbers_of (cond b (first ∷ filter p ks) (filter p ks))) ≡ p k
    other true k apart e =
        ap (λ (b : Bool). b || has k.number (numbers_of (filter p ks))) (eqb-flip k.number first.number ∙ apart) ∙ e
    other false k apart e = e

all_chosen : (number : ℕ) (p : Kept → Bool) (ks : List Kept)
    → AllByRecursion (λ n. eqb number n ≡ false) (numbers_of ks)
    → AllByRecursion (λ n. eqb number n ≡ false) (numbers_of (filter p ks))
all_chosen number p [] all = tt
all_chosen number p (first ∷ ks) all = step (p first) (all_chosen number p ks all.1)
  where
    step : (b : Bool) → AllByRecursion (λ n. eqb number n ≡ false) (numbers_of (filter p ks))
        → AllByRecursion (λ n. eqb number n ≡ false) (numbers_of (cond b (first ∷ filter p ks) (filter p ks)))
    step true rest = (all.0, rest)
    step false rest = rest

pub chosen_apart : (p : Kept → Bool) (ks : List Kept) → IsDistinct eqb (numbers_of ks)
    → IsDistinct eqb (numbers_of (filter p ks))
unfolding IsDistinct
chosen_apart p [] distinct = tt
chosen_apart p (first ∷ ks) distinct = step (p first) (chosen_apart p ks distinct.1)
  where
    step : (b : Bool) → IsDistinct eqb (numbers_of (filter p ks))
        → IsDistinct eqb (numbers_of (cond b (first ∷ filter p ks) (filter p ks)))
    step true rest = (all_chosen first.number p ks distinct.0, rest)
    step false rest = rest

-- what is so of the numbers of all is so of a number among the chosen ones
pub has_all : (P : ℕ → Type 0) (ids : List ℕ) (number : ℕ) → AllByRecursion P ids → has number ids ≡ true → P number
has_all P [] number all h = absurd (cc)
has_all P (id ∷ ids) number all h = step (eqb number id) refl h (has_all P ids number all.1)
  where
    step : (b : Bool) → eqb number id ≡ b → b || has number ids ≡ true → (has number ids ≡ true → P number) → P number
    step true e h rest = subst P (sym (eqb-is number id e)) all.0
    step false e h rest = rest h

pub all-chosen_numbers : (P : ℕ → Type 0) (p : Kept → Bool) (ks : List Kept) → AllByRecursion (λ k. P k.number) ks
    → AllByRecursion P (numbers_of (filter p ks))
all-chosen_numbers P p [] all = tt
all-chosen_numbers P p (first ∷ ks) all = step (p first) (all-chosen_numbers P p ks all.1)
  where
    step : (b : Bool) → AllByRecursion P (numbers_of (filter p ks))
        → AllByRecursion P (numbers_of (cond b (first ∷ filter p ks) (filter p ks)))
    step true rest = (all.0, rest)
    step false rest = rest

-- a number that comes first does not come again
pub has_rest : (id : ℕ) (ids : List ℕ) → IsDistinct eqb (id ∷ ids) → has id ids ≡ false
unfolding IsDistinct
has_rest id ids distinct = none ids distinct.0
  where
    none : (rest : List ℕ) → AllByRecursion (λ n. eqb id n ≡ false) rest → has id rest ≡ false
    none [] all = refl
    none (n ∷ rest) all = ap (λ (b : Bool). b || has id rest) all.0 ∙ none rest all.1

pub distinct_rest : (id : ℕ) (ids : List ℕ) → IsDistinct eqb (id ∷ ids) → IsDistinct eqb ids
unfolding IsDistinct
distinct_rest id ids distinct = distinct.1

-- ---- the key of a number

abbrev pub key_at : List Kept → ℕ → List Value
key_at [] number = []
key_at (kept ∷ ks) number = cond (eqb kept.number number) kept.key (key_at ks number)

pub keys_at : (ks : List Kept) → IsDistinct eqb (numbers_of ks)
    → AllByRecursion (λ k. key_at ks k.number ≡ k.key) ks
unfolding IsDistinct
keys_at [] distinct = tt
keys_at (first ∷ ks) distinct = (
  ap (λ (b : Bool). cond b first.key (key_at ks first.number)) (eqb-self first.number),
  all-both (λ k. eqb first.number k.number ≡ false) (λ k. key_at ks k.number ≡ k.key)
      (λ k. key_at (first ∷ ks) k.number ≡ k.key)
      (λ k apart e. ap (λ (b : Bool). cond b first.key (key_at ks k.number)) apart ∙ e) ks
      (all-from_map (λ n. eqb first.number n ≡ false) (λ k. k.number) ks distinct.0)
      (keys_at ks distinct.1),
)
