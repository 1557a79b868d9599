-- Laws of lists.
use Rattle.std.proofs.Common.{◌≡◌, ◌≢◌, ℕ, suc, zero, ◌+◌, ◌-◌, ◌<◌, ◌≤◌, ◌⊎◌, Bool, true, false, cond, eqb, List, []}
use Rattle.std.proofs.Common.{◌∷◌, ◌++◌, map, filter, length, get_or, take, set, slice_get, Option, None, Some, IfSome}
use Rattle.std.proofs.Common.{arith, refl, sym, ◌∙◌, ap, subst, inl, inr}
use Rattle.std.specs.List.{AllByRecursion, swap_remove}
use Rattle.std.proofs.Math.ListN.{length-set}
use Rattle.std.proofs.lemmas.Bool.Decides.{nat_tests}
use Rattle.std.proofs.lemmas.List.{get_or-set_same, get_or-set_other, get_or-take}
use Rattle.std.proofs.lemmas.Option.{slice_get-get_or, slice_get_past, slice_get_within}
use Rattle.linked_slots.specs.IdLists.{times_in}
use Rattle.linked_slots.proofs.ListLaws.{bool_cases, eqb-same, eqb-true, eqb-false, eqb-apart, all_listed}
use Rattle.fork_by.specs.Order.{Pairwise}

-- ---- what is true of each item
pub all-more : {X : Type 0} (P Q : X → Type 0) → ((x : X) → P x → Q x) → (xs : List X) → AllByRecursion P xs
    → AllByRecursion Q xs
all-more P Q f [] h = tt
all-more P Q f (x ∷ xs) h = (f x h.0, all-more P Q f xs h.1)

pub all-push : {X : Type 0} (P : X → Type 0) (xs : List X) (x : X) → AllByRecursion P xs → P x
    → AllByRecursion P (xs ++ x ∷ [])
all-push P [] x h here = (here, tt)
all-push P (y ∷ xs) x h here = (h.0, all-push P xs x h.1 here)

pub all-filter : {X : Type 0} (P : X → Type 0) (p : X → Bool) (xs : List X) → AllByRecursion P xs
    → AllByRecursion P (filter p xs)
all-filter P p [] h = tt
all-filter P p (x ∷ xs) h =
    elim (p x) as (λ b. AllByRecursion P (cond b (x ∷ filter p xs) (filter p xs)))
    [ true ↦ (h.0, all-filter P p xs h.1) | false ↦ all-filter P p xs h.1 ]

-- ---- how often a number is in a list
pub times-head : (x : ℕ) (xs : List ℕ) → 0 < times_in x (x ∷ xs)
times-head x xs = let one : times_in x (x ∷ xs) ≡ suc (times_in x xs) = rw (eqb-same x) refl in omega (arith, one)

pub times-tail : (q x : ℕ) (xs : List ℕ) → 0 < times_in q xs → 0 < times_in q (x ∷ xs)
times-tail q x xs h =
    elim (bool_cases (eqb x q)) [
      | inl here ↦ (let one : times_in q (x ∷ xs) ≡ suc (times_in q xs) = rw here refl in omega (arith, one))
      | inr apart ↦ (let one : times_in q (x ∷ xs) ≡ times_in q xs = rw apart refl in omega (arith, one, h))
    ]

pub times-rest : (q x : ℕ) (xs : List ℕ) → eqb x q ≡ false → 0 < times_in q (x ∷ xs) → 0 < times_in q xs
times-rest q x xs apart h = let one : times_in q (x ∷ xs) ≡ times_in q xs = rw apart refl in omega (arith, one, h)

pub all_times : (P : ℕ → Type 0) (xs : List ℕ) → AllByRecursion P xs → (q : ℕ) → 0 < times_in q xs → P q
all_times P [] h q more = absurd (omega (arith, more))
all_times P (x ∷ xs) h q more =
    elim (bool_cases (eqb x q)) [
      | inl here ↦ subst P (eqb-true x q here) h.0
      | inr apart ↦ all_times P xs h.1 q (times-rest q x xs apart more)
    ]

-- ---- pairs of an item and a later one
pub pairs-push : {X : Type 0} (R : X → X → Type 0) (xs : List X) (x : X) → Pairwise R xs
    → AllByRecursion (λ y. R y x) xs → Pairwise R (xs ++ x ∷ [])
pairs-push R [] x h here = (tt, tt)
pairs-push R (y ∷ xs) x h here = (all-push (R y) xs x h.0 here.0, pairs-push R xs x h.1 here.1)

pub pairs-filter : {X : Type 0} (R : X → X → Type 0) (p : X → Bool) (xs : List X) → Pairwise R xs
    → Pairwise R (filter p xs)
pairs-filter R p [] h = tt
pairs-filter R p (x ∷ xs) h =
    elim (p x) as (λ b. Pairwise R (cond b (x ∷ filter p xs) (filter p xs)))
    [ true ↦ (all-filter (R x) p xs h.0, pairs-filter R p xs h.1) | false ↦ pairs-filter R p xs h.1 ]

pub pairs-agree : (R S : ℕ → ℕ → Type 0) (xs : List ℕ)
    → ((a b : ℕ) → 0 < times_in a xs → 0 < times_in b xs → R a b → S a b) → Pairwise R xs → Pairwise S xs
pairs-agree R S [] f h = tt
pairs-agree R S (x ∷ xs) f h = (
  all_listed (S x) xs (λ q more. f x q (times-head x xs) (times-tail q x xs more) (all_times (R x) xs h.0 q more)),
  pairs-agree R S xs (λ a b in_a in_b. f a b (times-tail a x xs in_a) (times-tail b x xs in_b)) h.1,
)

-- ---- maps and filters
pub map-agree : {Y : Type 0} (f g : ℕ → Y) (xs : List ℕ) → ((q : ℕ) → 0 < times_in q xs → f q ≡ g q)
    → map f xs ≡ map g xs
map-agree f g [] h = refl
map-agree f g (x ∷ xs) h =
    ap (λ y. y ∷ map f xs) (h x (times-head x xs))
    ∙ ap (λ ys. g x ∷ ys) (map-agree f g xs (λ q more. h q (times-tail q x xs more)))

pub map-twice : {X Y Z : Type 0} (f : Y → Z) (g : X → Y) (xs : List X) → map f (map g xs) ≡ map (λ x. f (g x)) xs
map-twice f g [] = refl
map-twice f g (x ∷ xs) = ap (λ zs. f (g x) ∷ zs) (map-twice f g xs)

pub map-push : {X Y : Type 0} (f : X → Y) (xs : List X) (x : X) → map f (xs ++ x ∷ []) ≡ map f xs ++ f x ∷ []
map-push f [] x = refl
map-push f (y ∷ xs) x = ap (λ ys. f y ∷ ys) (map-push f xs x)

pub map-same : {X : Type 0} (f : X → X) (xs : List X) → ((x : X) → f x ≡ x) → map f xs ≡ xs
map-same f [] h = refl
map-same f (x ∷ xs) h = ap (λ y. y ∷ map f xs) (h x) ∙ ap (λ ys. x ∷ ys) (map-same f xs h)

pub map-length : {X Y : Type 0} (f : X → Y) (xs : List X) → length (map f xs) ≡ length xs
map-length f [] = refl
map-length f (x ∷ xs) = ap suc (map-length f xs)

pub filter-map : {X Y : Type 0} (p : Y → Bool) (f : X → Y) (xs : List X)
    → filter p (map f xs) ≡ map f (filter (λ x. p (f x)) xs)
filter-map p f [] = refl
filter-map p f (x ∷ xs) =
    elim (p (f x)) as (λ b. cond b (f x ∷ filter p (map f xs)) (filter p (map f xs))
    ≡ map f (cond b (x ∷ filter (λ y. p (f y)) xs) (filter (λ y. p (f y)) xs)))
    [ true ↦ ap (λ ys. f x ∷ ys) (filter-map p f xs) | false ↦ filter-map p f xs ]

pub filter-agree : (p q : ℕ → Bool) (xs : List ℕ) → ((x : ℕ) → 0 < times_in x xs → p x ≡ q x)
    → filter p xs ≡ filter q xs
filter-agree p q [] h = refl
filter-agree p q (x ∷ xs) h =
    ap (λ b. cond b (x ∷ filter p xs) (filter p xs)) (h x (times-head x xs))
    ∙ ap (λ ys. cond (q x) (x ∷ ys) ys) (filter-agree p q xs (λ y more. h y (times-tail y x xs more)))

pub filter-length : {X : Type 0} (p : X → Bool) (xs : List X) → length (filter p xs) ≤ length xs
filter-length p [] = omega arith
filter-length p (x ∷ xs) =
    let rest : length (filter p xs) ≤ length xs = filter-length p xs in
    elim (p x) as (λ b. length (cond b (x ∷ filter p xs) (filter p xs)) ≤ suc (length xs))
    [ true ↦ omega (arith, rest) | false ↦ omega (arith, rest) ]

-- ---- items by index
pub get-end : {X : Type 0} (xs : List X) (x : X) → slice_get (xs ++ x ∷ []) (length xs) ≡ Some x
get-end [] x = refl
get-end (y ∷ xs) x = get-end xs x

pub get-push : {X : Type 0} (xs : List X) (x : X) (i : ℕ)
    → slice_get (xs ++ x ∷ []) i ≡ cond (eqb i (length xs)) (Some x) (slice_get xs i)
get-push [] x zero = refl
get-push [] x (suc i) = let is : eqb (suc i) 0 ≡ false = grind (arith, nat_tests) in rw is refl
get-push (y ∷ xs) x zero = let is : eqb 0 (suc (length xs)) ≡ false = grind (arith, nat_tests) in rw is refl
get-push (y ∷ xs) x (suc i) =
    let is : eqb (suc i) (suc (length xs)) ≡ eqb i (length xs) = grind (arith, nat_tests) in
    rw is (get-push xs x i)

pub get-before : {X : Type 0} (xs : List X) (x y : X) (i : ℕ) → slice_get xs i ≡ Some y
    → slice_get (xs ++ x ∷ []) i ≡ Some y
get-before xs x y i h =
    let within : i < length xs = slice_get_within xs i y h in
    let apart : eqb i (length xs) ≡ false = grind (arith, nat_tests, within) in
    get-push xs x i ∙ ap (λ b. cond b (Some x) (slice_get xs i)) apart ∙ h

pub taken : {X : Type 0} (m : ℕ) (zs : List X) → m ≤ length zs → length (take m zs) ≡ m
taken zero zs h = refl
taken (suc m) [] h = absurd (omega (arith, h))
taken (suc m) (z ∷ zs) h = ap suc (taken m zs (omega (arith, h)))

pub length-swapped : {X : Type 0} (xs : List X) (i : ℕ) (d : X) → i < length xs
    → length (swap_remove xs i d) + 1 ≡ length xs
length-swapped xs i d h =
    let len : length (set xs i (get_or xs (length xs - 1) d)) ≡ length xs =
    length-set xs i (get_or xs (length xs - 1) d) in
    let count : length (swap_remove xs i d) ≡ length xs - 1 =
    taken (length xs - 1) (set xs i (get_or xs (length xs - 1) d)) (omega (arith, len)) in
    omega (arith, count, h)

-- the last item comes to the place of one that is removed
pub get-swapped : {X : Type 0} (xs : List X) (i j n : ℕ) (d : X) → i < length xs → n + 1 ≡ length xs
    → slice_get (swap_remove xs i d) j ≡ cond (eqb j n) None (cond (eqb j i) (slice_get xs n) (slice_get xs j))
get-swapped {X} xs i j n d h last =
    let ys : List X = set xs i (get_or xs n d) in
    let is : swap_remove xs i d ≡ take n ys =
    let m : length xs - 1 ≡ n = omega (arith, last) in ap (λ k. take k (set xs i (get_or xs k d))) m in
    let len : length ys ≡ length xs = length-set xs i (get_or xs n d) in
    let count : length (take n ys) ≡ n = taken n ys (omega (arith, len, last)) in
    ap (λ zs. slice_get zs j) is
    ∙ elim (place j n) [
      | inl less ↦ (
          let no : eqb j n ≡ false = grind (arith, nat_tests, less) in
          slice_get-get_or (take n ys) j d (omega (arith, less, count))
          ∙ ap Some (get_or-take n ys j d less)
          ∙ elim (bool_cases (eqb j i)) [
            | inl same ↦ (let at : j ≡ i = eqb-true j i same in
                ap Some (ap (λ k. get_or ys k d) at ∙ get_or-set_same xs i (get_or xs n d) d h)
                ∙ sym (slice_get-get_or xs n d (omega (arith, last)))
                ∙ sym (rw (no, same) refl))
            | inr apart ↦
                ap Some (get_or-set_other xs i j (get_or xs n d) d (eqb-apart j i apart))
                ∙ sym (slice_get-get_or xs j d (omega (arith, less, last)))
                ∙ sym (rw (no, apart) refl)
          ])
      | inr past ↦
          slice_get_past (take n ys) j (omega (arith, past, count))
          ∙ elim (bool_cases (eqb j n)) [
            | inl same ↦ sym (rw same refl)
            | inr apart ↦ (
                let beyond : j ≢ n = eqb-apart j n apart in
                let no : eqb j i ≡ false =
                eqb-false j i (λ e. beyond (let at : j ≡ i = e in omega (arith, past, h, last, at))) in
                sym (rw (apart, no) (slice_get_past xs j (omega (arith, past, beyond, last)))))
          ]
    ]
  where
    place : (a b : ℕ) → (a < b) ⊎ (b ≤ a)
    place a b = grind arith

-- what a removal leaves
pub record IsLeft {X : Type 0} (xs xs' : List X) (index : ℕ) : Type 0 where
  pub count : length xs' + 1 ≡ length xs
  pub entry : (i : ℕ)
      → slice_get xs' i
      ≡ cond (eqb i (length xs')) None (cond (eqb i index) (slice_get xs (length xs')) (slice_get xs i))

pub left-swapped : {X : Type 0} (xs xs' : List X) (index : ℕ) (x : X) → index < length xs → xs' ≡ swap_remove xs index x
    → IsLeft xs xs' index
left-swapped xs xs' index x h is =
    let count : length xs' + 1 ≡ length xs = ap (λ n. n + 1) (ap length is) ∙ length-swapped xs index x h in record {
      count = count;
      entry = λ i. ap (λ ys. slice_get ys i) is ∙ get-swapped xs index i (length xs') x h count;
    }

pub left-taken : {X : Type 0} (xs xs' : List X) (index : ℕ) (result : Option X) → index < length xs
    → result ≡ slice_get xs index → IfSome result (λ x. xs' ≡ swap_remove xs index x) → IsLeft xs xs' index
left-taken xs xs' index None h at is =
    absurd (let some : slice_get xs index ≡ Some (get_or xs index (first xs h)) =
    slice_get-get_or xs index (first xs h) h in
    cc)
  where
    first : {X : Type 0} (xs : List X) → index < length xs → X
    first [] h = absurd (omega (arith, h))
    first (y ∷ xs) h = y
left-taken xs xs' index (Some x) h at is = left-swapped xs xs' index x h is
