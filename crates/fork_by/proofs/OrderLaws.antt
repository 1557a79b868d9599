-- Laws of numbers in the order in which their forks were added.
use Rattle.std.proofs.Common.{◌≡◌, ℕ, ◌<◌, Bool, true, false, ◌||◌, eqb, List, [], ◌∷◌, ◌++◌, map, filter, Option, None}
use Rattle.std.proofs.Common.{Some, arith, refl, sym, ◌∙◌, ap, inl, inr}
use Rattle.std.specs.BTreeMap.{insert_entry, is_at}
use Rattle.std.specs.List.{AllByRecursion, list_any}
use Rattle.std.specs.Map.{values_of}
use Rattle.std.specs.Ordering.{nat_cmp}
use Rattle.std.specs.declared.cmp.Ordering.TheVariants.{Less, Equal, Greater}
use Rattle.std.proofs.lemmas.Bool.Decides.{nat_tests}
use Rattle.std.proofs.lemmas.List.Elements.{filter_agree}
use Rattle.linked_slots.specs.IdLists.{times_in}
use Rattle.linked_slots.proofs.ListLaws.{bool_cases, eqb-true, eqb-false}
use Rattle.tick_schedule.proofs.QueueLaws.{at-eqb, at-same}
use Rattle.fork_by.specs.declared.slots.Slot.{Slot}
use Rattle.fork_by.specs.Order.{OrdersRise, put_one, put_all}
use Rattle.fork_by.specs.Slots.{slot_at, order_in, held}
use Rattle.fork_by.proofs.ListLaws.{all-filter, all_times, times-rest, filter-agree}

less-cmp : (a b : ℕ) → a < b → nat_cmp a b ≡ Less
less-cmp a b h = grind (arith, nat_tests, h)

more-cmp : (a b : ℕ) → b < a → nat_cmp a b ≡ Greater
more-cmp a b h = grind (arith, nat_tests, h)

same-cmp : (a b : ℕ) → a ≡ b → nat_cmp a b ≡ Equal
same-cmp a b h = grind (arith, nat_tests, h)

or-false : (b : Bool) → (b || false) ≡ b
or-false true = refl
or-false false = refl

or-assoc : (a b c : Bool) → ((a || b) || c) ≡ (a || (b || c))
or-assoc true b c = refl
or-assoc false b c = refl

or-true : (b : Bool) → (b || true) ≡ true
or-true true = refl
or-true false = refl

filter-none : (xs : List ℕ) → filter (λ x. false) xs ≡ []
filter-none [] = refl
filter-none (x ∷ xs) = filter-none xs

module _ (slots : List (Option Slot)) where
  abbrev order_of : ℕ → ℕ
  order_of number = order_in (slot_at number slots)

  -- the numbers, each under its order
  abbrev pub pairs_of : List ℕ → List (ℕ × ℕ)
  pairs_of numbers = map (λ number. (order_of number, number)) numbers

  pub values-pairs : (numbers : List ℕ) → values_of (pairs_of numbers) ≡ numbers
  values-pairs [] = refl
  values-pairs (number ∷ numbers) = ap (λ rest. number ∷ rest) (values-pairs numbers)

  put-first : (k : ℕ) (xs : List ℕ) → AllByRecursion (λ y. order_of k < order_of y) xs
      → insert_entry nat_cmp (pairs_of xs) (order_of k) k ≡ (order_of k, k) ∷ pairs_of xs
  put-first k [] h = refl
  put-first k (x ∷ xs) h = rw (less-cmp (order_of k) (order_of x) h.0) refl

  later-differ : (x : ℕ) (xs : List ℕ) → AllByRecursion (λ y. order_of x < order_of y) xs → (q : ℕ) → 0 < times_in q xs
      → eqb q x ≡ false
  later-differ x xs h q more =
      let less : order_of x < order_of q = all_times (λ y. order_of x < order_of y) xs h q more in
      eqb-false q x (λ e. let same : order_of q ≡ order_of x = ap order_of e in omega (arith, less, same))

  all-first : (x k : ℕ) (xs : List ℕ) → x ≡ k → AllByRecursion (λ y. order_of x < order_of y) xs
      → AllByRecursion (λ y. order_of k < order_of y) xs
  all-first x k [] is h = tt
  all-first x k (y ∷ xs) is h = (
    let same : order_of x ≡ order_of k = ap order_of is in
        let less : order_of x < order_of y = h.0 in
        omega (arith, same, less),
    all-first x k xs is h.1,
  )

  -- one number more
  put-one : (p : ℕ → Bool) (k : ℕ) (xs : List ℕ) → OrdersRise slots xs → 0 < times_in k xs
      → insert_entry nat_cmp (pairs_of (filter p xs)) (order_of k) k ≡ pairs_of (filter (λ n. p n || eqb n k) xs)
  put-one p k [] rise more = absurd (omega (arith, more))
  put-one p k (x ∷ xs) rise more =
      elim (bool_cases (eqb x k)) [
        | inl here ↦ (
            let is : x ≡ k = eqb-true x k here in
            let same : order_of k ≡ order_of x = ap order_of (sym is) in
            let rest : filter (λ n. p n || eqb n k) xs ≡ filter p xs =
            filter-agree (λ n. p n || eqb n k) p xs
            (λ q in_q. ap (λ m. p q || eqb q m) (sym is) ∙ ap (λ b. p q || b) (later-differ x xs rise.0 q in_q)
            ∙ or-false (p q)) in
            elim (bool_cases (p x)) [
              | inl passes ↦
                  rw (passes, rest, same-cmp (order_of k) (order_of x) same)
                  (ap (λ n. (order_of x, n) ∷ pairs_of (filter p xs)) (sym is))
              | inr fails ↦ rw (fails, here, rest)
                  (put-first k (filter p xs) (all-filter (λ y. order_of k < order_of y) p xs
                  (all-first x k xs is rise.0))
                  ∙ ap (λ n. (order_of n, n) ∷ pairs_of (filter p xs)) (sym is))
            ])
        | inr apart ↦ (
            let below : 0 < times_in k xs = times-rest k x xs apart more in
            let less : order_of x < order_of k = all_times (λ y. order_of x < order_of y) xs rise.0 k below in
            elim (bool_cases (p x)) [
              | inl passes ↦
                  rw (passes, more-cmp (order_of k) (order_of x) less)
                  (ap (λ rest. (order_of x, x) ∷ rest) (put-one p k xs rise.1 below))
              | inr fails ↦ rw (fails, apart) (put-one p k xs rise.1 below)
            ])
      ]

  put-is : (entries : List (ℕ × ℕ)) (slot : Option Slot) (number : ℕ) → 0 < held slot
      → put_one entries slot number ≡ insert_entry nat_cmp entries (order_in slot) number
  put-is entries None number h = absurd (omega (arith, h))
  put-is entries (Some slot) number h = refl

  module _ (numbers : List ℕ) (rise : OrdersRise slots numbers)
      (live : (number : ℕ) → times_in number numbers ≡ held (slot_at number slots)) where
    put-all : (p : ℕ → Bool) (ks : List ℕ) → ((k : ℕ) → list_any (is_at (nat_cmp k)) ks ≡ true → 0 < times_in k numbers)
        → put_all slots (pairs_of (filter p numbers)) ks
        ≡ pairs_of (filter (λ n. p n || list_any (is_at (nat_cmp n)) ks) numbers)
    put-all p [] known = ap pairs_of (filter_agree p (λ n. p n || false) (λ n. sym (or-false (p n))) numbers)
    put-all p (k ∷ ks) known =
        let more : 0 < times_in k numbers = known k (rw (at-same k) refl) in
        let is_held : 0 < held (slot_at k slots) =
        let same : times_in k numbers ≡ held (slot_at k slots) = live k in omega (arith, more, same) in
        ap (λ entries. put_all slots entries ks)
        (put-is (pairs_of (filter p numbers)) (slot_at k slots) k is_held ∙ put-one p k numbers rise more)
        ∙ put-all (λ n. p n || eqb n k) ks
        (λ q h. known q (ap (λ b. is_at (nat_cmp q) k || b) h ∙ or-true (is_at (nat_cmp q) k)))
        ∙ ap pairs_of (filter_agree (λ n. (p n || eqb n k) || list_any (is_at (nat_cmp n)) ks)
        (λ n. p n || (is_at (nat_cmp n) k || list_any (is_at (nat_cmp n)) ks))
        (λ n. or-assoc (p n) (eqb n k) (list_any (is_at (nat_cmp n)) ks)
        ∙ ap (λ b. p n || (b || list_any (is_at (nat_cmp n)) ks)) (sym (at-eqb n k)))
        numbers)

    pub put-in_order : (ks : List ℕ) → ((k : ℕ) → list_any (is_at (nat_cmp k)) ks ≡ true → 0 < times_in k numbers)
        → values_of (put_all slots [] ks) ≡ filter (λ n. list_any (is_at (nat_cmp n)) ks) numbers
    put-in_order ks known =
        ap (λ (entries : List (ℕ × ℕ)). values_of (put_all slots entries ks)) (sym (ap pairs_of (filter-none numbers)))
        ∙ ap (λ (entries : List (ℕ × ℕ)). values_of entries) (put-all (λ n. false) ks known)
        ∙ values-pairs (filter (λ n. list_any (is_at (nat_cmp n)) ks) numbers)

-- ---- one number more is put
pub put-more : (slots : List (Option Slot)) (entries : List (ℕ × ℕ)) (numbers : List ℕ) (number : ℕ)
    → put_all slots entries (numbers ++ number ∷ [])
    ≡ put_one (put_all slots entries numbers) (slot_at number slots) number
put-more slots entries [] number = refl
put-more slots entries (first ∷ numbers) number =
    put-more slots (put_one entries (slot_at first slots) first) numbers number
