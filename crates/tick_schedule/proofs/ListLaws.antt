-- Laws of the lists of ids at each moment.
use Rattle.std.proofs.Common.{◌≡◌, ◌≢◌, ℕ, suc, zero, ◌<◌, ◌≤◌, ◌⊎◌, Bool, true, false, cond, ◌&&◌, ◌||◌, eqb, nat_le}
use Rattle.std.proofs.Common.{List, [], ◌∷◌, ◌++◌, length, map, slice_get, Option, None, Some, MatchOption, IfOk, OnErr}
use Rattle.std.proofs.Common.{Result, Ok, Err, arith, refl, sym, ◌∙◌, ap, subst, inl, inr}
use Rattle.std.specs.List.{All, Contains, list_any, AllByRecursion, take_while, flat_map}
use Rattle.std.specs.List.Sorted.{IsStrictlySortedBy}
use Rattle.std.specs.Map.{keys_of}
use Rattle.std.specs.Option.{IsSome}
use Rattle.std.specs.Ordering.{nat_cmp}
use Rattle.std.specs.declared.cmp.Ordering.TheVariants.{Less}
use Rattle.std.specs.BTreeMap.{is_at}
use Rattle.std.proofs.lemmas.Bool.Decides.{nat_tests}
use Rattle.std.specs.Cmp.{nat_cmp_total, eq_by_cmp_equiv}
use Rattle.std.proofs.lemmas.List.Elements.{All-head, All-tail, All-cons, All-nil, All-weaker, All-contains_itself}
use Rattle.std.proofs.lemmas.List.Folds.{list_any-append}
use Rattle.std.proofs.lemmas.Map.Keys.{IsDistinct-from_sorted}
use Rattle.std.proofs.lemmas.Map.Views.{lookup-from_Contains}
use Rattle.std.proofs.lemmas.List.Sums.{take_while-cons}
use Rattle.tick_schedule.specs.Lists.{AddsAt, AreListedBy, HaveIds, ListChange, IsEarliest, IsListedBy, Removes}
use Rattle.tick_schedule.specs.Lists.{RemovesAt, id_at, id_in, ids_by, ids_of, list_at}
use Rattle.tick_schedule.proofs.QueueLaws.{at-eqb, at-same, at-true, eqb-comm}

pub bool_cases : (b : Bool) → (b ≡ true) ⊎ (b ≡ false)
bool_cases true = inl refl
bool_cases false = inr refl

pub eqb-same : (x : ℕ) → eqb x x ≡ true
eqb-same x = grind (arith, nat_tests)

pub eqb-true : (x y : ℕ) → eqb x y ≡ true → x ≡ y
eqb-true x y h = grind (arith, nat_tests)

pub eqb-false : (x y : ℕ) → x ≢ y → eqb x y ≡ false
eqb-false x y h = grind (arith, nat_tests)

pub and-true : (a b : Bool) → (a && b) ≡ true → (a ≡ true) × (b ≡ true)
and-true true true h = (refl, refl)
and-true true false h = absurd (cc)
and-true false b h = absurd (cc)

-- ---- one list
pub get-push : (ids : List ℕ) (id i : ℕ)
    → slice_get (ids ++ id ∷ []) i ≡ cond (eqb i (length ids)) (Some id) (slice_get ids i)
get-push [] id zero = refl
get-push [] id (suc i) = let is : eqb (suc i) 0 ≡ false = grind (arith, nat_tests) in rw is refl
get-push (x ∷ ids) id zero = let is : eqb 0 (suc (length ids)) ≡ false = grind (arith, nat_tests) in rw is refl
get-push (x ∷ ids) id (suc i) =
    let is : eqb (suc i) (suc (length ids)) ≡ eqb i (length ids) = grind (arith, nat_tests) in
    rw is (get-push ids id i)

pub get-past : (ids : List ℕ) (i : ℕ) → length ids ≤ i → slice_get ids i ≡ None
get-past [] i h = refl
get-past (x ∷ ids) zero h = absurd (omega (arith, h))
get-past (x ∷ ids) (suc i) h = get-past ids i (omega (arith, h))

pub get-within : (ids : List ℕ) (i : ℕ) → IsSome (slice_get ids i) → i < length ids
get-within [] i h = absurd (cc)
get-within (x ∷ ids) zero h = omega (arith)
get-within (x ∷ ids) (suc i) h = let rest : i < length ids = get-within ids i h in omega (arith, rest)

-- ---- the lists of all moments
at-flip : (moment m : ℕ) → is_at (nat_cmp moment) m ≡ eqb m moment
at-flip moment m = at-eqb moment m ∙ eqb-comm moment m

module _ (old new : List (ℕ × List ℕ)) (moment : ℕ) where
  changed : (given : Option (List ℕ)) → ListChange old new moment given → (m i : ℕ)
      → id_at m i new ≡ cond (eqb m moment) (id_in i given) (id_at m i old)
  changed given change m i =
      ap (id_in i) (change m ∙ ap (λ b. cond b given (list_at m old)) (at-flip moment m))
      ∙ elim (eqb m moment) as (λ b. id_in i (cond b given (list_at m old)) ≡ cond b (id_in i given) (id_at m i old))
      [ true ↦ refl | false ↦ refl ]

  pub adds : (ids : List ℕ) (id : ℕ) → list_at moment old ≡ Some ids → ListChange old new moment (Some (ids ++ id ∷ []))
      → AddsAt old new moment (length ids) id
  adds ids id was change = record {
    free = ap (id_in (length ids)) was ∙ get-past ids (length ids) (omega (arith));
    ids = λ m i.
        changed (Some (ids ++ id ∷ [])) change m i
        ∙ elim (bool_cases (eqb m moment)) [
          | inl same ↦ rw same (let is : m ≡ moment = eqb-true m moment same in
              get-push ids id i
              ∙ ap (λ (list : Option (List ℕ)). cond (eqb i (length ids)) (Some id) (id_in i list))
              (sym (ap (λ k. list_at k old) is ∙ was)))
          | inr apart ↦ rw apart refl
        ];
  }

  -- the first id of a moment
  pub opens : (id : ℕ) → list_at moment old ≡ None → ListChange old new moment (Some (id ∷ []))
      → AddsAt old new moment 0 id
  opens id none change = record {
    free = ap (id_in 0) none;
    ids = λ m i.
        changed (Some (id ∷ [])) change m i
        ∙ elim (bool_cases (eqb m moment)) [
          | inl same ↦ rw same (let is : m ≡ moment = eqb-true m moment same in
              get-push [] id i
              ∙ ap (λ (list : Option (List ℕ)). cond (eqb i 0) (Some id) (id_in i list))
              (sym (ap (λ k. list_at k old) is ∙ none)))
          | inr apart ↦ rw apart refl
        ];
  }

  -- a list without ids is removed
  pub closes : (first : List (ℕ × List ℕ)) (index : ℕ) (moved : Option ℕ) → RemovesAt first old moment index moved
      → list_at moment old ≡ Some []
      → ListChange old new moment None → RemovesAt first new moment index moved
  closes first index moved r empty change = record {
    last = r.last;
    is_last = r.is_last;
    ids = λ m i. same-ids m i ∙ r.ids m i;
  }
    where
      same-ids : (m i : ℕ) → id_at m i new ≡ id_at m i old
      same-ids m i =
          changed None change m i
          ∙ elim (bool_cases (eqb m moment)) [
            | inl same ↦ rw same (sym (ap (λ k. id_at k i old) (eqb-true m moment same) ∙ ap (id_in i) empty))
            | inr apart ↦ rw apart refl
          ]

  pub removes : (ids left : List ℕ) (index : ℕ) (moved : Option ℕ) → list_at moment old ≡ Some ids
      → ListChange old new moment (Some left)
      → Removes ids left index moved → RemovesAt old new moment index moved
  removes ids left index moved was change r = record {
    last = r.last;
    is_last = there moved r.is_last;
    ids = λ m i.
        changed (Some left) change m i
        ∙ elim (bool_cases (eqb m moment)) [
          | inl same ↦ rw same (let is : m ≡ moment = eqb-true m moment same in
              r.ids i
              ∙ ap (λ (list : Option (List ℕ)). cond (eqb i index) moved (cond (eqb i r.last) None (id_in i list)))
              (sym (ap (λ k. list_at k old) is ∙ was)))
          | inr apart ↦ rw apart refl
        ];
  }
    where
      there : (moved : Option ℕ)
          → MatchOption moved (r.last ≡ index) (λ id. (r.last ≢ index) × (slice_get ids r.last ≡ Some id))
          → MatchOption moved (r.last ≡ index) (λ id. (r.last ≢ index) × (id_at moment r.last old ≡ Some id))
      there None h = h
      there (Some id) h = (h.0, ap (id_in r.last) was ∙ h.1)

-- ---- the least moment
pub earliest : (lists : List (ℕ × List ℕ)) (moment : ℕ) (ids : List ℕ) → HaveIds lists → list_at moment lists ≡ Some ids
    → ((m : ℕ) → IsSome (list_at m lists) → moment ≤ m) → IsEarliest lists moment
earliest lists moment [] have is least = absurd (have moment is)
earliest lists moment (id ∷ ids) have is least = record {
  id = id;
  is_listed = ap (id_in 0) is;
  least = λ m i other h. found m i other h (list_at m lists) refl;
}
  where
    found : (m i other : ℕ) → id_at m i lists ≡ Some other → (list : Option (List ℕ)) → list_at m lists ≡ list
        → moment ≤ m
    found m i other h None at = absurd (let none : id_at m i lists ≡ None = ap (id_in i) at in cc)
    found m i other h (Some list) at = least m (subst IsSome (sym at) refl)

-- ---- the ids that are due by a moment
found-after : (moment m : ℕ) (ids : List ℕ) (lists : List (ℕ × List ℕ))
    → AllByRecursion (λ k. nat_cmp moment k ≡ Less) (keys_of lists)
    → list_at m lists ≡ Some ids → moment < m
found-after moment m ids [] after h = absurd (cc)
found-after moment m ids (e ∷ lists) after h =
    elim (bool_cases (is_at (nat_cmp m) e.0)) [
      | inl same ↦ (let is : m ≡ e.0 = at-true m e.0 same in let less : nat_cmp moment e.0 ≡ Less = after.0 in
          let below : moment < e.0 = grind (arith, nat_tests, less) in omega (arith, is, below))
      | inr apart ↦
          found-after moment m ids lists after.1 (sym (ap (λ b. cond b (Some e.1) (list_at m lists)) apart) ∙ h)
    ]

any-get : (q : ℕ) (ids : List ℕ) → list_any (is_at (nat_cmp q)) ids ≡ true → (i : ℕ) × (slice_get ids i ≡ Some q)
any-get q [] h = absurd (cc)
any-get q (x ∷ ids) h =
    elim (bool_cases (is_at (nat_cmp q) x)) [
      | inl same ↦ (0, ap Some (sym (at-true q x same)))
      | inr apart ↦
          (let rest : (i : ℕ) × (slice_get ids i ≡ Some q) =
          any-get q ids (ap (λ b. b || list_any (is_at (nat_cmp q)) ids) (sym apart) ∙ h) in
          (suc rest.0, rest.1))
    ]

or-true : (a : Bool) → (a || true) ≡ true
or-true true = refl
or-true false = refl

get-any : (q i : ℕ) (ids : List ℕ) → slice_get ids i ≡ Some q → list_any (is_at (nat_cmp q)) ids ≡ true
get-any q i [] h = absurd (cc)
get-any q zero (x ∷ ids) h = let is : x ≡ q = cc in rw (is, at-same q) refl
get-any q (suc i) (x ∷ ids) h = rw (get-any q i ids h) (or-true (is_at (nat_cmp q) x))

first-by : (now : ℕ) (e : ℕ × List ℕ) (lists : List (ℕ × List ℕ)) → nat_le e.0 now ≡ true
    → ids_by now (e ∷ lists) ≡ e.1 ++ ids_by now lists
first-by now e lists due =
    ap (flat_map (λ (x : ℕ × List ℕ). x.1)) (take_while-cons (λ (x : ℕ × List ℕ). nat_le x.0 now) e lists
    ∙ ap (λ b. cond b (e ∷ take_while (λ (x : ℕ × List ℕ). nat_le x.0 now) lists) []) due)

none-by : (now : ℕ) (e : ℕ × List ℕ) (lists : List (ℕ × List ℕ)) → nat_le e.0 now ≡ false → ids_by now (e ∷ lists) ≡ []
none-by now e lists late =
    ap (flat_map (λ (x : ℕ × List ℕ). x.1)) (take_while-cons (λ (x : ℕ × List ℕ). nat_le x.0 now) e lists
    ∙ ap (λ b. cond b (e ∷ take_while (λ (x : ℕ × List ℕ). nat_le x.0 now) lists) []) late)

later : (now q : ℕ) (e : ℕ × List ℕ) (lists : List (ℕ × List ℕ))
    → AllByRecursion (λ k. nat_cmp e.0 k ≡ Less) (keys_of lists)
    → IsListedBy now q lists → IsListedBy now q (e ∷ lists)
later now q e lists after by = found (list_at by.moment lists) refl
  where
    found : (list : Option (List ℕ)) → list_at by.moment lists ≡ list → IsListedBy now q (e ∷ lists)
    found None is =
        absurd (let no : id_at by.moment by.index lists ≡ None = ap (id_in by.index) is in
        let yes : id_at by.moment by.index lists ≡ Some q = by.is_listed in
        cc)
    found (Some ids) is =
        let above : e.0 < by.moment = found-after e.0 by.moment ids lists after is in
        let apart : is_at (nat_cmp by.moment) e.0 ≡ false = grind (arith, nat_tests, above) in
        record {
          moment = by.moment;
          index = by.index;
          is_listed = ap (λ b. id_in by.index (cond b (Some e.1) (list_at by.moment lists))) apart ∙ by.is_listed;
          by = by.by;
        }

listed-by : (now q : ℕ) (lists : List (ℕ × List ℕ)) → IsStrictlySortedBy nat_cmp (keys_of lists)
    → list_any (is_at (nat_cmp q)) (ids_by now lists) ≡ true → IsListedBy now q lists
unfolding IsStrictlySortedBy
listed-by now q [] sorted h = absurd (cc)
listed-by now q (e ∷ lists) sorted h =
    elim (bool_cases (nat_le e.0 now)) [
      | inr late ↦
          absurd (let no : list_any (is_at (nat_cmp q)) (ids_by now (e ∷ lists)) ≡ false =
          ap (list_any (is_at (nat_cmp q))) (none-by now e lists late) in
          cc)
      | inl due ↦
          (let any : (list_any (is_at (nat_cmp q)) e.1 || list_any (is_at (nat_cmp q)) (ids_by now lists)) ≡ true =
          sym (ap (list_any (is_at (nat_cmp q))) (first-by now e lists due)
          ∙ list_any-append (is_at (nat_cmp q)) e.1 (ids_by now lists))
          ∙ h in
          elim (bool_cases (list_any (is_at (nat_cmp q)) e.1)) [
            | inl here ↦
                (let at : (i : ℕ) × (slice_get e.1 i ≡ Some q) = any-get q e.1 here in
                record {
                  moment = e.0;
                  index = at.0;
                  is_listed = ap (λ b. id_in at.0 (cond b (Some e.1) (list_at e.0 lists))) (at-same e.0) ∙ at.1;
                  by = due;
                })
            | inr apart ↦ later now q e lists sorted.0
                (listed-by now q lists sorted.1
                (ap (λ b. b || list_any (is_at (nat_cmp q)) (ids_by now lists)) (sym apart) ∙ any))
          ])
    ]

by-listed : (now q m i : ℕ) (lists : List (ℕ × List ℕ)) → IsStrictlySortedBy nat_cmp (keys_of lists)
    → id_at m i lists ≡ Some q → nat_le m now ≡ true → list_any (is_at (nat_cmp q)) (ids_by now lists) ≡ true
unfolding IsStrictlySortedBy
by-listed now q m i [] sorted h by = absurd (cc)
by-listed now q m i (e ∷ lists) sorted h by =
    elim (bool_cases (is_at (nat_cmp m) e.0)) [
      | inl same ↦
          (let is : m ≡ e.0 = at-true m e.0 same in
          let due : nat_le e.0 now ≡ true = ap (λ k. nat_le k now) (sym is) ∙ by in
          let here : slice_get e.1 i ≡ Some q =
          sym (ap (λ b. id_in i (cond b (Some e.1) (list_at m lists))) same) ∙ h in
          ap (list_any (is_at (nat_cmp q))) (first-by now e lists due)
          ∙ list_any-append (is_at (nat_cmp q)) e.1 (ids_by now lists)
          ∙ ap (λ b. b || list_any (is_at (nat_cmp q)) (ids_by now lists)) (get-any q i e.1 here))
      | inr apart ↦
          (let there : id_at m i lists ≡ Some q =
          sym (ap (λ b. id_in i (cond b (Some e.1) (list_at m lists))) apart) ∙ h in
          let due : nat_le e.0 now ≡ true = first-due (list_at m lists) refl there in
          ap (list_any (is_at (nat_cmp q))) (first-by now e lists due)
          ∙ list_any-append (is_at (nat_cmp q)) e.1 (ids_by now lists)
          ∙ ap (λ b. list_any (is_at (nat_cmp q)) e.1 || b) (by-listed now q m i lists sorted.1 there by)
          ∙ or-true (list_any (is_at (nat_cmp q)) e.1))
    ]
  where
    first-due : (list : Option (List ℕ)) → list_at m lists ≡ list → id_at m i lists ≡ Some q → nat_le e.0 now ≡ true
    first-due None is there = absurd (let no : id_at m i lists ≡ None = ap (id_in i) is in cc)
    first-due (Some ids) is there =
        let above : e.0 < m = found-after e.0 m ids lists sorted.0 is in grind (arith, nat_tests, above, by)

pub are-listed : (now : ℕ) (ids : List ℕ) (lists : List (ℕ × List ℕ)) → IsStrictlySortedBy nat_cmp (keys_of lists)
    → ((q : ℕ) → list_any (is_at (nat_cmp q)) ids ≡ list_any (is_at (nat_cmp q)) (ids_by now lists))
    → AreListedBy now ids lists
are-listed now ids lists sorted same = record {
  listed = λ q h. listed-by now q lists sorted (sym (same q) ∙ h);
  all = λ q by. same q ∙ by-listed now q by.moment by.index lists sorted by.is_listed by.by;
}

-- what follows from two facts of a result
pub if_ok_both : {A E : Type 0} {P Q R : A → Type 0} (result : Result A E) → ((value : A) → P value → Q value → R value)
    → IfOk result P → IfOk result Q → IfOk result R
if_ok_both (Ok value) both p q = both value p q
if_ok_both (Err fault) both p q = tt

-- what holds anyhow holds after an error
pub on_err : {A E : Type 0} {P : Type 0} (result : Result A E) → P → OnErr result P
on_err (Ok value) holds = tt
on_err (Err fault) holds = holds

-- what is gathered by looking each moment up
pub gathered : (now : ℕ) (lists : List (ℕ × List ℕ)) → IsStrictlySortedBy nat_cmp (keys_of lists)
    → flat_map (ids_of lists) (take_while (λ moment. nat_le moment now) (keys_of lists)) ≡ ids_by now lists
gathered now lists sorted =
    ap (flat_map (ids_of lists)) (by-key lists)
    ∙ same (take_while (λ (e : ℕ × List ℕ). nat_le e.0 now) lists)
    (prefix lists (λ e. list_at e.0 lists ≡ Some e.1) (all-found lists sorted))
  where
    by-key : (es : List (ℕ × List ℕ)) → take_while (λ moment. nat_le moment now) (keys_of es)
        ≡ map (λ (e : ℕ × List ℕ). e.0) (take_while (λ (e : ℕ × List ℕ). nat_le e.0 now) es)
    by-key [] = refl
    by-key (e ∷ es) =
        take_while-cons (λ moment. nat_le moment now) e.0 (keys_of es)
        ∙ ap (λ (rest : List ℕ). cond (nat_le e.0 now) (e.0 ∷ rest) []) (by-key es)
        ∙ elim (nat_le e.0 now) as
        (λ b. cond b (e.0 ∷ map (λ (x : ℕ × List ℕ). x.0) (take_while (λ (x : ℕ × List ℕ). nat_le x.0 now) es)) []
        ≡ map (λ (x : ℕ × List ℕ). x.0) (cond b (e ∷ take_while (λ (x : ℕ × List ℕ). nat_le x.0 now) es) []))
        [ true ↦ refl | false ↦ refl ]
        ∙ ap (map (λ (x : ℕ × List ℕ). x.0)) (sym (take_while-cons (λ (x : ℕ × List ℕ). nat_le x.0 now) e es))

    same : (es : List (ℕ × List ℕ)) → All (λ e. list_at e.0 lists ≡ Some e.1) es
        → flat_map (ids_of lists) (map (λ (e : ℕ × List ℕ). e.0) es) ≡ flat_map (λ (e : ℕ × List ℕ). e.1) es
    same [] h = refl
    same (e ∷ es) h =
        rw (All-head (λ e. list_at e.0 lists ≡ Some e.1) e es h)
        (ap (λ rest. e.1 ++ rest) (same es (All-tail (λ e. list_at e.0 lists ≡ Some e.1) e es h)))

    prefix : (es : List (ℕ × List ℕ)) (P : ℕ × List ℕ → Type 0) → All P es
        → All P (take_while (λ (e : ℕ × List ℕ). nat_le e.0 now) es)
    prefix [] P h = h
    prefix (e ∷ es) P h =
        subst (All P) (sym (take_while-cons (λ (x : ℕ × List ℕ). nat_le x.0 now) e es))
        (elim (nat_le e.0 now) as (λ b. All P (cond b (e ∷ take_while (λ (x : ℕ × List ℕ). nat_le x.0 now) es) [])) [
          | true ↦
              All-cons P e (take_while (λ (x : ℕ × List ℕ). nat_le x.0 now) es) (All-head P e es h)
              (prefix es P (All-tail P e es h))
          | false ↦ All-nil P
        ])

    all-found : (es : List (ℕ × List ℕ)) → IsStrictlySortedBy nat_cmp (keys_of es)
        → All (λ e. list_at e.0 es ≡ Some e.1) es
    all-found es s =
        All-weaker (Contains es) (λ e. list_at e.0 es ≡ Some e.1)
        (λ e.
        lookup-from_Contains (eq_by_cmp_equiv nat_cmp_total) e.0 e.1 es (IsDistinct-from_sorted nat_cmp (keys_of es) s))
        es (All-contains_itself es)
