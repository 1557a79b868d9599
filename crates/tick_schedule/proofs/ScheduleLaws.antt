-- Laws of the parts of a queue of due moments.
use Rattle.std.proofs.Common.{◌≡◌, ◌≢◌, ℕ, ◌≤◌, ◌⊎◌, Bool, true, false, cond, ◌&&◌, eqb, nat_le, List, [], ◌∷◌, map}
use Rattle.std.proofs.Common.{filter, Option, None, Some, IfSome, arith, refl, sym, ◌∙◌, ap, subst, inl, inr}
use Rattle.std.specs.List.{All, list_any, AllByRecursion, Contains}
use Rattle.std.specs.List.Sorted.{IsStrictlySortedBy}
use Rattle.std.specs.Map.{keys_of, values_of}
use Rattle.std.specs.Ordering.{nat_cmp}
use Rattle.std.specs.Cmp.{nat_cmp_total, eq_by_cmp_equiv}
use Rattle.std.specs.declared.cmp.Ordering.TheVariants.{Less}
use Rattle.std.specs.BTreeMap.{is_at}
use Rattle.std.specs.BTreeSet.{BTreeSet}
use Rattle.std.proofs.lemmas.Bool.Decides.{nat_tests}
use Rattle.std.proofs.lemmas.List.Elements.{All-head, All-tail, All-contains, All-cons, All-nil, Contains-append_left}
use Rattle.std.proofs.lemmas.List.Elements.{Contains-append_right, Contains-push}
use Rattle.std.proofs.lemmas.Map.Keys.{IsDistinct-from_sorted}
use Rattle.std.proofs.lemmas.Map.Lookups.{btree_set_from_contains, exact_unsigned}
use Rattle.std.proofs.lemmas.Map.Views.{All-values_from_lookup}
use Rattle.tick_schedule.specs.Lists.{AddsAt, AreListedBy, IsFirst, IsEarliest, IsListedBy, RemovesAt, id_at}
use Rattle.tick_schedule.specs.Moments.{Place, at, moment_in, moments_from, place_at}
use Rattle.tick_schedule.specs.Queue.{moment_at, IsRising, Sets, due_ids, IsNext}
use Rattle.tick_schedule.specs.Schedule.{IsTied, IsTiedButOne, IsTiedBut}
use Rattle.tick_schedule.proofs.QueueLaws.{at-same, is_by, due-is_by}
use Rattle.tick_schedule.proofs.ListLaws.{and-true, bool_cases, eqb-false, eqb-same, eqb-true}
use Rattle.tick_schedule.proofs.MomentLaws.{held, rising}

some-is : {A : Type 0} (a b : A) → Some a ≡ Some b → a ≡ b
some-is a b h = cc

both : (m m' i i' : ℕ) → m ≡ m' → i ≡ i' → (eqb m m' && eqb i i') ≡ true
both m m' i i' h k = rw (h, k, eqb-same m', eqb-same i') refl

places-same : (m m' i i' : ℕ) → m ≡ m' → i ≡ i' → Some (at m i) ≡ Some (at m' i')
places-same m m' i i' h k = ap (λ x. Some (at x i)) h ∙ ap (λ x. Some (at m' x)) k

-- ---- an id comes to a new place
module _ (places places' : List (Option Place)) (lists lists' : List (ℕ × List ℕ)) (moment index id : ℕ)
    (tied : IsTied places lists)
    (added : AddsAt lists lists' moment index id)
    (sets : (x : ℕ) → place_at x places' ≡ cond (eqb x id) (Some (at moment index)) (place_at x places)) where
  set-same : (x : ℕ) → eqb x id ≡ true → place_at x places' ≡ Some (at moment index)
  set-same x same = sets x ∙ ap (λ b. cond b (Some (at moment index)) (place_at x places)) same

  set-other : (x : ℕ) → eqb x id ≡ false → place_at x places' ≡ place_at x places
  set-other x other = sets x ∙ ap (λ b. cond b (Some (at moment index)) (place_at x places)) other

  add-here : (m i : ℕ) → (eqb m moment && eqb i index) ≡ true → id_at m i lists' ≡ Some id
  add-here m i here = added.ids m i ∙ ap (λ b. cond b (Some id) (id_at m i lists)) here

  add-apart : (m i : ℕ) → (eqb m moment && eqb i index) ≡ false → id_at m i lists' ≡ id_at m i lists
  add-apart m i apart = added.ids m i ∙ ap (λ b. cond b (Some id) (id_at m i lists)) apart

  -- the place of an id that is listed now, if the id had none before, or one that is not this
  placed-by : (x m i : ℕ) → id_at m i lists' ≡ Some x → (place_at id places ≡ Some (at m i) → ⊥)
      → place_at x places' ≡ Some (at m i)
  placed-by x m i h differ =
      elim (bool_cases (eqb m moment && eqb i index)) [
        | inl here ↦
            (let x_is : x ≡ id = some-is x id (sym h ∙ add-here m i here) in
            let is : (eqb m moment ≡ true) × (eqb i index ≡ true) = and-true (eqb m moment) (eqb i index) here in
            set-same x (ap (λ y. eqb y id) x_is ∙ eqb-same id)
            ∙ places-same moment m index i (sym (eqb-true m moment is.0)) (sym (eqb-true i index is.1)))
        | inr apart ↦
            (let was : place_at x places ≡ Some (at m i) = tied.placed x m i (sym (add-apart m i apart) ∙ h) in
            elim (bool_cases (eqb x id)) [
              | inl same ↦ absurd (differ (ap (λ y. place_at y places) (sym (eqb-true x id same)) ∙ was))
              | inr other ↦ set-other x other ∙ was
            ])
      ]

  listed-by : (x m i : ℕ) → place_at x places' ≡ Some (at m i) → id_at m i lists' ≡ Some x
  listed-by x m i h =
      elim (bool_cases (eqb x id)) [
        | inl same ↦
            (let is : at moment index ≡ at m i = some-is (at moment index) (at m i) (sym (set-same x same) ∙ h) in
            add-here m i
            (both m moment i index (ap (λ (p : Place). p.moment) (sym is)) (ap (λ (p : Place). p.index) (sym is)))
            ∙ ap Some (sym (eqb-true x id same)))
        | inr other ↦
            (let was : id_at m i lists ≡ Some x = tied.listed x m i (sym (set-other x other) ∙ h) in
            elim (bool_cases (eqb m moment && eqb i index)) [
              | inl here ↦
                  absurd
                  (let is : (eqb m moment ≡ true) × (eqb i index ≡ true) = and-true (eqb m moment) (eqb i index) here in
                  let none : id_at m i lists ≡ None =
                  ap (λ k. id_at k i lists) (eqb-true m moment is.0)
                  ∙ ap (λ k. id_at moment k lists) (eqb-true i index is.1) ∙ added.free in
                  cc)
              | inr apart ↦ add-apart m i apart ∙ was
            ])
      ]

  pub tied-new : place_at id places ≡ None → IsTied places' lists'
  tied-new none = record { placed = λ x m i h. placed-by x m i h (λ is. absurd (cc)); listed = listed-by }

  pub tied-moved : (place : Place) → place_at id places ≡ Some place → IsTiedButOne place places' lists'
  tied-moved place was = record {
    leaving = id;
    is_leaving = add-apart place.moment place.index not_here ∙ here;
    placed = λ x m i h apart. placed-by x m i h (λ is.
        let same : place ≡ at m i = some-is place (at m i) (sym was ∙ is) in
        let yes : (eqb m place.moment && eqb i place.index) ≡ true =
        both m place.moment i place.index (ap (λ (p : Place). p.moment) (sym same))
        (ap (λ (p : Place). p.index) (sym same)) in
        cc);
    listed = listed-by;
    apart = λ x m i h.
        elim (bool_cases (eqb m place.moment && eqb i place.index)) [
          | inr not_it ↦ not_it
          | inl it ↦
              absurd (let is : (eqb m place.moment ≡ true) × (eqb i place.index ≡ true) =
              and-true (eqb m place.moment) (eqb i place.index) it in
              let old : id_at m i lists ≡ Some id =
              ap (λ k. id_at k i lists) (eqb-true m place.moment is.0)
              ∙ ap (λ k. id_at place.moment k lists) (eqb-true i place.index is.1) ∙ here in
              elim (bool_cases (eqb x id)) [
                | inl same ↦
                    (let at_is : at moment index ≡ at m i =
                    some-is (at moment index) (at m i) (sym (set-same x same) ∙ h) in
                    let none : id_at m i lists ≡ None =
                    ap (λ k. id_at k i lists) (ap (λ (p : Place). p.moment) (sym at_is))
                    ∙ ap (λ k. id_at moment k lists) (ap (λ (p : Place). p.index) (sym at_is)) ∙ added.free in
                    cc)
                | inr other ↦
                    (let listed : id_at m i lists ≡ Some x = tied.listed x m i (sym (set-other x other) ∙ h) in
                    let x_is : x ≡ id = some-is x id (sym listed ∙ old) in
                    let no : eqb x id ≡ true = ap (λ y. eqb y id) x_is ∙ eqb-same id in cc)
              ])
        ];
  }
    where
      here : id_at place.moment place.index lists ≡ Some id
      here = tied.listed id place.moment place.index was

      not_here : (eqb place.moment moment && eqb place.index index) ≡ false
      not_here =
          elim (bool_cases (eqb place.moment moment && eqb place.index index)) [
            | inr not_it ↦ not_it
            | inl it ↦
                absurd (let is : (eqb place.moment moment ≡ true) × (eqb place.index index ≡ true) =
                and-true (eqb place.moment moment) (eqb place.index index) it in
                let none : id_at place.moment place.index lists ≡ None =
                ap (λ k. id_at k place.index lists) (eqb-true place.moment moment is.0)
                ∙ ap (λ k. id_at moment k lists) (eqb-true place.index index is.1) ∙ added.free in
                let some : id_at place.moment place.index lists ≡ Some id = here in cc)
          ]

  pub tied-after : (known : Option Place) → place_at id places ≡ known → IsTiedBut known places' lists'
  tied-after None none = tied-new none
  tied-after (Some place) was = tied-moved place was

-- the places stay the same
pub tied-same : (places places' : List (Option Place)) (lists : List (ℕ × List ℕ)) → IsTied places lists
    → ((x : ℕ) → place_at x places' ≡ place_at x places) → IsTied places' lists
tied-same places places' lists tied same = record {
  placed = λ x m i h. same x ∙ tied.placed x m i h;
  listed = λ x m i h. tied.listed x m i (sym (same x) ∙ h);
}

-- ---- an id leaves its place
pub tied-cleared : (places places' : List (Option Place)) (lists : List (ℕ × List ℕ)) (id : ℕ) (place : Place)
    → IsTied places lists
    → place_at id places ≡ Some place → ((x : ℕ) → place_at x places' ≡ cond (eqb x id) None (place_at x places))
    → IsTiedButOne place places' lists
tied-cleared places places' lists id place tied was clears = record {
  leaving = id;
  is_leaving = here;
  placed = λ x m i h apart.
      (let at_x : place_at x places ≡ Some (at m i) = tied.placed x m i h in
      elim (bool_cases (eqb x id)) [
        | inl same ↦
            absurd (let is : place ≡ at m i =
            some-is place (at m i) (sym was ∙ ap (λ y. place_at y places) (sym (eqb-true x id same)) ∙ at_x) in
            let yes : (eqb m place.moment && eqb i place.index) ≡ true =
            both m place.moment i place.index (ap (λ (p : Place). p.moment) (sym is))
            (ap (λ (p : Place). p.index) (sym is)) in
            cc)
        | inr other ↦ clears x ∙ ap (λ b. cond b None (place_at x places)) other ∙ at_x
      ]);
  listed = λ x m i h. tied.listed x m i (sym (old x (at m i) h) ∙ h);
  apart = λ x m i h.
      elim (bool_cases (eqb m place.moment && eqb i place.index)) [
        | inr not_it ↦ not_it
        | inl it ↦
            absurd (let is : (eqb m place.moment ≡ true) × (eqb i place.index ≡ true) =
            and-true (eqb m place.moment) (eqb i place.index) it in
            let listed : id_at m i lists ≡ Some x = tied.listed x m i (sym (old x (at m i) h) ∙ h) in
            let there : id_at m i lists ≡ Some id =
            ap (λ k. id_at k i lists) (eqb-true m place.moment is.0)
            ∙ ap (λ k. id_at place.moment k lists) (eqb-true i place.index is.1) ∙ here in
            let x_is : x ≡ id = some-is x id (sym listed ∙ there) in
            let none : place_at x places' ≡ None =
            clears x ∙ ap (λ b. cond b None (place_at x places)) (ap (λ y. eqb y id) x_is ∙ eqb-same id) in
            cc)
      ];
}
  where
    here : id_at place.moment place.index lists ≡ Some id
    here = tied.listed id place.moment place.index was

    old : (x : ℕ) (p : Place) → place_at x places' ≡ Some p → place_at x places' ≡ place_at x places
    old x p h =
        elim (bool_cases (eqb x id)) [
          | inl same ↦
              absurd
              (let none : place_at x places' ≡ None = clears x ∙ ap (λ b. cond b None (place_at x places)) same in cc)
          | inr other ↦ clears x ∙ ap (λ b. cond b None (place_at x places)) other
        ]

pub tied-leaving : (places places' : List (Option Place)) (lists : List (ℕ × List ℕ)) (id : ℕ) (known : Option Place)
    → IsTied places lists
    → place_at id places ≡ known → ((x : ℕ) → place_at x places' ≡ cond (eqb x id) None (place_at x places))
    → IsTiedBut known places' lists
tied-leaving places places' lists id None tied none clears =
    tied-same places places' lists tied (λ x. clears x
    ∙ elim (bool_cases (eqb x id)) as (λ _. cond (eqb x id) None (place_at x places) ≡ place_at x places) [
      | inl same ↦ rw same (sym (ap (λ y. place_at y places) (eqb-true x id same) ∙ none))
      | inr other ↦ rw other refl
    ])
tied-leaving places places' lists id (Some place) tied was clears =
    tied-cleared places places' lists id place tied was clears

-- ---- the place that was left goes to the id that comes there
module _ (places : List (Option Place)) (lists lists' : List (ℕ × List ℕ)) (place : Place)
    (tied : IsTiedButOne place places lists) where
  remove-at : (moved : Option ℕ) (r : RemovesAt lists lists' place.moment place.index moved) (m i : ℕ)
      → eqb m place.moment ≡ true
      → id_at m i lists' ≡ cond (eqb i place.index) moved (cond (eqb i r.last) None (id_at m i lists))
  remove-at moved r m i same =
      r.ids m i
      ∙ ap (λ b. cond b (cond (eqb i place.index) moved (cond (eqb i r.last) None (id_at m i lists))) (id_at m i lists))
      same

  remove-other : (moved : Option ℕ) (r : RemovesAt lists lists' place.moment place.index moved) (m i : ℕ)
      → eqb m place.moment ≡ false
      → id_at m i lists' ≡ id_at m i lists
  remove-other moved r m i other =
      r.ids m i
      ∙ ap (λ b. cond b (cond (eqb i place.index) moved (cond (eqb i r.last) None (id_at m i lists))) (id_at m i lists))
      other

  -- what is left at an index other than these two
  remove-kept : (moved : Option ℕ) (r : RemovesAt lists lists' place.moment place.index moved) (m i : ℕ)
      → eqb i place.index ≡ false → eqb i r.last ≡ false → id_at m i lists' ≡ id_at m i lists
  remove-kept moved r m i a b =
      elim (bool_cases (eqb m place.moment)) [
        | inl same ↦ remove-at moved r m i same
            ∙ ap (λ c. cond c moved (cond (eqb i r.last) None (id_at m i lists))) a
            ∙ ap (λ c. cond c None (id_at m i lists)) b
        | inr other ↦ remove-other moved r m i other
      ]

  -- what is listed afterwards was listed before, and not at the place, unless it is the one that moved
  was-listed : (moved : Option ℕ) (r : RemovesAt lists lists' place.moment place.index moved) (x m i : ℕ)
      → id_at m i lists' ≡ Some x
      → ((eqb m place.moment && eqb i place.index) ≡ true) × (moved ≡ Some x)
      ⊎ ((eqb m place.moment && eqb i place.index) ≡ false) × (id_at m i lists ≡ Some x)
      × ((eqb m place.moment && eqb i r.last) ≡ false)
  was-listed moved r x m i h =
      elim (bool_cases (eqb m place.moment)) [
        | inr other ↦
            inr (
              ap (λ b. b && eqb i place.index) other,
              sym (remove-other moved r m i other) ∙ h,
              ap (λ b. b && eqb i r.last) other,
            )
        | inl same ↦
            elim (bool_cases (eqb i place.index)) [
              | inl here ↦ inl (
                rw (same, here) refl,
                sym (remove-at moved r m i same
                    ∙ ap (λ c. cond c moved (cond (eqb i r.last) None (id_at m i lists))) here)
                    ∙ h,
              )
              | inr apart ↦
                  elim (bool_cases (eqb i r.last)) [
                    | inl end ↦ absurd (let none : id_at m i lists' ≡ None = remove-at moved r m i same
                        ∙ ap (λ c. cond c moved (cond (eqb i r.last) None (id_at m i lists))) apart
                        ∙ ap (λ c. cond c None (id_at m i lists)) end in
                        cc)
                    | inr inner ↦
                        inr
                        (rw (same, apart) refl, sym (remove-kept moved r m i apart inner) ∙ h, rw (same, inner) refl)
                  ]
            ]
      ]

  -- the place of the id that moved
  pub moved-from : (moved : ℕ) (r : RemovesAt lists lists' place.moment place.index (Some moved))
      → place_at moved places ≡ Some (at place.moment r.last)
  moved-from moved r =
      tied.placed moved place.moment r.last r.is_last.1
      (ap (λ b. b && eqb r.last place.index) (eqb-same place.moment) ∙ eqb-false r.last place.index r.is_last.0)

  pub tied-filled : (places' : List (Option Place)) (moved : ℕ)
      → RemovesAt lists lists' place.moment place.index (Some moved)
      → ((x : ℕ) → place_at x places' ≡ cond (eqb x moved) (Some place) (place_at x places)) → IsTied places' lists'
  tied-filled places' moved r fills = record {
    placed = λ x m i h.
        elim (was-listed (Some moved) r x m i h) [
          | inl here ↦
              (let is : (eqb m place.moment ≡ true) × (eqb i place.index ≡ true) =
              and-true (eqb m place.moment) (eqb i place.index) here.0 in
              let x_is : x ≡ moved = some-is x moved (sym here.1) in
              fills x ∙ ap (λ b. cond b (Some place) (place_at x places)) (ap (λ y. eqb y moved) x_is ∙ eqb-same moved)
              ∙ places-same place.moment m place.index i (sym (eqb-true m place.moment is.0))
              (sym (eqb-true i place.index is.1)))
          | inr was ↦
              (let at_x : place_at x places ≡ Some (at m i) = tied.placed x m i was.1 was.0 in
              elim (bool_cases (eqb x moved)) [
                | inl same ↦
                    absurd (let is : at place.moment r.last ≡ at m i =
                    some-is (at place.moment r.last) (at m i)
                    (sym (moved-from moved r) ∙ ap (λ y. place_at y places) (sym (eqb-true x moved same)) ∙ at_x) in
                    let yes : (eqb m place.moment && eqb i r.last) ≡ true =
                    both m place.moment i r.last (ap (λ (p : Place). p.moment) (sym is))
                    (ap (λ (p : Place). p.index) (sym is)) in
                    let no : (eqb m place.moment && eqb i r.last) ≡ false = was.2 in cc)
                | inr other ↦ fills x ∙ ap (λ b. cond b (Some place) (place_at x places)) other ∙ at_x
              ])
        ];
    listed = λ x m i h.
        elim (bool_cases (eqb x moved)) [
          | inl same ↦
              (let is : place ≡ at m i =
              some-is place (at m i) (sym (fills x ∙ ap (λ b. cond b (Some place) (place_at x places)) same) ∙ h) in
              let m_is : eqb m place.moment ≡ true =
              ap (λ (p : Place). eqb p.moment place.moment) (sym is) ∙ eqb-same place.moment in
              let i_is : eqb i place.index ≡ true =
              ap (λ (p : Place). eqb p.index place.index) (sym is) ∙ eqb-same place.index in
              remove-at (Some moved) r m i m_is
              ∙ ap (λ c. cond c (Some moved) (cond (eqb i r.last) None (id_at m i lists))) i_is
              ∙ ap Some (sym (eqb-true x moved same)))
          | inr other ↦
              (let at_x : place_at x places ≡ Some (at m i) =
              sym (fills x ∙ ap (λ b. cond b (Some place) (place_at x places)) other) ∙ h in
              let was : id_at m i lists ≡ Some x = tied.listed x m i at_x in
              let apart : (eqb m place.moment && eqb i place.index) ≡ false = tied.apart x m i at_x in
              elim (bool_cases (eqb m place.moment)) [
                | inr far ↦ remove-other (Some moved) r m i far ∙ was
                | inl same ↦
                    (let differ : eqb i place.index ≡ false = sym (ap (λ b. b && eqb i place.index) same) ∙ apart in
                    elim (bool_cases (eqb i r.last)) [
                      | inr inner ↦ remove-kept (Some moved) r m i differ inner ∙ was
                      | inl end ↦
                          absurd (let there : id_at m i lists ≡ Some moved =
                          ap (λ k. id_at k i lists) (eqb-true m place.moment same)
                          ∙ ap (λ k. id_at place.moment k lists) (eqb-true i r.last end) ∙ r.is_last.1 in
                          let x_is : x ≡ moved = some-is x moved (sym was ∙ there) in
                          let no : eqb x moved ≡ true = ap (λ y. eqb y moved) x_is ∙ eqb-same moved in cc)
                    ])
              ])
        ];
  }

-- ---- the least moment
-- an id with a moment has a place
place-of : (places : List (Option Place)) (id moment : ℕ) → moment_at id (moments_from 0 places) ≡ Some moment
    → (index : ℕ) × (place_at id places ≡ Some (at moment index))
place-of places id moment h = found (place_at id places) refl
  where
    found : (known : Option Place) → place_at id places ≡ known
        → (index : ℕ) × (place_at id places ≡ Some (at moment index))
    found None is =
        absurd (let no : moment_at id (moments_from 0 places) ≡ None = held id places ∙ ap moment_in is in cc)
    found (Some place) is =
        let same : place.moment ≡ moment = some-is place.moment moment (sym (held id places ∙ ap moment_in is) ∙ h) in
        (place.index, is ∙ ap (λ m. Some (at m place.index)) same)

moment-of : (places : List (Option Place)) (id moment index : ℕ) → place_at id places ≡ Some (at moment index)
    → moment_at id (moments_from 0 places) ≡ Some moment
moment-of places id moment index h = held id places ∙ ap moment_in h

no_moments : (places : List (Option Place)) (lists : List (ℕ × List ℕ)) → IsTied places lists → lists ≡ []
    → (id moment : ℕ) → moment_at id (moments_from 0 places) ≡ Some moment → ⊥
no_moments places lists tied none id moment h =
    let place : (index : ℕ) × (place_at id places ≡ Some (at moment index)) = place-of places id moment h in
    let here : id_at moment place.0 lists ≡ Some id = tied.listed id moment place.0 place.1 in
    let no : id_at moment place.0 lists ≡ None = ap (id_at moment place.0) none in cc

none_without : (queue : List (ℕ × ℕ)) → ((id moment : ℕ) → moment_at id queue ≡ Some moment → ⊥) → values_of queue ≡ []
none_without [] h = refl
none_without (e ∷ es) h = absurd (h e.0 e.1 (ap (λ b. cond b (Some e.1) (moment_at e.0 es)) (at-same e.0)))

has_value : (queue : List (ℕ × ℕ)) (id moment : ℕ) → moment_at id queue ≡ Some moment
    → Contains (values_of queue) moment
has_value [] id moment h = absurd (cc)
has_value (e ∷ es) id moment h =
    elim (is_at (nat_cmp id) e.0) as
    (λ b. cond b (Some e.1) (moment_at id es) ≡ Some moment → Contains (e.1 ∷ values_of es) moment) [
      | true ↦
          λ is. (let same : e.1 ≡ moment = cc in
          rw same (Contains-append_left (moment ∷ []) (values_of es) moment (Contains-push [] moment)))
      | false ↦ λ is. Contains-append_right (e.1 ∷ []) (values_of es) moment (has_value es id moment is)
    ] h

least_value : (places : List (Option Place)) (lists : List (ℕ × List ℕ)) (moment : ℕ) → IsTied places lists
    → IsEarliest lists moment
    → (id : ℕ) (known : Option ℕ) → moment_at id (moments_from 0 places) ≡ known → IfSome known (λ m. moment ≤ m)
least_value places lists moment tied least id None is = tt
least_value places lists moment tied least id (Some m) is =
    let place : (index : ℕ) × (place_at id places ≡ Some (at m index)) = place-of places id m is in
    least.least m place.0 id (tied.listed id m place.0 place.1)

pub next-first : (places : List (Option Place)) (lists : List (ℕ × List ℕ)) (first : Option ℕ) → IsTied places lists
    → IsFirst lists first
    → IsNext (moments_from 0 places) first
next-first places lists None tied h = none_without (moments_from 0 places) (no_moments places lists tied h)
next-first places lists (Some moment) tied h = (
  has_value (moments_from 0 places) h.id moment
      (moment-of places h.id moment 0 (tied.placed h.id moment 0 h.is_listed)),
  All-values_from_lookup (eq_by_cmp_equiv nat_cmp_total) (λ m. moment ≤ m) (moments_from 0 places)
      (IsDistinct-from_sorted nat_cmp (keys_of (moments_from 0 places)) (rising places))
      (λ id. least_value places lists moment tied h id (moment_at id (moments_from 0 places)) refl),
)

-- ---- whether something is due
pub due-none : (now next : ℕ) (queue : List (ℕ × ℕ)) → All (λ m. next ≤ m) (values_of queue) → nat_le next now ≡ false
    → due_ids now queue ≡ []
due-none now next [] h late = refl
due-none now next (e ∷ es) h late =
    let least : next ≤ e.1 = All-head (λ m. next ≤ m) e.1 (values_of es) h in
    let after : nat_le e.1 now ≡ false = grind (arith, nat_tests) in
    rw after (due-none now next es (All-tail (λ m. next ≤ m) e.1 (values_of es) h) late)

pub due-empty : (now : ℕ) (queue : List (ℕ × ℕ)) → values_of queue ≡ [] → due_ids now queue ≡ []
due-empty now [] h = refl
due-empty now (e ∷ es) h = absurd (cc)

all_later : (now : ℕ) (queue : List (ℕ × ℕ)) → due_ids now queue ≡ []
    → All (λ m. nat_le m now ≡ false) (values_of queue)
all_later now [] h = All-nil (λ m. nat_le m now ≡ false)
all_later now (e ∷ es) h =
    elim (bool_cases (nat_le e.1 now)) [
      | inl due ↦
          absurd (let is : map (λ (x : ℕ × ℕ). x.0) (e ∷ filter (λ x. nat_le x.1 now) es) ≡ [] =
          ap
          (λ b.
          map (λ (x : ℕ × ℕ). x.0) (cond b (e ∷ filter (λ x. nat_le x.1 now) es) (filter (λ x. nat_le x.1 now) es)))
          (sym due)
          ∙ h in
          cc)
      | inr late ↦ All-cons (λ m. nat_le m now ≡ false) e.1 (values_of es) late
          (all_later now es (ap
          (λ b.
          map (λ (x : ℕ × ℕ). x.0) (cond b (e ∷ filter (λ x. nat_le x.1 now) es) (filter (λ x. nat_le x.1 now) es)))
          (sym late)
          ∙ h))
    ]

pub due-some : (now moment : ℕ) (queue : List (ℕ × ℕ)) → Contains (values_of queue) moment → nat_le moment now ≡ true
    → due_ids now queue ≢ []
due-some now moment queue has due none =
    let late : nat_le moment now ≡ false =
    All-contains (λ m. nat_le m now ≡ false) (values_of queue) moment (all_later now queue none) has in
    absurd (cc)

-- ---- the ids that are due
all_some : (q : ℕ) (p : ℕ × ℕ → Bool) (es : List (ℕ × ℕ)) → AllByRecursion (λ k. nat_cmp q k ≡ Less) (keys_of es)
    → AllByRecursion (λ k. nat_cmp q k ≡ Less) (map (λ e. e.0) (filter p es))
all_some q p [] h = h
all_some q p (e ∷ es) h =
    elim (p e) as
    (λ b. AllByRecursion (λ k. nat_cmp q k ≡ Less) (map (λ (x : ℕ × ℕ). x.0) (cond b (e ∷ filter p es) (filter p es))))
    [ true ↦ (h.0, all_some q p es h.1) | false ↦ all_some q p es h.1 ]

pub rising_some : (p : ℕ × ℕ → Bool) (es : List (ℕ × ℕ)) → IsRising es
    → IsStrictlySortedBy nat_cmp (map (λ e. e.0) (filter p es))
unfolding IsStrictlySortedBy
rising_some p [] s = s
rising_some p (e ∷ es) s =
    elim (p e) as (λ b. IsStrictlySortedBy nat_cmp (map (λ (x : ℕ × ℕ). x.0) (cond b (e ∷ filter p es) (filter p es))))
    [ true ↦ (all_some e.0 p es s.0, rising_some p es s.1) | false ↦ rising_some p es s.1 ]

listed_by_moment : (now q : ℕ) (places : List (Option Place)) (lists : List (ℕ × List ℕ)) (ids : List ℕ)
    (known : Option ℕ)
    → IsTied places lists
    → AreListedBy now ids lists → moment_at q (moments_from 0 places) ≡ known
    → list_any (is_at (nat_cmp q)) ids ≡ is_by now known
listed_by_moment now q places lists ids None tied are is =
    elim (bool_cases (list_any (is_at (nat_cmp q)) ids)) [
      | inr none ↦ none
      | inl any ↦ absurd (let by : IsListedBy now q lists = are.listed q any in
          let yes : moment_at q (moments_from 0 places) ≡ Some by.moment =
          moment-of places q by.moment by.index (tied.placed q by.moment by.index by.is_listed) in
          cc)
    ]
listed_by_moment now q places lists ids (Some m) tied are is =
    elim (bool_cases (nat_le m now)) [
      | inl due ↦
          (let place : (index : ℕ) × (place_at q places ≡ Some (at m index)) = place-of places q m is in
          are.all q (record { moment = m; index = place.0; is_listed = tied.listed q m place.0 place.1; by = due })
          ∙ sym due)
      | inr late ↦
          elim (bool_cases (list_any (is_at (nat_cmp q)) ids)) [
            | inr none ↦ none ∙ sym late
            | inl any ↦ absurd (let by : IsListedBy now q lists = are.listed q any in
                let yes : moment_at q (moments_from 0 places) ≡ Some by.moment =
                moment-of places q by.moment by.index (tied.placed q by.moment by.index by.is_listed) in
                let same : m ≡ by.moment = some-is m by.moment (sym is ∙ yes) in
                let no : nat_le m now ≡ true = ap (λ x. nat_le x now) same ∙ by.by in cc)
          ]
    ]

-- a set made of the ids that are listed by the moment holds the ids that are due
pub due-set : (now : ℕ) (places : List (Option Place)) (lists : List (ℕ × List ℕ)) (ids : BTreeSet ℕ)
    → IsTied places lists
    → IsStrictlySortedBy nat_cmp ids.keys → AreListedBy now ids.keys lists
    → ids.keys ≡ due_ids now (moments_from 0 places)
due-set now places lists ids tied sorted are =
    let queue : List (ℕ × ℕ) = moments_from 0 places in
    btree_set_from_contains nat_cmp_total ids (record { keys = due_ids now queue }) sorted
    (rising_some (λ e. nat_le e.1 now) queue (rising places))
    (λ q. listed_by_moment now q places lists ids.keys (moment_at q queue) tied are refl
    ∙ sym (due-is_by now q queue (rising places)))
    exact_unsigned

-- ---- as the functions use them
-- an id that has the moment already
pub moment-stays : (id due : ℕ) (queue : List (ℕ × ℕ)) → moment_at id queue ≡ Some due → Sets queue queue id (Some due)
moment-stays id due queue is other =
    elim (bool_cases (eqb other id)) as
    (λ _. moment_at other queue ≡ cond (eqb other id) (Some due) (moment_at other queue)) [
      | inl same ↦ rw same (ap (λ x. moment_at x queue) (eqb-true other id same) ∙ is)
      | inr apart ↦ rw apart refl
    ]

pub none_due : (now next : ℕ) (queue : List (ℕ × ℕ)) (first : Option ℕ) → first ≡ Some next → IsNext queue first
    → nat_le next now ≡ false → due_ids now queue ≡ []
none_due now next queue first at h late =
    let P : Option ℕ → Type 0 = λ known. IsNext queue known in let least : IsNext queue (Some next) = subst P at h in
    due-none now next queue least.1 late

pub some_due : (now next : ℕ) (queue : List (ℕ × ℕ)) (first : Option ℕ) → first ≡ Some next → IsNext queue first
    → nat_le next now ≡ true → due_ids now queue ≢ []
some_due now next queue first at h due none =
    let P : Option ℕ → Type 0 = λ known. IsNext queue known in let least : IsNext queue (Some next) = subst P at h in
    due-some now next queue least.0 due none

pub never_due : (now : ℕ) (queue : List (ℕ × ℕ)) (first : Option ℕ) → first ≡ None → IsNext queue first
    → due_ids now queue ≡ []
never_due now queue first at h =
    let P : Option ℕ → Type 0 = λ known. IsNext queue known in let least : IsNext queue None = subst P at h in
    due-empty now queue least
