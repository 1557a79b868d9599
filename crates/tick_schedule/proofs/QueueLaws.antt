-- Laws of queues of due moments.
use Rattle.std.proofs.Common.{◌≡◌, ℕ, Bool, true, false, not, cond, ◌||◌, eqb, nat_le, List, [], ◌∷◌, ◌++◌, map, filter}
use Rattle.std.proofs.Common.{Option, None, Some, arith, refl, sym, ◌∙◌, ap}
use Rattle.std.specs.List.{All, list_any, AllByRecursion, Contains}
use Rattle.std.specs.List.Sorted.{IsStrictlySortedBy}
use Rattle.std.specs.Map.{keys_of}
use Rattle.std.specs.Ordering.{nat_cmp, is_eq}
use Rattle.std.specs.Cmp.{nat_cmp_total, eq_by_cmp_equiv}
use Rattle.std.specs.declared.cmp.Ordering.TheVariants.{Less}
use Rattle.std.specs.BTreeMap.{is_at}
use Rattle.std.proofs.lemmas.Bool.Decides.{nat_tests}
use Rattle.std.proofs.lemmas.List.Elements.{All-head, All-tail, All-weaker, All-contains_itself}
use Rattle.std.proofs.lemmas.List.Folds.{list_any-append}
use Rattle.std.proofs.lemmas.Map.Keys.{IsDistinct-from_sorted}
use Rattle.std.proofs.lemmas.Map.Views.{lookup-from_Contains}
use Rattle.tick_schedule.specs.Queue.{moment_at, IsRising, due_ids, due_later, without}

-- ---- tests of ids
pub at-eqb : (q k : ℕ) → is_at (nat_cmp q) k ≡ eqb q k
at-eqb q k = grind (arith, nat_tests)

pub eqb-comm : (x y : ℕ) → eqb x y ≡ eqb y x
eqb-comm x y = grind (arith, nat_tests)

pub at-same : (q : ℕ) → is_at (nat_cmp q) q ≡ true
at-same q = grind (arith, nat_tests)

pub at-true : (q k : ℕ) → is_at (nat_cmp q) k ≡ true → q ≡ k
at-true q k h = grind (arith, nat_tests)

pub at-less : (q k : ℕ) → nat_cmp q k ≡ Less → is_at (nat_cmp q) k ≡ false
at-less q k h = ap is_eq h

-- ---- filters
pub filter-agree : {X : Type 0} (f g : X → Bool) (xs : List X) → All (λ x. f x ≡ g x) xs → filter f xs ≡ filter g xs
filter-agree f g [] h = refl
filter-agree f g (x ∷ xs) h =
    rw (All-head (λ x. f x ≡ g x) x xs h, filter-agree f g xs (All-tail (λ x. f x ≡ g x) x xs h)) refl

pub rising-rest : (e : ℕ × ℕ) (es : List (ℕ × ℕ)) → IsRising (e ∷ es) → IsRising es
unfolding IsStrictlySortedBy
rising-rest e es s = s.1

rising-first : (e : ℕ × ℕ) (es : List (ℕ × ℕ)) → IsRising (e ∷ es)
    → AllByRecursion (λ k. nat_cmp e.0 k ≡ Less) (keys_of es)
unfolding IsStrictlySortedBy
rising-first e es s = s.0

-- an id below all ids is not among those that pass
absent : (q : ℕ) (p : ℕ × ℕ → Bool) (es : List (ℕ × ℕ)) → AllByRecursion (λ k. nat_cmp q k ≡ Less) (keys_of es)
    → list_any (is_at (nat_cmp q)) (map (λ e. e.0) (filter p es)) ≡ false
absent q p [] h = refl
absent q p (e ∷ es) h =
    elim (p e) as
    (λ b. list_any (is_at (nat_cmp q)) (map (λ (x : ℕ × ℕ). x.0) (cond b (e ∷ filter p es) (filter p es))) ≡ false)
    [ true ↦ rw (at-less q e.0 h.0) (absent q p es h.1) | false ↦ absent q p es h.1 ]

pub keeps_all : (q : ℕ) (es : List (ℕ × ℕ)) → AllByRecursion (λ k. nat_cmp q k ≡ Less) (keys_of es)
    → filter (λ e. not (eqb e.0 q)) es ≡ es
keeps_all q [] h = refl
keeps_all q (e ∷ es) h =
    let differ : eqb e.0 q ≡ false = eqb-comm e.0 q ∙ sym (at-eqb q e.0) ∙ at-less q e.0 h.0 in
    rw (differ, keeps_all q es h.1) refl

-- ---- the moment of an id
-- whether the moment is at or before `now`
abbrev pub is_by : ℕ → Option ℕ → Bool
is_by now None = false
is_by now (Some moment) = nat_le moment now

pub found : (es : List (ℕ × ℕ)) → IsRising es → All (λ e. moment_at e.0 es ≡ Some e.1) es
found es s =
    All-weaker (Contains es) (λ e. moment_at e.0 es ≡ Some e.1)
    (λ e.
    lookup-from_Contains (eq_by_cmp_equiv nat_cmp_total) e.0 e.1 es (IsDistinct-from_sorted nat_cmp (keys_of es) s))
    es (All-contains_itself es)

due-step : (now q : ℕ) (e : ℕ × ℕ) (es : List (ℕ × ℕ)) (p b : Bool) → nat_le e.1 now ≡ p → is_at (nat_cmp q) e.0 ≡ b
    → AllByRecursion (λ k. nat_cmp e.0 k ≡ Less) (keys_of es)
    → list_any (is_at (nat_cmp q)) (due_ids now es) ≡ is_by now (moment_at q es)
    → list_any (is_at (nat_cmp q))
    (map (λ (x : ℕ × ℕ). x.0) (cond p (e ∷ filter (λ x. nat_le x.1 now) es) (filter (λ x. nat_le x.1 now) es)))
    ≡ is_by now (cond b (Some e.1) (moment_at q es))
due-step now q e es true true hp hb below rest = rw hb (sym hp)
due-step now q e es true false hp hb below rest = rw hb rest
due-step now q e es false true hp hb below rest =
    absent q (λ x. nat_le x.1 now) es (rw (at-true q e.0 hb) below) ∙ sym hp
due-step now q e es false false hp hb below rest = rest

-- an id is among those due exactly if its moment is at or before `now`
pub due-is_by : (now q : ℕ) (es : List (ℕ × ℕ)) → IsRising es
    → list_any (is_at (nat_cmp q)) (due_ids now es) ≡ is_by now (moment_at q es)
due-is_by now q [] s = refl
due-is_by now q (e ∷ es) s =
    due-step now q e es (nat_le e.1 now) (is_at (nat_cmp q) e.0) refl refl (rising-first e es s)
    (due-is_by now q es (rising-rest e es s))

-- what is left once those due are removed
pub later-left : (now : ℕ) (es : List (ℕ × ℕ)) → IsRising es
    → filter (λ e. not (list_any (is_at (nat_cmp e.0)) (due_ids now es))) es ≡ due_later now es
later-left now es s =
    filter-agree (λ e. not (list_any (is_at (nat_cmp e.0)) (due_ids now es))) (λ e. not (nat_le e.1 now)) es
    (All-weaker (λ e. moment_at e.0 es ≡ Some e.1)
    (λ e. not (list_any (is_at (nat_cmp e.0)) (due_ids now es)) ≡ not (nat_le e.1 now))
    (λ e h. ap not (due-is_by now e.0 es s ∙ ap (is_by now) h)) es (found es s))

pub none-later : (now : ℕ) (es : List (ℕ × ℕ)) → due_ids now es ≡ [] → due_later now es ≡ es
none-later now [] h = refl
none-later now (e ∷ es) h =
    elim (nat_le e.1 now) as
    (λ b. map (λ (x : ℕ × ℕ). x.0) (cond b (e ∷ filter (λ x. nat_le x.1 now) es) (filter (λ x. nat_le x.1 now) es)) ≡ []
    → cond (not b) (e ∷ due_later now es) (due_later now es) ≡ e ∷ es)
    [ true ↦ λ is. absurd (cc) | false ↦ λ is. ap (λ rest. e ∷ rest) (none-later now es is) ] h

-- one more id removed
pub without-more : (ids : List ℕ) (id : ℕ) (es : List (ℕ × ℕ))
    → without id (filter (λ e. not (list_any (is_at (nat_cmp e.0)) ids)) es)
    ≡ filter (λ e. not (list_any (is_at (nat_cmp e.0)) (ids ++ id ∷ []))) es
without-more ids id [] = refl
without-more ids id (e ∷ es) =
    rw (list_any-append (is_at (nat_cmp e.0)) ids (id ∷ []), at-eqb e.0 id)
    (elim (list_any (is_at (nat_cmp e.0)) ids) as
    (λ b. filter (λ (x : ℕ × ℕ). not (eqb x.0 id))
    (cond (not b) (e ∷ filter (λ e. not (list_any (is_at (nat_cmp e.0)) ids)) es)
    (filter (λ e. not (list_any (is_at (nat_cmp e.0)) ids)) es))
    ≡ cond (not (b || (eqb e.0 id || false)))
    (e ∷ filter (λ e. not (list_any (is_at (nat_cmp e.0)) (ids ++ id ∷ []))) es)
    (filter (λ e. not (list_any (is_at (nat_cmp e.0)) (ids ++ id ∷ []))) es)) [
      | true ↦ without-more ids id es
      | false ↦
          elim (eqb e.0 id) as (λ c. cond (not c)
          (e ∷ without id (filter (λ e. not (list_any (is_at (nat_cmp e.0)) ids)) es))
          (without id (filter (λ e. not (list_any (is_at (nat_cmp e.0)) ids)) es))
          ≡ cond (not (c || false)) (e ∷ filter (λ e. not (list_any (is_at (nat_cmp e.0)) (ids ++ id ∷ []))) es)
          (filter (λ e. not (list_any (is_at (nat_cmp e.0)) (ids ++ id ∷ []))) es))
          [ true ↦ without-more ids id es | false ↦ ap (λ rest. e ∷ rest) (without-more ids id es) ]
    ])

pub without-none : (es : List (ℕ × ℕ)) → filter (λ e. not (list_any (is_at (nat_cmp e.0)) [])) es ≡ es
without-none [] = refl
without-none (e ∷ es) = ap (λ rest. e ∷ rest) (without-none es)
