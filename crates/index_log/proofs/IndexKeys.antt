-- The order of places is total, and what follows of lists in that order.
use Rattle.std.proofs.Common.{◌≡◌, Bool, true, false, cond, List, [], ◌∷◌, refl, sym, ap, ◌∙◌}
use mathlib.Core.Bool.{true≢false}
use Rattle.std.specs.declared.cmp.Ordering.{Ordering}
use Rattle.std.specs.declared.cmp.Ordering.TheVariants.{Less, Equal, Greater}
use Rattle.std.specs.Ordering.{is_lt, is_gt, ordering_reverse}
use Rattle.std.specs.Cmp.{IsTotalOrder}
use Rattle.std.specs.List.{filter}
use Rattle.std.proofs.lemmas.Cmp.{nat_list_cmp_total, lists_total, on_total, then_total, upto, alike_right}
use Rattle.ev_types.specs.declared.event.Event.{Event}
use Rattle.index_log.specs.IndexKey.{listed, text_cmp, event_host, event_service, index_key_cmp}
use Rattle.index_log.specs.Live.{placed, placed_onto}

text_total : IsTotalOrder text_cmp
text_total = on_total listed (lists_total nat_list_cmp_total)

pub index_key_total : IsTotalOrder index_key_cmp
unfolding index_key_cmp
index_key_total = then_total (on_total event_host text_total) (on_total event_service text_total)

-- no event of the list comes before this one
abbrev pub IsNoneBefore : Event → List Event → Type 0
IsNoneBefore a [] = Unit {0}
IsNoneBefore a (b ∷ bs) = (is_gt (index_key_cmp a b) ≡ false) × IsNoneBefore a bs

-- each event of the list comes after this one
abbrev pub AreAfter : Event → List Event → Type 0
AreAfter a [] = Unit {0}
AreAfter a (b ∷ bs) = (is_lt (index_key_cmp a b) ≡ true) × AreAfter a bs

-- no event comes before an earlier one
abbrev pub IsInOrder : List Event → Type 0
IsInOrder [] = Unit {0}
IsInOrder (a ∷ es) = IsNoneBefore a es × IsInOrder es

not_gt_by : (r : Ordering) → is_lt r ≡ true → is_gt r ≡ false
not_gt_by Less h = refl
not_gt_by Equal h = absurd (true≢false (sym h))
not_gt_by Greater h = absurd (true≢false (sym h))

turned_by : (r s : Ordering) → r ≡ ordering_reverse s → is_lt s ≡ false → is_gt r ≡ false
turned_by r Less e h = absurd (true≢false h)
turned_by r Equal e h = ap is_gt e
turned_by r Greater e h = ap is_gt e

-- where a does not come before b, b does not come after a
pub not_gt_turned : (a b : Event) → is_lt (index_key_cmp a b) ≡ false → is_gt (index_key_cmp b a) ≡ false
not_gt_turned a b = turned_by (index_key_cmp b a) (index_key_cmp a b) (index_key_total.antisymm b a)

lt_chain_by : (a b c : Event) (r s : Ordering) → index_key_cmp a b ≡ r → index_key_cmp b c ≡ s → is_lt r ≡ true
    → is_gt s ≡ false → is_lt (index_key_cmp a c) ≡ true
lt_chain_by a b c Less Less p q h k = ap is_lt (index_key_total.trans a b c p q)
lt_chain_by a b c Less Equal p q h k = ap is_lt (sym (alike_right index_key_total b c a q) ∙ p)
lt_chain_by a b c Less Greater p q h k = absurd (true≢false k)
lt_chain_by a b c Equal s p q h k = absurd (true≢false (sym h))
lt_chain_by a b c Greater s p q h k = absurd (true≢false (sym h))

pub lt_chain : (a b c : Event) → is_lt (index_key_cmp a b) ≡ true → is_gt (index_key_cmp b c) ≡ false
    → is_lt (index_key_cmp a c) ≡ true
lt_chain a b c = lt_chain_by a b c (index_key_cmp a b) (index_key_cmp b c) refl refl

none_before_chain : (a b : Event) (bs : List Event) → is_gt (index_key_cmp a b) ≡ false → IsNoneBefore b bs
    → IsNoneBefore a bs
none_before_chain a b [] h k = tt
none_before_chain a b (c ∷ bs) h k = (upto index_key_total a b c h k.0, none_before_chain a b bs h k.1)

after_chain : (a b : Event) (bs : List Event) → is_lt (index_key_cmp a b) ≡ true → IsNoneBefore b bs → AreAfter a bs
after_chain a b [] h k = tt
after_chain a b (c ∷ bs) h k = (lt_chain a b c h k.0, after_chain a b bs h k.1)

-- ---- an event that is put in

-- the step of `placed`, where the test is a variable
abbrev placed_by : Bool → Event → Event → List Event → List Event
placed_by test a b bs = cond test (a ∷ (b ∷ bs)) (b ∷ placed a bs)

none_before-placed_by : (t : Bool) (x a b : Event) (bs : List Event) → is_gt (index_key_cmp x a) ≡ false
    → IsNoneBefore x (b ∷ bs) → IsNoneBefore x (placed a bs) → IsNoneBefore x (placed_by t a b bs)
none_before-placed_by true x a b bs h k ih = (h, k)
none_before-placed_by false x a b bs h k ih = (k.0, ih)

none_before-placed : (x a : Event) (bs : List Event) → is_gt (index_key_cmp x a) ≡ false → IsNoneBefore x bs
    → IsNoneBefore x (placed a bs)
none_before-placed x a [] h k = (h, tt)
none_before-placed x a (b ∷ bs) h k =
    none_before-placed_by (is_lt (index_key_cmp a b)) x a b bs h k (none_before-placed x a bs h k.1)

in_order-placed_by : (t : Bool) (a b : Event) (bs : List Event) → is_lt (index_key_cmp a b) ≡ t → IsInOrder (b ∷ bs)
    → IsInOrder (placed a bs) → IsInOrder (placed_by t a b bs)
in_order-placed_by true a b bs e k ih =
    let before = not_gt_by (index_key_cmp a b) e in
    ((before, none_before_chain a b bs before k.0), k)
in_order-placed_by false a b bs e k ih = (none_before-placed b a bs (not_gt_turned a b e) k.0, ih)

pub in_order-placed : (a : Event) (bs : List Event) → IsInOrder bs → IsInOrder (placed a bs)
in_order-placed a [] k = (tt, tt)
in_order-placed a (b ∷ bs) k = in_order-placed_by (is_lt (index_key_cmp a b)) a b bs refl k (in_order-placed a bs k.1)

-- where all come after it, it comes first
pub placed-first : (a : Event) (bs : List Event) → AreAfter a bs → placed a bs ≡ a ∷ bs
placed-first a [] k = refl
placed-first a (b ∷ bs) k = ap (λ t. placed_by t a b bs) k.0

-- ---- what a filter keeps of a list in order

module _ (p : Event → Bool) where
  following-filter_by : (t : Bool) (a b : Event) (bs : List Event) → AreAfter a (b ∷ bs) → AreAfter a (filter p bs)
      → AreAfter a (cond t (b ∷ filter p bs) (filter p bs))
  following-filter_by true a b bs k ih = (k.0, ih)
  following-filter_by false a b bs k ih = ih

  following-filter : (a : Event) (bs : List Event) → AreAfter a bs → AreAfter a (filter p bs)
  following-filter a [] k = tt
  following-filter a (b ∷ bs) k = following-filter_by (p b) a b bs k (following-filter a bs k.1)

  -- an event that the filter keeps, put in before or after the filter
  kept_by : (t u : Bool) (a b : Event) (bs : List Event) → p a ≡ true → is_lt (index_key_cmp a b) ≡ t → p b ≡ u →
      IsInOrder (b ∷ bs) → filter p (placed a bs) ≡ placed a (filter p bs) →
      filter p (placed_by t a b bs) ≡ placed a (cond u (b ∷ filter p bs) (filter p bs))
  kept_by true true a b bs pa e f k ih =
      ap (λ s. cond s (a ∷ filter p (b ∷ bs)) (filter p (b ∷ bs))) pa
      ∙ ap (λ s. a ∷ cond s (b ∷ filter p bs) (filter p bs)) f ∙ sym (ap (λ s. placed_by s a b (filter p bs)) e)
  kept_by true false a b bs pa e f k ih =
      ap (λ s. cond s (a ∷ filter p (b ∷ bs)) (filter p (b ∷ bs))) pa
      ∙ ap (λ s. a ∷ cond s (b ∷ filter p bs) (filter p bs)) f
      ∙ sym (placed-first a (filter p bs) (following-filter a bs (after_chain a b bs e k.0)))
  kept_by false true a b bs pa e f k ih =
      ap (λ s. cond s (b ∷ filter p (placed a bs)) (filter p (placed a bs))) f ∙ ap (λ s. b ∷ s) ih
      ∙ sym (ap (λ s. placed_by s a b (filter p bs)) e)
  kept_by false false a b bs pa e f k ih = ap (λ s. cond s (b ∷ filter p (placed a bs)) (filter p (placed a bs))) f ∙ ih

  pub filter-placed_kept : (a : Event) (bs : List Event) → p a ≡ true → IsInOrder bs
      → filter p (placed a bs) ≡ placed a (filter p bs)
  filter-placed_kept a [] pa k = ap (λ s. cond s (a ∷ []) []) pa
  filter-placed_kept a (b ∷ bs) pa k =
      kept_by (is_lt (index_key_cmp a b)) (p b) a b bs pa refl refl k (filter-placed_kept a bs pa k.1)

  left_by : (t : Bool) (a b : Event) (bs : List Event) → p a ≡ false → filter p (placed a bs) ≡ filter p bs
      → filter p (placed_by t a b bs) ≡ filter p (b ∷ bs)
  left_by true a b bs pa ih = ap (λ s. cond s (a ∷ filter p (b ∷ bs)) (filter p (b ∷ bs))) pa
  left_by false a b bs pa ih = ap (λ s. cond (p b) (b ∷ s) s) ih

  -- one that it leaves out
  pub filter-placed_left : (a : Event) (bs : List Event) → p a ≡ false → filter p (placed a bs) ≡ filter p bs
  filter-placed_left a [] pa = ap (λ s. cond s (a ∷ []) []) pa
  filter-placed_left a (b ∷ bs) pa = left_by (is_lt (index_key_cmp a b)) a b bs pa (filter-placed_left a bs pa)

  onto_by : (t : Bool) (a : Event) (sorted es : List Event) → p a ≡ t → IsInOrder sorted
      → placed_onto (filter p (placed a sorted)) (filter p es)
      ≡ placed_onto (filter p sorted) (cond t (a ∷ filter p es) (filter p es))
  onto_by true a sorted es pa k = ap (λ s. placed_onto s (filter p es)) (filter-placed_kept a sorted pa k)
  onto_by false a sorted es pa k = ap (λ s. placed_onto s (filter p es)) (filter-placed_left a sorted pa)

  pub filter-placed_onto : (sorted es : List Event) → IsInOrder sorted
      → filter p (placed_onto sorted es) ≡ placed_onto (filter p sorted) (filter p es)
  filter-placed_onto sorted [] k = refl
  filter-placed_onto sorted (a ∷ es) k =
      filter-placed_onto (placed a sorted) es (in_order-placed a sorted k) ∙ onto_by (p a) a sorted es refl k
