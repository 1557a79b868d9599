-- Pairs in strictly rising order of their keys: the look-ups of all keys determine the pairs, and each pair is found by
-- its
-- key.
use Rattle.std.proofs.Common.{◌≡◌, ◌≢◌, Bool, true, false, List, [], ◌∷◌, Option, None, Some, refl, sym, ap, ◌∙◌}
use mathlib.Core.Bool.{true≢false}
use Rattle.std.specs.declared.cmp.Ordering.{Ordering}
use Rattle.std.specs.declared.cmp.Ordering.TheVariants.{Less, Equal, Greater}
use Rattle.std.specs.Ordering.{is_eq, eq_by_cmp, ordering_reverse}
use Rattle.std.specs.Option.{is_some}
use Rattle.std.specs.Cmp.{IsTotalOrder}
use Rattle.std.specs.List.Sorted.{IsStrictlySortedBy}
use Rattle.std.specs.Map.{lookup, keys_of}
use Rattle.std.specs.BTreeMap.{is_at}
use Rattle.std.proofs.lemmas.Cmp.{eq_by_cmp_equiv, tied_itself}
use Rattle.std.proofs.lemmas.Map.{lookup-none}
use Rattle.std.proofs.lemmas.Map.Keys.{sorted_tail, IsDistinct-from_sorted}
use Rattle.std.proofs.lemmas.Map.Entries.{lookup_head, lookup_tail, none_past_head, none_below_head}
use Rattle.std.proofs.lemmas.Map.Lookups.{CmpEqualImpliesEq}

not_none : {X : Type 0} (v : X) → Some v ≢ None
not_none v e = true≢false (ap is_some e)

value-of : {X : Type 0} (v w : X) → Some v ≡ Some w → v ≡ w
value-of v w e = cc

module _ {K X : Type 0} {R : K → K → Ordering} (o : IsTotalOrder R) where
  abbrev found : List (K × X) → K → Option X
  found es q = lookup (is_at (R q)) es

  pub at_head : (x : K × X) (xs : List (K × X)) → found (x ∷ xs) x.0 ≡ Some x.1
  at_head x xs = lookup_head (is_at (R x.0)) x xs (ap is_eq (tied_itself o x.0))

  past_head : (q : K) (x : K × X) (xs : List (K × X)) → IsStrictlySortedBy R (keys_of (x ∷ xs))
      → eq_by_cmp R q x.0 ≡ true → found xs q ≡ None
  past_head q x xs s t =
      lookup-none (is_at (R q)) xs
      (none_past_head (eq_by_cmp_equiv o) q x xs (IsDistinct-from_sorted R (keys_of (x ∷ xs)) s) t)

  -- what is found past the first pair is found from it on
  pub still_found : (q : K) (v : X) (x : K × X) (xs : List (K × X)) → IsStrictlySortedBy R (keys_of (x ∷ xs))
      → found xs q ≡ Some v → found (x ∷ xs) q ≡ Some v
  still_found q v x xs s h = found_by (eq_by_cmp R q x.0) refl
    where
      found_by : (b : Bool) → eq_by_cmp R q x.0 ≡ b → found (x ∷ xs) q ≡ Some v
      found_by true is = absurd (not_none v (sym h ∙ past_head q x xs s is))
      found_by false apart = lookup_tail (is_at (R q)) x xs apart ∙ h

  module _ (x y : K × X) (xs ys : List (K × X)) (s : IsStrictlySortedBy R (keys_of (x ∷ xs)))
      (t : IsStrictlySortedBy R (keys_of (y ∷ ys))) (h : (q : K) → found (x ∷ xs) q ≡ found (y ∷ ys) q) where
    by_heads : (r : Ordering) → R x.0 y.0 ≡ r → R x.0 y.0 ≡ Equal
    by_heads Less p =
        absurd (not_none x.1
        (sym (at_head x xs) ∙ h x.0 ∙ lookup-none (is_at (R x.0)) (y ∷ ys) (none_below_head o x.0 y ys t p)))
    by_heads Equal p = p
    by_heads Greater p =
        absurd (not_none y.1 (sym (at_head y ys) ∙ sym (h y.0)
        ∙ lookup-none (is_at (R y.0)) (x ∷ xs)
        (none_below_head o y.0 x xs s (o.antisymm y.0 x.0 ∙ ap ordering_reverse p))))

    heads : R x.0 y.0 ≡ Equal
    heads = by_heads (R x.0 y.0) refl

    values : x.1 ≡ y.1
    values = value-of x.1 y.1 (sym (at_head x xs) ∙ h x.0 ∙ lookup_head (is_at (R x.0)) y ys (ap is_eq heads))

    tails : (q : K) → found xs q ≡ found ys q
    tails q = tails_by (eq_by_cmp R q x.0) refl
      where
        alike : eq_by_cmp R q y.0 ≡ eq_by_cmp R q x.0
        alike =
            (eq_by_cmp_equiv o).symm q y.0 ∙ sym ((eq_by_cmp_equiv o).congr x.0 y.0 q (ap is_eq heads))
            ∙ (eq_by_cmp_equiv o).symm x.0 q

        tails_by : (b : Bool) → eq_by_cmp R q x.0 ≡ b → found xs q ≡ found ys q
        tails_by true is = past_head q x xs s is ∙ sym (past_head q y ys t (alike ∙ is))
        tails_by false apart =
            sym (lookup_tail (is_at (R q)) x xs apart) ∙ h q ∙ lookup_tail (is_at (R q)) y ys (alike ∙ apart)

  pub same_pairs : CmpEqualImpliesEq R → (es fs : List (K × X)) → IsStrictlySortedBy R (keys_of es)
      → IsStrictlySortedBy R (keys_of fs) → ((q : K) → found es q ≡ found fs q) → es ≡ fs
  same_pairs exact [] [] s t h = refl
  same_pairs exact [] (y ∷ ys) s t h = absurd (not_none y.1 (sym (h y.0 ∙ at_head y ys)))
  same_pairs exact (x ∷ xs) [] s t h = absurd (not_none x.1 (sym (at_head x xs) ∙ h x.0))
  same_pairs exact (x ∷ xs) (y ∷ ys) s t h =
      let rest =
      same_pairs exact xs ys (sorted_tail R x.0 (keys_of xs) s) (sorted_tail R y.0 (keys_of ys) t)
      (tails x y xs ys s t h) in
      λ i. (exact x.0 y.0 (heads x y xs ys s t h) i, values x y xs ys s t h i) ∷ rest i
