-- How many keys have a number after one more or one less has.
use Rattle.std.proofs.Common.{◌≡◌, ℕ, suc, Bool, true, false, cond, [], ◌∷◌, length, None, Some, refl, sym, ap, ◌∙◌}
use Rattle.std.specs.declared.cmp.Ordering.TheVariants.{Less}
use Rattle.std.specs.List.{AllByRecursion}
use Rattle.std.specs.List.Sorted.{IsStrictlySortedBy}
use Rattle.std.specs.Ordering.{is_eq}
use Rattle.std.specs.Map.{lookup, keys_of, remove_entry}
use Rattle.std.specs.BTreeMap.{is_at}
use Rattle.std.proofs.lemmas.Cmp.{eq_by_cmp_equiv}
use Rattle.std.proofs.lemmas.Map.{lookup-remove_entry}
use Rattle.std.proofs.lemmas.Map.Keys.{IsDistinct-from_sorted}
use Rattle.key_map.specs.Keys.{IndexKey, key_cmp, Numbers, number_at, IsRising, Sets}
use Rattle.live_index.proofs.LinkLaws.{key_total, exact-key, same, same-is, same-self}
use Rattle.live_index.proofs.PairLaws.{same_pairs}

all-removed : (test : IndexKey → Bool) (k : IndexKey) (es : Numbers)
    → AllByRecursion (λ q. key_cmp k q ≡ Less) (keys_of es)
    → AllByRecursion (λ q. key_cmp k q ≡ Less) (keys_of (remove_entry test es))
all-removed test k [] a = tt
all-removed test k (e ∷ es) a = all_by (test e.0) (all-removed test k es a.1)
  where
    all_by : (b : Bool) → AllByRecursion (λ q. key_cmp k q ≡ Less) (keys_of (remove_entry test es))
        → AllByRecursion (λ q. key_cmp k q ≡ Less) (keys_of (cond b es (e ∷ remove_entry test es)))
    all_by true ih = a.1
    all_by false ih = (a.0, ih)

rising-kept : (b : Bool) (e : IndexKey × ℕ) (es rest : Numbers) → IsRising es
    → AllByRecursion (λ q. key_cmp e.0 q ≡ Less) (keys_of rest) → IsRising rest → IsRising (cond b es (e ∷ rest))
unfolding IsStrictlySortedBy
rising-kept true e es rest s a r = s
rising-kept false e es rest s a r = (a, r)

rising-removed : (test : IndexKey → Bool) (es : Numbers) → IsRising es → IsRising (remove_entry test es)
unfolding IsStrictlySortedBy
rising-removed test [] s = tt
rising-removed test (e ∷ es) s =
    rising-kept (test e.0) e es (remove_entry test es) s.1 (all-removed test e.0 es s.0) (rising-removed test es s.1)

length-removed : (test : IndexKey → Bool) (es : Numbers) (n : ℕ) → lookup test es ≡ Some n
    → length es ≡ suc (length (remove_entry test es))
length-removed test [] n h = absurd (cc)
length-removed test (e ∷ es) n h = length_by (test e.0) refl (length-removed test es n)
  where
    length_by : (b : Bool) → test e.0 ≡ b → (lookup test es ≡ Some n → length es ≡ suc (length (remove_entry test es)))
        → suc (length es) ≡ suc (length (cond (test e.0) es (e ∷ remove_entry test es)))
    length_by true is ih = ap suc (sym (ap (λ b. length (cond b es (e ∷ remove_entry test es))) is))
    length_by false is ih =
        ap suc (ih (sym (ap (λ b. cond b (Some e.1) (lookup test es)) is) ∙ h)
        ∙ sym (ap (λ b. length (cond b es (e ∷ remove_entry test es))) is))

-- one key has no number now
pub one_less : (numbers numbers' : Numbers) (k : IndexKey) (n : ℕ) → IsRising numbers → IsRising numbers'
    → number_at k numbers ≡ Some n → Sets numbers numbers' k None → length numbers ≡ suc (length numbers')
one_less numbers numbers' k n rising rising' at sets =
    length-removed (is_at (key_cmp k)) numbers n at ∙ ap (λ (ns : Numbers). suc (length ns)) is
  where
    is : remove_entry (is_at (key_cmp k)) numbers ≡ numbers'
    is =
        same_pairs key_total exact-key (remove_entry (is_at (key_cmp k)) numbers) numbers'
        (rising-removed (is_at (key_cmp k)) numbers rising) rising'
        (λ q. lookup-remove_entry (eq_by_cmp_equiv key_total) (is_at (key_cmp k))
        (λ x y h. ap (λ k. is_eq (key_cmp k y)) (same-is k x h)) q numbers
        (IsDistinct-from_sorted key_cmp (keys_of numbers) rising)
        ∙ sym (sets q))

-- one key has a number now
pub one_more_key : (numbers numbers' : Numbers) (k : IndexKey) (n : ℕ) → IsRising numbers → IsRising numbers'
    → number_at k numbers ≡ None → Sets numbers numbers' k (Some n) → length numbers' ≡ suc (length numbers)
one_more_key numbers numbers' k n rising rising' none sets =
    one_less numbers' numbers k n rising' rising
    (sets k ∙ ap (λ b. cond b (Some n) (number_at k numbers)) (same-self k)) (λ q. back q (same k q) refl)
  where
    back : (q : IndexKey) (b : Bool) → same k q ≡ b → number_at q numbers ≡ cond (same k q) None (number_at q numbers')
    back q true is =
        ap (λ k. number_at k numbers) (sym (same-is k q is)) ∙ none
        ∙ sym (ap (λ b. cond b None (number_at q numbers')) is)
    back q false apart =
        sym (sets q ∙ ap (λ b. cond b (Some n) (number_at q numbers)) apart)
        ∙ sym (ap (λ b. cond b None (number_at q numbers')) apart)
