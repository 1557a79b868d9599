-- The numbers of links, and what an edit of their list does to them.
use Rattle.std.proofs.Common.{◌≡◌, ℕ, zero, suc, ◌+◌, ◌<◌, ◌≤◌, true, false, List, [], ◌∷◌, ◌++◌, length}
use Rattle.std.proofs.Common.{set, Result, Ok, Err, IfOk, IfErr, refl, sym, ap, ◌∙◌, subst, arith}
use Rattle.std.proofs.Common.{length-append}
use Rattle.std.specs.Prelude.{Option, Some, None}
use Rattle.std.specs.List.{remove}
use Rattle.std.specs.List.Sorted.{IsSearchInRange, IsBinarySearchResult, IsNonDecreasingBy}
use Rattle.std.specs.Ordering.{nat_cmp, ordering_index}
use Rattle.std.proofs.lemmas.Bool.{ltb-true, ltb-false, le-ltb}
use Rattle.std.proofs.lemmas.Bool.Decides.{nat_tests}
use Rattle.std.proofs.lemmas.Cmp.{ranked}
use Rattle.std.proofs.lemmas.List.{get_or_append_left}
use Rattle.std.proofs.lemmas.List.{length-set}
use Rattle.std.proofs.lemmas.List.Edits.{length-remove, get_or-remove_below, get_or-remove_above}
use Rattle.std.proofs.lemmas.List.Sorted.{IsNonDecreasingBy-from_default}
use Rattle.conn_core.specs.Kept.{AreOld, AreRising, HasNoNumber, HasNumberAt, is_newer, number_at}
use Rattle.ports.specs.declared.links.Want.{Want}

abbrev pub number_in : Want → ℕ
number_in want = want.link

abbrev pub no_want : Want
no_want = record { link = 0; read = false; room = false }

-- ---- numbers that are new

pub old_below : (newest : Option ℕ) (old number : ℕ) → is_newer old newest ≡ false → is_newer number newest ≡ true
    → old < number
old_below None old number is new = absurd (cc is)
old_below (Some newest) old number is new =
    let below : old ≤ newest = ltb-false newest old is in
    let above : newest < number = ltb-true newest number new in
    omega arith

pub new_is_absent : (newest : Option ℕ) (wants : List Want) (number : ℕ) → AreOld newest wants
    → is_newer number newest ≡ true → HasNoNumber number wants
new_is_absent newest wants number old new place within same =
    let less = old_below newest (number_at wants place) number (old place within) new in omega arith

pub noted_old : (newest : Option ℕ) (wants : List Want) (number : ℕ) → AreOld newest wants
    → is_newer number newest ≡ true → AreOld (Some number) wants
noted_old newest wants number old new i within =
    let less = old_below newest (number_at wants i) number (old i within) new in
    le-ltb number (number_at wants i) (omega arith)

-- ---- one link more

pub number_before : (wants : List Want) (want : Want) (i : ℕ) → i < length wants
    → number_at (wants ++ want ∷ []) i ≡ number_at wants i
number_before wants want i within = ap number_in (get_or_append_left wants (want ∷ []) no_want i within)

pub number_last : (wants : List Want) (want : Want) (i : ℕ) → i ≡ length wants
    → number_at (wants ++ want ∷ []) i ≡ want.link
number_last [] want i is = subst (λ (n : ℕ). number_at (want ∷ []) n ≡ want.link) (sym is) refl
number_last (first ∷ wants) want i is =
    subst (λ (n : ℕ). number_at (first ∷ wants ++ want ∷ []) n ≡ want.link) (sym is)
    (number_last wants want (length wants) refl)

pub length_more : (wants : List Want) (want : Want) → length (wants ++ want ∷ []) ≡ length wants + 1
length_more wants want = length-append wants (want ∷ [])

pub added_rising : (newest : Option ℕ) (wants : List Want) (want : Want) → AreRising wants → AreOld newest wants
    → is_newer want.link newest ≡ true → AreRising (wants ++ want ∷ [])
added_rising newest wants want rising old new i j less within =
    let count = length_more wants want in
    let below : (k : ℕ) → k < length wants → number_at wants k < want.link =
    λ k in_range. old_below newest (number_at wants k) want.link (old k in_range) new in
    grind (
      arith,
      count,
      number_before wants want i,
      number_before wants want j,
      number_last wants want j,
      rising i j,
      below i,
    )

pub added_old : (newest : Option ℕ) (wants : List Want) (want : Want) → AreOld newest wants
    → is_newer want.link newest ≡ true → AreOld (Some want.link) (wants ++ want ∷ [])
added_old newest wants want old new i within =
    let count = length_more wants want in
    let below : (k : ℕ) → k < length wants → number_at wants k < want.link =
    λ k in_range. old_below newest (number_at wants k) want.link (old k in_range) new in
    le-ltb want.link (number_at (wants ++ want ∷ []) i)
    (grind (arith, number_before wants want i, number_last wants want i, below i))

-- ---- a want changed

pub number_set : (wants : List Want) (place : ℕ) (want : Want) → want.link ≡ number_at wants place
    → place < length wants → (i : ℕ) → number_at (set wants place want) i ≡ number_at wants i
number_set [] place want same within i = absurd (omega (arith, within))
number_set (first ∷ wants) zero want same within zero = same
number_set (first ∷ wants) zero want same within (suc i) = refl
number_set (first ∷ wants) (suc place) want same within zero = refl
number_set (first ∷ wants) (suc place) want same within (suc i) =
    number_set wants place want same (omega (arith, within)) i

pub set_rising : (wants : List Want) (place : ℕ) (want : Want) → want.link ≡ number_at wants place
    → place < length wants → AreRising wants → AreRising (set wants place want)
set_rising wants place want same within rising i j less bound =
    let count = length-set wants place want in
    grind (arith, number_set wants place want same within i, number_set wants place want same within j, rising i j)

pub set_old : (newest : Option ℕ) (wants : List Want) (place : ℕ) (want : Want) → want.link ≡ number_at wants place
    → place < length wants → AreOld newest wants → AreOld newest (set wants place want)
set_old newest wants place want same within old i bound =
    ap (λ (n : ℕ). is_newer n newest) (number_set wants place want same within i)
    ∙ old i (subst (λ (n : ℕ). i < n) (length-set wants place want) bound)

-- ---- a want removed

pub number_below : (wants : List Want) (place : ℕ) → place < length wants → (i : ℕ) → i < place
    → number_at (remove wants place) i ≡ number_at wants i
number_below wants place within i less = ap number_in (get_or-remove_below wants place no_want i less within)

pub number_above : (wants : List Want) (place : ℕ) → place < length wants → (i : ℕ) → place ≤ i
    → number_at (remove wants place) i ≡ number_at wants (i + 1)
number_above wants place within i le = ap number_in (get_or-remove_above wants place no_want i le within)

pub removed_rising : (wants : List Want) (place : ℕ) → place < length wants → AreRising wants
    → AreRising (remove wants place)
removed_rising wants place within rising i j less bound =
    let count = length-remove wants place within in
    grind (
      arith,
      number_below wants place within i,
      number_below wants place within j,
      number_above wants place within i,
      number_above wants place within j,
      rising i j,
      rising i (j + 1),
      rising (i + 1) (j + 1),
    )

pub removed_old : (newest : Option ℕ) (wants : List Want) (place : ℕ) → place < length wants → AreOld newest wants
    → AreOld newest (remove wants place)
removed_old newest wants place within old i bound =
    let count = length-remove wants place within in
    let below : i < place → is_newer (number_at (remove wants place) i) newest ≡ false =
    λ less. ap (λ (n : ℕ). is_newer n newest) (number_below wants place within i less) ∙ old i (omega arith) in
    let above : place ≤ i → is_newer (number_at (remove wants place) i) newest ≡ false =
    λ le. ap (λ (n : ℕ). is_newer n newest) (number_above wants place within i le) ∙ old (i + 1) (omega arith) in
    grind (arith, below, above)

-- ---- a search by number

module _ (wants : List Want) (rising : AreRising wants) (number : ℕ) where
  comparisons_rise : IsNonDecreasingBy (λ (want : Want). ordering_index (nat_cmp want.link number)) wants
  comparisons_rise =
      IsNonDecreasingBy-from_default (λ (want : Want). ordering_index (nat_cmp want.link number)) wants no_want
      (λ i j le in_range.
      let numbers_rise : number_at wants i ≤ number_at wants j =
      grind (arith, rising i j, λ (same : i ≡ j). ap (number_at wants) same) in
      grind (arith, nat_tests))

  pub searched : (r : Result ℕ ℕ) → IsSearchInRange r (length wants)
      → IsBinarySearchResult (λ (want : Want). nat_cmp want.link number) wants r
      → record { found : IfOk r (HasNumberAt number wants); absent : IfErr r (λ _. HasNoNumber number wants) }
  searched (Ok at) in_range equal = record { found = (in_range, ranked _ number _ (sym (equal no_want))); absent = tt }
  searched (Err at) in_range parted = record {
    found = tt;
    absent = λ j lt same.
        let smaller : j < at → number_at wants j < number =
        λ before. ranked _ number _ (sym ((parted comparisons_rise).0 j no_want (omega arith) before)) in
        let greater : at ≤ j → number < number_at wants j =
        λ after. ranked _ number _ (sym ((parted comparisons_rise).1 j no_want after lt)) in
        grind (arith, smaller, greater);
  }
