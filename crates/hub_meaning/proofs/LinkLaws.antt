-- Links by their numbers: how one is found, and what changing one keeps.
use Rattle.std.proofs.Common.{◌≡◌, ℕ, ◌<◌, Bool, true, false, cond, List, [], ◌∷◌, ◌++◌, refl, ap, sym, ◌∙◌, subst}
use Rattle.std.proofs.Common.{arith}
use Rattle.std.specs.Prelude.{Some, nat_lt}
use Rattle.std.specs.List.{AllByRecursion, list_all}
use Rattle.std.proofs.lemmas.Bool.{eqb-true, eq-eqb, ltb-true, and_parts}
use Rattle.hub_meaning.specs.Links.{Link, ReadClosed, Closing, changed, broken, ended, find_link, has_number, is_above}
use Rattle.hub_meaning.specs.Links.{is_connected, is_open, new_link, opened, unblocked, with_stage}
use Rattle.hub_meaning.specs.Laws.{AreAbove, AreRising}

-- ---- what holds of each link

pub all_append : {X : Type 0} (P : X → Type 0) (xs ys : List X) → AllByRecursion P xs → AllByRecursion P ys
    → AllByRecursion P (xs ++ ys)
all_append P [] ys first second = second
all_append P (x ∷ xs) ys first second = (first.0, all_append P xs ys first.1 second)

choice : (P : Link → Type 0) (t : Bool) (a b : Link) → (t ≡ true → P a) → P b → P (cond t a b)
choice P true a b first second = first refl
choice P false a b first second = second

pub all_changed : (P : Link → Type 0) (number : ℕ) (f : Link → Link)
    → ((link : Link) → link.number ≡ number → P link → P (f link)) → (links : List Link)
    → AllByRecursion P links → AllByRecursion P (changed number f links)
all_changed P number f keeps [] all = tt
all_changed P number f keeps (link ∷ links) all = (
  choice P (has_number number link) (f link) link (λ is. keeps link (eqb-true link.number number is) all.0) all.0,
  all_changed P number f keeps links all.1,
)

pub all_found : (P : Link → Type 0) (number : ℕ) (links : List Link) (link : Link) → find_link number links ≡ Some link
    → AllByRecursion P links → P link
all_found P number [] link found all = absurd (cc found)
all_found P number (first ∷ links) link found all =
    at_first (has_number number first) (λ is. all_found P number links link is all.1) found
  where
    at_first : (t : Bool) → (find_link number links ≡ Some link → P link)
        → cond t (Some first) (find_link number links) ≡ Some link → P link
    at_first true later is = let same : first ≡ link = cc in subst P same all.0
    at_first false later is = later is

pub found_number : (number : ℕ) (links : List Link) (link : Link) → find_link number links ≡ Some link
    → link.number ≡ number
found_number number [] link found = absurd (cc found)
found_number number (first ∷ links) link found =
    at_first (has_number number first) (eqb-true first.number number) (λ same. found_number number links link same)
    found
  where
    at_first : (t : Bool) → (t ≡ true → first.number ≡ number)
        → (find_link number links ≡ Some link → link.number ≡ number)
        → cond t (Some first) (find_link number links) ≡ Some link → link.number ≡ number
    at_first true is later same = let one : first ≡ link = cc in ap (λ (l : Link). l.number) (sym one) ∙ is refl
    at_first false is later same = later same

-- ---- the numbers rise

-- what is above a number is not that number
above_is_other : (number : ℕ) (link : Link) (links : List Link) → AreAbove number links
    → AllByRecursion (λ other. other.number ≡ number → other ≡ link) links
above_is_other number link [] above = tt
above_is_other number link (first ∷ links) above =
    (λ is. let less = above.0 in absurd (omega arith), above_is_other number link links above.1)

pub found_alone : (number : ℕ) (links : List Link) (link : Link) → AreRising links → find_link number links ≡ Some link
    → AllByRecursion (λ other. other.number ≡ number → other ≡ link) links
found_alone number [] link rising found = tt
found_alone number (first ∷ links) link rising found =
    at_first (has_number number first) (eqb-true first.number number) (eq-eqb first.number number)
    (λ same. found_alone number links link rising.1 same) found
  where
    at_first : (t : Bool) → (t ≡ true → first.number ≡ number) → (first.number ≡ number → t ≡ true)
        → (find_link number links ≡ Some link → AllByRecursion (λ other. other.number ≡ number → other ≡ link) links)
        → cond t (Some first) (find_link number links) ≡ Some link
        → AllByRecursion (λ other. other.number ≡ number → other ≡ link) (first ∷ links)
    at_first true is test later same =
        let one : first ≡ link = cc in
        let number_is : first.number ≡ number = is refl in (
          λ _. one,
          subst (λ (n : ℕ). AllByRecursion (λ other. other.number ≡ n → other ≡ link) links) number_is
              (above_is_other first.number link links rising.0),
        )
    at_first false is test later same = (λ number_is. absurd (cc (test number_is)), later same)

-- the link of a number is changed to this one
pub all_replaced : (P : Link → Type 0) (number : ℕ) (f : Link → Link) (links : List Link) (link : Link)
    → AreRising links → find_link number links ≡ Some link → P (f link)
    → AllByRecursion P links → AllByRecursion P (changed number f links)
all_replaced P number f links link rising found fits all = both links (found_alone number links link rising found) all
  where
    both : (links : List Link) → AllByRecursion (λ other. other.number ≡ number → other ≡ link) links
        → AllByRecursion P links → AllByRecursion P (changed number f links)
    both [] one all = tt
    both (first ∷ links) one all = (
      choice P (has_number number first) (f first) first
          (λ is. subst (λ (l : Link). P (f l)) (sym (one.0 (eqb-true first.number number is))) fits) all.0,
      both links one.1 all.1,
    )

abbrev pub KeepsNumber : ℕ → (Link → Link) → Type 0
KeepsNumber number f = (link : Link) → link.number ≡ number → (f link).number ≡ link.number

changed_number : (t : Bool) (f : Link → Link) (link : Link) → (t ≡ true → (f link).number ≡ link.number)
    → (cond t (f link) link).number ≡ link.number
changed_number true f link keeps = keeps refl
changed_number false f link keeps = refl

above_changed : (least number : ℕ) (f : Link → Link) → KeepsNumber number f → (links : List Link) → AreAbove least links
    → AreAbove least (changed number f links)
above_changed least number f keeps [] above = tt
above_changed least number f keeps (link ∷ links) above =
    let same = changed_number (has_number number link) f link (λ is. keeps link (eqb-true link.number number is)) in
    (subst (λ (n : ℕ). least < n) (sym same) above.0, above_changed least number f keeps links above.1)

pub rising_changed : (number : ℕ) (f : Link → Link) → KeepsNumber number f → (links : List Link) → AreRising links
    → AreRising (changed number f links)
rising_changed number f keeps [] rising = tt
rising_changed number f keeps (link ∷ links) rising =
    let same = changed_number (has_number number link) f link (λ is. keeps link (eqb-true link.number number is)) in (
      subst (λ (n : ℕ). AreAbove n (changed number f links)) (sym same)
          (above_changed link.number number f keeps links rising.0),
      rising_changed number f keeps links rising.1,
    )

rising_more : (last : Link) (links : List Link) → AreRising links
    → list_all (λ link. nat_lt link.number last.number) links ≡ true → AreRising (links ++ last ∷ [])
rising_more last [] rising above = (tt, tt)
rising_more last (link ∷ links) rising above =
    let both =
    and_parts (nat_lt link.number last.number) (list_all (λ link. nat_lt link.number last.number) links) above in (
      all_append (λ other. link.number < other.number) links (last ∷ []) rising.0
          (ltb-true link.number last.number both.0, tt),
      rising_more last links rising.1 both.1,
    )

pub rising_opened : (number : ℕ) (links : List Link) → AreRising links → AreRising (opened number links)
rising_opened number links rising = if_above (is_above number links) refl
  where
    if_above : (t : Bool) → is_above number links ≡ t → AreRising (cond t (links ++ new_link number links ∷ []) links)
    if_above true above = rising_more (new_link number links) links rising above
    if_above false above = rising

-- ---- what each change keeps

pub ended_number : (link : Link) → (ended link).number ≡ link.number
ended_number link = changed_number (is_open link) (with_stage ReadClosed) link (λ _. refl)

pub broken_number : (link : Link) → (broken link).number ≡ link.number
broken_number link = changed_number (is_connected link) (with_stage Closing) link (λ _. refl)

pub unblocked_number : (link : Link) → (unblocked link).number ≡ link.number
unblocked_number link = changed_number (is_connected link) (λ l. record l { blocked = false }) link (λ _. refl)
