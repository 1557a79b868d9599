-- Verdicts, and the first items that differ.
use Rattle.std.proofs.Common.{◌≡◌, ◌≢◌, ℕ, zero, suc, ◌+◌, ◌<◌, ◌≤◌, get_or, drop-cons, add-one, leb, ◌⊎◌, inl, inr}
use Rattle.std.proofs.Common.{true, false, List, [], ◌∷◌, ◌++◌, length, take, drop, Some, None, refl, ap, sym, ◌∙◌}
use Rattle.std.proofs.Common.{subst, arith}
use Rattle.std.specs.List.{AllByRecursion, slice_get}
use Rattle.std.specs.Str.{bytes_eq}
use Rattle.std.proofs.lemmas.List.{append_assoc, drop_all}
use Rattle.std.proofs.lemmas.Bool.Decides.{leb_tells}
use Rattle.ev_types.specs.declared.item.Item.{Item}
use Rattle.ev_types.specs.declared.item.Notice.{Notice}
use Rattle.config_tests.specs.declared.entry.Expect.{Expect}
use Rattle.stream_tests.specs.declared.verdict.Verdict.TheVariants.{Pass, Differs}
use Rattle.stream_tests.specs.Verdicts.{seen, DifferFirst, IsMet, IsUnmet, VerdictsAreOne}

-- ---- items by their numbers

front_get : (items more : List Item) (n k : ℕ) → k < n → n ≤ length items
    → slice_get (take n items ++ more) k ≡ slice_get items k
front_get [] more n k less few = absurd (omega arith)
front_get (item ∷ items) more zero k less few = absurd (omega arith)
front_get (item ∷ items) more (suc n) zero less few = refl
front_get (item ∷ items) more (suc n) (suc k) less few = front_get items more n k (omega arith) (omega arith)

next_get : (items more : List Item) (n : ℕ) → n ≤ length items → slice_get (take n items ++ more) n ≡ slice_get more 0
next_get items more zero few = refl
next_get [] more (suc n) few = absurd (omega arith)
next_get (item ∷ items) more (suc n) few = next_get items more n (omega arith)

pub taken_more : (items : List Item) (item : Item) (n : ℕ) → slice_get items n ≡ Some item
    → take (suc n) items ≡ take n items ++ item ∷ []
taken_more [] item n is = cc
taken_more (first ∷ items) item zero is = cc
taken_more (first ∷ items) item (suc n) is = ap (λ (all : List Item). first ∷ all) (taken_more items item n is)

within_get : (items : List Item) (n : ℕ) (item : Item) → slice_get items n ≡ Some item → n + 1 ≤ length items
within_get [] n item is = cc
within_get (first ∷ items) zero item is = omega arith
within_get (first ∷ items) (suc n) item is = omega (arith, within_get items n item is)

some_get : (items : List Item) (n : ℕ) → n < length items → slice_get items n ≢ None
some_get [] n less = absurd (omega arith)
some_get (first ∷ items) zero less = λ e. cc
some_get (first ∷ items) (suc n) less = some_get items n (omega arith)

-- the items are those that are expected up to the number, and the next is another
pub differ_next : (items expected more : List Item) (n : ℕ) → n ≤ length expected → items ≡ take n expected ++ more
    → slice_get expected n ≢ slice_get more 0 → DifferFirst n items expected
differ_next items expected more n few are other =
    record {
      differ = λ e. other (sym e ∙ ap (λ (all : List Item). slice_get all n) are ∙ next_get expected more n few);
      same = λ k less. ap (λ (all : List Item). slice_get all k) are ∙ front_get expected more n k less few;
    }

-- ---- notices one after another

notice_at : (notices : List Notice) (i : ℕ) (notice : Notice) → i < length notices → notice ≡ get_or notices i notice
    → drop i notices ≡ notice ∷ drop (i + 1) notices
notice_at notices i notice less is =
    drop-cons notices i notice less ∙ ap (λ (one : Notice). one ∷ drop (suc i) notices) (sym is)
    ∙ ap (λ (n : ℕ). notice ∷ drop n notices) (sym (add-one i))

seen_same : (name : List ℕ) (notice : Notice) (more : List Notice) → bytes_eq notice.name name ≡ true
    → seen name (notice ∷ more) ≡ notice.item ∷ seen name more
seen_same name notice more is = rw is refl

seen_other : (name : List ℕ) (notice : Notice) (more : List Notice) → bytes_eq notice.name name ≡ false
    → seen name (notice ∷ more) ≡ seen name more
seen_other name notice more is = rw is refl

-- what was seen up to the notice is what is expected up to the number
module _ (name : List ℕ) (notices : List Notice) (items : List Item) (number i : ℕ) (few : number ≤ length items)
    (known : seen name notices ≡ take number items ++ seen name (drop i notices)) where
  known_with : (notice : Notice) → i < length notices → notice ≡ get_or notices i notice
      → seen name notices ≡ take number items ++ seen name (notice ∷ drop (i + 1) notices)
  known_with notice less is =
      known ∙ ap (λ (those : List Notice). take number items ++ seen name those) (notice_at notices i notice less is)

  known_same : (notice : Notice) → i < length notices → notice ≡ get_or notices i notice →
      bytes_eq notice.name name ≡ true →
      seen name notices ≡ take number items ++ (notice.item ∷ seen name (drop (i + 1) notices))
  known_same notice less is same =
      known_with notice less is
      ∙ ap (λ (those : List Item). take number items ++ those) (seen_same name notice (drop (i + 1) notices) same)

  pub stops : (expected : List Item) (notice : Notice) → items ≡ expected → i < length notices →
      notice ≡ get_or notices i notice → bytes_eq notice.name name ≡ true →
      (slice_get items number ≡ Some notice.item → ⊥) → DifferFirst number (seen name notices) expected
  stops expected notice same less is named other =
      subst (λ (those : List Item). DifferFirst number (seen name notices) those) same
      (differ_next (seen name notices) items (notice.item ∷ seen name (drop (i + 1) notices)) number few
      (known_same notice less is named) other)

  pub goes_on : (notice : Notice) → i < length notices → notice ≡ get_or notices i notice →
      bytes_eq notice.name name ≡ true → slice_get items number ≡ Some notice.item →
      (number + 1 ≤ length items) × (seen name notices ≡ take (number + 1) items ++ seen name (drop (i + 1) notices))
  goes_on notice less is named at = (
    within_get items number notice.item at,
    known_same notice less is named
        ∙ sym (append_assoc (take number items) (notice.item ∷ []) (seen name (drop (i + 1) notices)))
        ∙ ap (λ (front : List Item). front ++ seen name (drop (i + 1) notices))
        (sym (taken_more items notice.item number at))
        ∙ ap (λ (n : ℕ). take n items ++ seen name (drop (i + 1) notices)) (sym (add-one number)),
  )

  pub goes_by : (notice : Notice) → i < length notices → notice ≡ get_or notices i notice →
      bytes_eq notice.name name ≡ false →
      (number ≤ length items) × (seen name notices ≡ take number items ++ seen name (drop (i + 1) notices))
  goes_by notice less is named = (
    few,
    known_with notice less is
        ∙ ap (λ (those : List Item). take number items ++ those) (seen_other name notice (drop (i + 1) notices) named),
  )

  pub ends : (expected : List Item) → items ≡ expected → length notices ≤ i → number < length items
      → DifferFirst number (seen name notices) expected
  ends expected same past less =
      subst (λ (those : List Item). DifferFirst number (seen name notices) those) same
      (differ_next (seen name notices) items [] number few
      (known ∙ ap (λ (those : List Notice). take number items ++ seen name those) (drop_all i notices past))
      (some_get items number less))

-- ---- one verdict

first_by : (items expected : List Item) (n m : ℕ) → DifferFirst n items expected → DifferFirst m items expected →
    ((leb n m ≡ true) × (n ≤ m)) ⊎ ((leb n m ≡ false) × (m < n)) →
    ((leb m n ≡ true) × (m ≤ n)) ⊎ ((leb m n ≡ false) × (n < m)) → n ≡ m
first_by items expected n m first second (inl less) (inl more) = omega (arith, less.1, more.1)
first_by items expected n m first second (inr less) order = absurd (second.differ (first.same m less.1))
first_by items expected n m first second (inl less) (inr more) = absurd (first.differ (second.same n more.1))

first_one : (items expected : List Item) (n m : ℕ) → DifferFirst n items expected → DifferFirst m items expected → n ≡ m
first_one items expected n m first second = first_by items expected n m first second (leb_tells n m) (leb_tells m n)

met_differs : (notices : List Notice) (expect : Expect) (n : ℕ) → IsMet notices expect
    → DifferFirst n (seen expect.name notices) expect.items → ⊥
met_differs notices expect n met first = first.differ (ap (λ (all : List Item). slice_get all n) met)

other_met : (notices : List Notice) (expect other : Expect) (n : ℕ) → other ≡ expect → IsMet notices other
    → DifferFirst n (seen expect.name notices) expect.items → ⊥
other_met notices expect other n same met first =
    met_differs notices expect n (subst (λ (e : Expect). IsMet notices e) same met) first

same_first : (notices : List Notice) (expect other : Expect) (n m : ℕ) → other ≡ expect
    → DifferFirst n (seen expect.name notices) expect.items → DifferFirst m (seen other.name notices) other.items
    → n ≡ m
same_first notices expect other n m same first second =
    first_one (seen expect.name notices) expect.items n m first
    (subst (λ (e : Expect). DifferFirst m (seen e.name notices) e.items) same second)

head_same : (a b : Expect) (more others : List Expect) → a ∷ more ≡ b ∷ others → a ≡ b
head_same a b more others e = cc

tail_same : (a b : Expect) (more others : List Expect) → a ∷ more ≡ b ∷ others → more ≡ others
tail_same a b more others e = cc

same_unmet : (notices : List Notice) (before : List Expect) (expect : Expect) (later front : List Expect)
    (other : Expect) (more : List Expect) (n m : ℕ) →
    before ++ expect ∷ later ≡ front ++ other ∷ more → AllByRecursion (IsMet notices) before →
    AllByRecursion (IsMet notices) front →
    DifferFirst n (seen expect.name notices) expect.items → DifferFirst m (seen other.name notices) other.items →
    (expect.name ≡ other.name) × (n ≡ m)
same_unmet notices [] expect later [] other more n m same met known first second =
    let is = head_same expect other later more same in
    (ap (λ (e : Expect). e.name) is, same_first notices expect other n m (sym is) first second)
same_unmet notices [] expect later (x ∷ front) other more n m same met known first second =
    absurd (other_met notices expect x n (sym (head_same expect x later (front ++ other ∷ more) same)) known.0 first)
same_unmet notices (x ∷ before) expect later [] other more n m same met known first second =
    absurd (other_met notices other x m (head_same x other (before ++ expect ∷ later) more same) met.0 second)
same_unmet notices (x ∷ before) expect later (y ∷ front) other more n m same met known first second =
    same_unmet notices before expect later front other more n m
    (tail_same x y (before ++ expect ∷ later) (front ++ other ∷ more) same) met.1 known.1 first second

one_met : (notices : List Notice) (before : List Expect) (expect : Expect) (later : List Expect)
    → AllByRecursion (IsMet notices) (before ++ expect ∷ later) → IsMet notices expect
one_met notices [] expect later all = all.0
one_met notices (x ∷ before) expect later all = one_met notices before expect later all.1

no_pass : (notices : List Notice) (expects : List Expect) (name : List ℕ) (n : ℕ)
    → AllByRecursion (IsMet notices) expects → IsUnmet notices expects name n → ⊥
no_pass notices expects name n all unmet =
    met_differs notices unmet.expect n
    (one_met notices unmet.before unmet.expect unmet.later
    (subst (λ (es : List Expect). AllByRecursion (IsMet notices) es) unmet.whole all))
    unmet.first

pub verdicts_are_one : VerdictsAreOne
verdicts_are_one notices expects Pass Pass first second = refl
verdicts_are_one notices expects Pass (Differs name n) first second =
    absurd (no_pass notices expects name n first second)
verdicts_are_one notices expects (Differs name n) Pass first second =
    absurd (no_pass notices expects name n second first)
verdicts_are_one notices expects (Differs name n) (Differs other m) first second =
    let same =
    same_unmet notices first.before first.expect first.later second.before second.expect second.later n m
    (sym first.whole ∙ second.whole) first.met second.met first.first second.first in
    λ i. Differs ((first.named ∙ same.0 ∙ sym second.named) i) (same.1 i)

-- ---- expectations one after another
