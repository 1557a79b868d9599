-- Laws of labels, and of the queue of their due moments.
use Rattle.std.proofs.Common.{◌≡◌, ℕ, suc, ◌<◌, ◌≤◌, Bool, true, false, not, cond, eqb, nat_le, List, [], ◌∷◌, map}
use Rattle.std.proofs.Common.{filter, Option, None, Some, arith, refl, sym, ◌∙◌, ap, subst, inl, inr}
use Rattle.std.specs.List.{AllByRecursion, IsDistinct}
use Rattle.std.specs.List.Sorted.{IsStrictlySortedBy}
use Rattle.std.specs.Map.{keys_of}
use Rattle.std.specs.Ordering.{nat_cmp}
use Rattle.std.specs.declared.cmp.Ordering.TheVariants.{Less}
use Rattle.std.specs.BTreeMap.{is_at}
use Rattle.linked_slots.specs.IdLists.{times_in}
use Rattle.linked_slots.proofs.ListLaws.{bool_cases, eqb-true, all_listed}
use Rattle.tick_schedule.specs.Queue.{moment_at, IsRising, due_later}
use Rattle.tick_schedule.proofs.QueueLaws.{at-true, at-less, is_by, rising-rest}
use Rattle.ev_types.specs.declared.value.Value.{Value}
use Rattle.ev_types.specs.Key.{same_key}
use Rattle.fork_by.specs.Labels.{AreSound, Label, label_at, is_due_by}
use Rattle.fork_by.proofs.ListLaws.{times-head, times-tail, times-rest}

-- there are no labels
pub sound_nothing : AreSound []
unfolding IsDistinct
sound_nothing = record {
  keys = tt;
  numbers = tt;
  indices = λ n d h. absurd (omega (arith, h));
  within = λ n d h. absurd (omega (arith, h));
}

-- ---- labels of numbers
module _ (f : ℕ → Label) (named : (number : ℕ) → (f number).number ≡ number) where
  pub label_found : (number : ℕ) (numbers : List ℕ) → 0 < times_in number numbers
      → label_at number (map f numbers) ≡ Some (f number)
  label_found number [] more = absurd (omega (arith, more))
  label_found number (first ∷ numbers) more =
      ap (λ n. cond (eqb n number) (Some (f first)) (label_at number (map f numbers))) (named first)
      ∙ elim (bool_cases (eqb first number)) [
        | inl here ↦ rw here (ap (λ n. Some (f n)) (eqb-true first number here))
        | inr apart ↦ rw apart (label_found number numbers (times-rest number first numbers apart more))
      ]

  pub label_absent : (number : ℕ) (numbers : List ℕ) → times_in number numbers ≡ 0
      → label_at number (map f numbers) ≡ None
  label_absent number [] none = refl
  label_absent number (first ∷ numbers) none =
      ap (λ n. cond (eqb n number) (Some (f first)) (label_at number (map f numbers))) (named first)
      ∙ elim (bool_cases (eqb first number)) [
        | inl here ↦
            absurd (let one : times_in number (first ∷ numbers) ≡ suc (times_in number numbers) = rw here refl in
            omega (arith, one, none))
        | inr apart ↦
            rw apart (label_absent number numbers
            (let same : times_in number (first ∷ numbers) ≡ times_in number numbers = rw apart refl in sym same ∙ none))
      ]

  pub all_labels : (P : Label → Type 0) (numbers : List ℕ) → ((number : ℕ) → 0 < times_in number numbers → P (f number))
      → AllByRecursion P (map f numbers)
  all_labels P [] h = tt
  all_labels P (first ∷ numbers) h = (
    h first (times-head first numbers),
    all_labels P numbers (λ number more. h number (times-tail number first numbers more)),
  )

  pub each_label : (P : Label → Type 0) (numbers : List ℕ) → AllByRecursion P (map f numbers) → (number : ℕ)
      → 0 < times_in number numbers → P (f number)
  each_label P [] h number more = absurd (omega (arith, more))
  each_label P (first ∷ numbers) h number more =
      elim (bool_cases (eqb first number)) [
        | inl here ↦ subst (λ (n : ℕ). P (f n)) (eqb-true first number here) h.0
        | inr apart ↦ each_label P numbers h.1 number (times-rest number first numbers apart more)
      ]

-- ---- what differs
pub numbers_differ : (numbers : List ℕ) → ((number : ℕ) → times_in number numbers ≤ 1) → IsDistinct eqb numbers
unfolding IsDistinct
numbers_differ [] once = tt
numbers_differ (first ∷ numbers) once = (
  all_listed (λ other. eqb first other ≡ false) numbers (λ other more. apart other more (eqb first other) refl),
  numbers_differ numbers
      (λ number.
      let most : times_in number (first ∷ numbers) ≤ 1 = once number in fewer number (eqb first number) refl most),
)
  where
    apart : (other : ℕ) → 0 < times_in other numbers → (b : Bool) → eqb first other ≡ b → b ≡ false
    apart other more true same = absurd (
        let two : times_in other (first ∷ numbers) ≡ suc (times_in other numbers) = rw same refl in
        let most : times_in other (first ∷ numbers) ≤ 1 = once other in omega (arith, two, most, more))
    apart other more false same = refl

    fewer : (number : ℕ) (b : Bool) → eqb first number ≡ b → times_in number (first ∷ numbers) ≤ 1
        → times_in number numbers ≤ 1
    fewer number true same most =
        let more : times_in number (first ∷ numbers) ≡ suc (times_in number numbers) = rw same refl in
        omega (arith, more, most)
    fewer number false same most =
        let more : times_in number (first ∷ numbers) ≡ times_in number numbers = rw same refl in
        omega (arith, more, most)

pub keys_differ : (key : ℕ → List Value) (numbers : List ℕ) → ((number : ℕ) → times_in number numbers ≤ 1)
    → ((a b : ℕ) → 0 < times_in a numbers → 0 < times_in b numbers → eqb a b ≡ false → same_key (key a) (key b) ≡ false)
    → IsDistinct same_key (map key numbers)
unfolding IsDistinct
keys_differ key [] once differ = tt
keys_differ key (first ∷ numbers) once differ = (
  all_keys numbers (λ other more. differ first other (times-head first numbers) (times-tail other first numbers more)
      (not_first other more (eqb first other) refl)),
  keys_differ key numbers (λ number. fewer number (eqb first number) refl (once number))
      (λ a b in_a in_b. differ a b (times-tail a first numbers in_a) (times-tail b first numbers in_b)),
)
  where
    all_keys : (others : List ℕ) → ((other : ℕ) → 0 < times_in other others → same_key (key first) (key other) ≡ false)
        → AllByRecursion (λ k. same_key (key first) k ≡ false) (map key others)
    all_keys [] h = tt
    all_keys (other ∷ others) h =
        (h other (times-head other others), all_keys others (λ q more. h q (times-tail q other others more)))

    not_first : (other : ℕ) → 0 < times_in other numbers → (b : Bool) → eqb first other ≡ b → b ≡ false
    not_first other more true same = absurd (
        let two : times_in other (first ∷ numbers) ≡ suc (times_in other numbers) = rw same refl in
        let most : times_in other (first ∷ numbers) ≤ 1 = once other in omega (arith, two, most, more))
    not_first other more false same = refl

    fewer : (number : ℕ) (b : Bool) → eqb first number ≡ b → times_in number (first ∷ numbers) ≤ 1
        → times_in number numbers ≤ 1
    fewer number true same most =
        let more : times_in number (first ∷ numbers) ≡ suc (times_in number numbers) = rw same refl in
        omega (arith, more, most)
    fewer number false same most =
        let more : times_in number (first ∷ numbers) ≡ times_in number numbers = rw same refl in
        omega (arith, more, most)

-- ---- due moments
pub due_by_is : (now : ℕ) (due : Option ℕ) → is_by now due ≡ is_due_by now due
due_by_is now None = refl
due_by_is now (Some moment) = refl

absent_later : (q : ℕ) (p : ℕ × ℕ → Bool) (es : List (ℕ × ℕ)) → AllByRecursion (λ k. nat_cmp q k ≡ Less) (keys_of es)
    → moment_at q (filter p es) ≡ None
absent_later q p [] h = refl
absent_later q p (e ∷ es) h =
    elim (p e) as (λ b. moment_at q (cond b (e ∷ filter p es) (filter p es)) ≡ None)
    [ true ↦ rw (at-less q e.0 h.0) (absent_later q p es h.1) | false ↦ absent_later q p es h.1 ]

rising_first : (e : ℕ × ℕ) (es : List (ℕ × ℕ)) → IsRising (e ∷ es)
    → AllByRecursion (λ k. nat_cmp e.0 k ≡ Less) (keys_of es)
unfolding IsStrictlySortedBy
rising_first e es s = s.0

-- what is left of the moment of an id once those due are removed
later_step : (now q : ℕ) (e : ℕ × ℕ) (es : List (ℕ × ℕ)) (p b : Bool) → nat_le e.1 now ≡ p → is_at (nat_cmp q) e.0 ≡ b
    → AllByRecursion (λ k. nat_cmp e.0 k ≡ Less) (keys_of es)
    → moment_at q (due_later now es) ≡ cond (is_due_by now (moment_at q es)) None (moment_at q es)
    → moment_at q (cond (not p) (e ∷ due_later now es) (due_later now es))
    ≡ cond (is_due_by now (cond b (Some e.1) (moment_at q es))) None (cond b (Some e.1) (moment_at q es))
later_step now q e es true true due at above rest =
    absent_later q (λ x. not (nat_le x.1 now)) es
    (subst (λ (k : ℕ). AllByRecursion (λ other. nat_cmp k other ≡ Less) (keys_of es)) (sym (at-true q e.0 at)) above)
    ∙ sym (rw due refl)
later_step now q e es true false due at above rest = rest
later_step now q e es false true due at above rest = rw at (sym (rw due refl))
later_step now q e es false false due at above rest = rw at rest

pub later_at : (now q : ℕ) (es : List (ℕ × ℕ)) → IsRising es
    → moment_at q (due_later now es) ≡ cond (is_due_by now (moment_at q es)) None (moment_at q es)
later_at now q [] rise = refl
later_at now q (e ∷ es) rise =
    later_step now q e es (nat_le e.1 now) (is_at (nat_cmp q) e.0) refl refl (rising_first e es rise)
    (later_at now q es (rising-rest e es rise))
