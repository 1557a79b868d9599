-- Laws of rings of nodes.
use Rattle.std.proofs.Common.{◌≡◌, ◌≢◌, ℕ, ◌+◌, ◌<◌, Bool, true, false, cond, eqb, List, [], ◌∷◌, ◌++◌, length, Option}
use Rattle.std.proofs.Common.{Some, arith, refl, sym, ◌∙◌, ap, subst, inl, inr}
use Rattle.std.specs.List.{AllByRecursion}
use Rattle.linked_slots.specs.IdLists.{list_at, times_in, times, IsListed, without, append_to, first_of, last_from}
use Rattle.linked_slots.specs.IdLists.{last_of, following}
use Rattle.linked_slots.specs.Nodes.{id_of, Leads, head_at, AreRings}
use Rattle.linked_slots.proofs.ListLaws.{bool_cases, eqb-same, eqb-true, eqb-false, eqb-apart, remove_in, times-without}
use Rattle.linked_slots.proofs.ListLaws.{times-append, listed_at, at-without, at-append_same, at-append_other}
use Rattle.linked_slots.proofs.ListLaws.{length-without, length-append_to, all_listed}

-- ---- an id is cut out
module _ (f g f' : ℕ → ℕ) (id : ℕ) (back : (q : ℕ) → g (f q) ≡ q) (forth : (q : ℕ) → f (g q) ≡ q)
    (cut : (q : ℕ) → f' q ≡ cond (eqb q id) id (cond (eqb q (g id)) (f id) (f q))) where
  cut-id : f' id ≡ id
  cut-id = rw (cut id, eqb-same id) refl

  cut-other : (q : ℕ) → q ≢ id → f q ≢ id → f' q ≡ f q
  cut-other q a b = rw (cut q, eqb-false q id a, eqb-false q (g id) (λ e. b (ap f e ∙ forth id))) refl

  cut-before : (q : ℕ) → q ≢ id → f q ≡ id → f' q ≡ f id
  cut-before q a b =
      rw (cut q, eqb-false q id a)
      (let same : eqb q (g id) ≡ true = ap (λ y. eqb q y) (sym (sym (back q) ∙ ap g b)) ∙ eqb-same q in rw same refl)

  not_self : (xs : List ℕ) (e : ℕ) → e ≢ id → Leads f id xs e → f id ≢ id
  not_self [] e a w b = a (sym w ∙ b)
  not_self (x ∷ xs) e a w b = let P : ℕ → Type 0 = λ y. Leads f y xs e in not_self xs e a (subst P (sym w.0 ∙ b) w.1) b

  pub leads-cut : (p : ℕ) (xs : List ℕ) (e : ℕ) → p ≢ id → e ≢ id → Leads f p xs e → Leads f' p (remove_in id xs) e
  leads-cut p [] e a b w = cut-other p a (λ c. b (sym w ∙ c)) ∙ w
  leads-cut p (x ∷ []) e a b w =
      elim (bool_cases (eqb x id)) [
        | inl here ↦ (let is : x ≡ id = eqb-true x id here in rw here (cut-before p a (w.0 ∙ is) ∙ ap f (sym is) ∙ w.1))
        | inr apart ↦
            (let no : x ≢ id = eqb-apart x id apart in
            rw apart (cut-other p a (λ c. no (sym w.0 ∙ c)) ∙ w.0, leads-cut x [] e no b w.1))
      ]
  leads-cut p (x ∷ y ∷ ys) e a b w =
      elim (bool_cases (eqb x id)) [
        | inl here ↦ (
            let is : x ≡ id = eqb-true x id here in
            let P : ℕ → Type 0 = λ z. Leads f z (y ∷ ys) e in
            let self : f id ≢ id = not_self (y ∷ ys) e b (subst P is w.1) in
            let next : f id ≡ y = ap f (sym is) ∙ w.1.0 in
            let no : y ≢ id = λ c. self (next ∙ c) in
            rw (here, eqb-false y id no) (cut-before p a (w.0 ∙ is) ∙ next, leads-cut y ys e no b w.1.1))
        | inr apart ↦
            (let no : x ≢ id = eqb-apart x id apart in
            rw apart (cut-other p a (λ c. no (sym w.0 ∙ c)) ∙ w.0, leads-cut x (y ∷ ys) e no b w.1))
      ]

pub back-cut : (f g f' g' : ℕ → ℕ) (id : ℕ) → ((q : ℕ) → g (f q) ≡ q) → ((q : ℕ) → f (g q) ≡ q)
    → ((q : ℕ) → f' q ≡ cond (eqb q id) id (cond (eqb q (g id)) (f id) (f q)))
    → ((q : ℕ) → g' q ≡ cond (eqb q id) id (cond (eqb q (f id)) (g id) (g q)))
    → (q : ℕ) → g' (f' q) ≡ q
back-cut f g f' g' id back forth cut cut' q =
    elim (bool_cases (eqb q id)) [
      | inl here ↦ (let is : q ≡ id = eqb-true q id here in
          rw is (ap g' (cut-id f g f' id back forth cut) ∙ cut-id g f g' id forth back cut'))
      | inr apart ↦ (let no : q ≢ id = eqb-apart q id apart in
          elim (bool_cases (eqb (f q) id)) [
            | inl to ↦ (
                let is : f q ≡ id = eqb-true (f q) id to in
                let was : q ≡ g id = sym (back q) ∙ ap g is in
                let self : f id ≢ id = λ c. no (was ∙ ap g (sym c) ∙ back id) in
                ap g' (cut-before f g f' id back forth cut q no is)
                ∙ cut-before g f g' id forth back cut' (f id) self (back id) ∙ sym was)
            | inr past ↦ (
                let self : f q ≢ id = eqb-apart (f q) id past in
                ap g' (cut-other f g f' id back forth cut q no self)
                ∙ cut-other g f g' id forth back cut' (f q) self (λ c. no (sym (back q) ∙ c)) ∙ back q)
          ])
    ]

-- ---- an id is put between p and s
module _ (f g f' : ℕ → ℕ) (id p s : ℕ) (back : (q : ℕ) → g (f q) ≡ q) (to : f p ≡ s) (from : g s ≡ p)
    (tie : (q : ℕ) → f' q ≡ cond (eqb q id) s (cond (eqb q p) id (f q))) where
  tie-id : f' id ≡ s
  tie-id = rw (tie id, eqb-same id) refl

  tie-other : (q : ℕ) → q ≢ id → f q ≢ s → f' q ≡ f q
  tie-other q a b = rw (tie q, eqb-false q id a, eqb-false q p (λ e. b (ap f e ∙ to))) refl

  tie-before : (q : ℕ) → q ≢ id → f q ≡ s → f' q ≡ id
  tie-before q a b =
      rw (tie q, eqb-false q id a)
      (let same : eqb q p ≡ true = ap (λ y. eqb q y) (sym (sym (back q) ∙ ap g b ∙ from)) ∙ eqb-same q in rw same refl)

  abbrev IsOff : ℕ → Type 0
  IsOff x = (x ≢ id) × (x ≢ s)

  pub leads-kept : (q : ℕ) (xs : List ℕ) (e : ℕ) → q ≢ id → e ≢ s → AllByRecursion IsOff xs → Leads f q xs e
      → Leads f' q xs e
  leads-kept q [] e a b h w = tie-other q a (λ c. b (sym w ∙ c)) ∙ w
  leads-kept q (x ∷ xs) e a b h w = (tie-other q a (λ c. h.0.1 (sym w.0 ∙ c)) ∙ w.0, leads-kept x xs e h.0.0 b h.1 w.1)

  pub leads-tied : (q : ℕ) (xs : List ℕ) → q ≢ id → AllByRecursion IsOff xs → Leads f q xs s
      → Leads f' q (xs ++ id ∷ []) s
  leads-tied q [] a h w = (tie-before q a w, tie-id)
  leads-tied q (x ∷ xs) a h w = (tie-other q a (λ c. h.0.1 (sym w.0 ∙ c)) ∙ w.0, leads-tied x xs h.0.0 h.1 w.1)

pub back-tied : (f g f' g' : ℕ → ℕ) (id p s : ℕ) → ((q : ℕ) → g (f q) ≡ q) → f p ≡ s → g s ≡ p → f id ≡ id → g id ≡ id
    → s ≢ id
    → ((q : ℕ) → f' q ≡ cond (eqb q id) s (cond (eqb q p) id (f q)))
    → ((q : ℕ) → g' q ≡ cond (eqb q id) p (cond (eqb q s) id (g q)))
    → (q : ℕ) → g' (f' q) ≡ q
back-tied f g f' g' id p s back to from still still' far tie tie' q =
    elim (bool_cases (eqb q id)) [
      | inl here ↦ (let is : q ≡ id = eqb-true q id here in
          rw (is, tie id, eqb-same id, tie' s, eqb-false s id far, eqb-same s) refl)
      | inr apart ↦ (let no : q ≢ id = eqb-apart q id apart in
          elim (bool_cases (eqb q p)) [
            | inl at ↦ (let is : q ≡ p = eqb-true q p at in
                rw (tie q, apart, at, tie' id, eqb-same id) (sym is))
            | inr past ↦ (
                let away : q ≢ p = eqb-apart q p past in
                let off : f q ≢ id = λ c. no (sym (back q) ∙ ap g c ∙ still') in
                let beyond : f q ≢ s = λ c. away (sym (back q) ∙ ap g c ∙ from) in
                rw (tie q, apart, past, tie' (f q), eqb-false (f q) id off, eqb-false (f q) s beyond) (back q))
          ])
    ]

-- ---- what follows
module _ (f : ℕ → ℕ) (kind : ℕ → Option Bool) where
  abbrev IsId : ℕ → Type 0
  IsId x = kind x ≡ Some false

  pub leads-first : (p : ℕ) (xs : List ℕ) (e : ℕ) → kind e ≡ Some true → AllByRecursion IsId xs → Leads f p xs e
      → id_of (kind (f p)) (f p) ≡ first_of xs
  leads-first p [] e a h w = rw (w, a) refl
  leads-first p (x ∷ xs) e a h w = rw (w.0, h.0) refl

  pub leads-following : (id p : ℕ) (xs : List ℕ) (e : ℕ) → kind e ≡ Some true → AllByRecursion IsId xs → Leads f p xs e
      → 0 < times_in id xs
      → id_of (kind (f id)) (f id) ≡ following id xs
  leads-following id p [] e a h w more = absurd (omega (arith, more))
  leads-following id p (x ∷ xs) e a h w more =
      elim (bool_cases (eqb x id)) [
        | inl here ↦ (let P : ℕ → Type 0 = λ z. Leads f z xs e in
            rw here (leads-first id xs e a h.1 (subst P (eqb-true x id here) w.1)))
        | inr apart ↦
            rw apart (leads-following id x xs e a h.1 w.1
            (let same : times_in id (x ∷ xs) ≡ times_in id xs = rw apart refl in omega (arith, same, more)))
      ]

-- the last number leads to the end
leads-end : (f : ℕ → ℕ) (p : ℕ) (xs : List ℕ) (e : ℕ) → Leads f p xs e → f (last_from p xs) ≡ e
leads-end f p [] e w = w
leads-end f p (x ∷ xs) e w = leads-end f x xs e w.1

all-last : (P : ℕ → Type 0) (x : ℕ) (xs : List ℕ) → AllByRecursion P (x ∷ xs) → P (last_from x xs)
all-last P x [] a = a.0
all-last P x (y ∷ xs) a = all-last P y xs a.1

pub leads-last : (f g : ℕ → ℕ) (kind : ℕ → Option Bool) → ((q : ℕ) → g (f q) ≡ q) → (e : ℕ) (xs : List ℕ)
    → kind e ≡ Some true
    → AllByRecursion (λ x. kind x ≡ Some false) xs → Leads f e xs e → id_of (kind (g e)) (g e) ≡ last_of xs
leads-last f g kind back e [] head a w =
    let is : g e ≡ e = ap g (sym w) ∙ back e in
    rw (is, head) refl
leads-last f g kind back e (x ∷ xs) head a w =
    let is : g e ≡ last_from x xs = ap g (sym (leads-end f x xs e w.1)) ∙ back (last_from x xs) in
    let id : kind (last_from x xs) ≡ Some false = all-last (λ y. kind y ≡ Some false) x xs a in
    rw (is, id) refl

-- ---- lists as rings
pub some_differ : (a b : Option Bool) → a ≡ Some true → b ≡ Some false → a ≢ b
some_differ a b h k e = absurd (cc)

pub rings-cut : (lists : List (List ℕ)) (next previous next' previous' : ℕ → ℕ) (kind kind' : ℕ → Option Bool)
    (heads : List ℕ) (id : ℕ)
    → AreRings lists next previous kind heads → kind id ≡ Some false
    → ((q : ℕ) → next' q ≡ cond (eqb q id) id (cond (eqb q (previous id)) (next id) (next q)))
    → ((q : ℕ) → previous' q ≡ cond (eqb q id) id (cond (eqb q (next id)) (previous id) (previous q)))
    → ((q : ℕ) → q ≢ id → kind' q ≡ kind q)
    → AreRings (without id lists) next' previous' kind' heads
rings-cut lists next previous next' previous' kind kind' heads id r is_id n p k =
    let back : (q : ℕ) → previous (next q) ≡ q = r.mutual_links.back in
    let forth : (q : ℕ) → next (previous q) ≡ q = r.mutual_links.forth in
    let len : length (without id lists) ≡ length lists = length-without id lists in
    let off : (number : ℕ) → number < length lists → head_at heads number ≢ id =
    λ number h c. some_differ (kind (head_at heads number)) (kind id) (r.are_heads number h) is_id (ap kind c) in
    record {
      mutual_links = record {
        back = back-cut next previous next' previous' id back forth n p;
        forth = back-cut previous next previous' next' id forth back p n;
      };
      count = r.count ∙ sym len;
      rings = λ number h. let within : number < length lists = omega (arith, h, len) in
          rw (at-without id number lists)
          (leads-cut next previous next' id back forth n (head_at heads number) (list_at lists number)
          (head_at heads number)
          (off number within) (off number within) (r.rings number within));
      are_heads = λ number h. let within : number < length lists = omega (arith, h, len) in
          k (head_at heads number) (off number within) ∙ r.are_heads number within;
      heads_differ = λ number other h j. r.heads_differ number other (omega (arith, h, len)) (omega (arith, j, len));
      are_ids = λ q h. elim (bool_cases (eqb q id)) [
        | inl here ↦
            absurd (let none : times q (without id lists) ≡ 0 = times-without id q lists ∙ rw here refl in
            omega (arith, h, none))
        | inr apart ↦
            (let same : times q (without id lists) ≡ times q lists = times-without id q lists ∙ rw apart refl in
            k q (eqb-apart q id apart) ∙ r.are_ids q (omega (arith, h, same)))
      ];
      apart = λ q. elim (bool_cases (eqb q id)) [
        | inl here ↦
            (let none : times q (without id lists) ≡ 0 = times-without id q lists ∙ rw here refl in omega (arith, none))
        | inr apart ↦
            (let same : times q (without id lists) ≡ times q lists = times-without id q lists ∙ rw apart refl in
            omega (arith, same, r.apart q))
      ];
    }

pub rings-tied : (lists : List (List ℕ)) (next previous next' previous' : ℕ → ℕ) (kind kind' : ℕ → Option Bool)
    (heads : List ℕ) (number id : ℕ)
    → AreRings lists next previous kind heads → number < length lists → times id lists ≡ 0 → next id ≡ id
    → previous id ≡ id → kind' id ≡ Some false
    → ((m : ℕ) → m < length lists → head_at heads m ≢ id)
    → ((q : ℕ)
    → next' q ≡ cond (eqb q id) (head_at heads number) (cond (eqb q (previous (head_at heads number))) id (next q)))
    → ((q : ℕ)
    → previous' q
    ≡ cond (eqb q id) (previous (head_at heads number)) (cond (eqb q (head_at heads number)) id (previous q)))
    → ((q : ℕ) → q ≢ id → kind' q ≡ kind q)
    → AreRings (append_to number id lists) next' previous' kind' heads
rings-tied lists next previous next' previous' kind kind' heads number id r h none still still' is_id off n p k =
    let back : (q : ℕ) → previous (next q) ≡ q = r.mutual_links.back in
    let forth : (q : ℕ) → next (previous q) ≡ q = r.mutual_links.forth in
    let len : length (append_to number id lists) ≡ length lists = length-append_to number id lists in
    let s = head_at heads number in
    let b = previous s in
    let far : s ≢ id = off number h in
    let near : b ≢ id = λ c. far (sym (forth s) ∙ ap next c ∙ still) in
    let clear : (m : ℕ) → AllByRecursion (λ x. (x ≢ id) × (x ≢ s)) (list_at lists m) =
    λ m. all_listed (λ x. (x ≢ id) × (x ≢ s)) (list_at lists m)
    (λ x in_list. let listed : IsListed x lists = listed_at x m lists in_list in (
      (λ c.
          let more : times id lists ≡ times x lists = ap (λ y. times y lists) (sym c) in
          absurd (omega (arith, listed, more, none))),
      (λ c. some_differ (kind s) (kind x) (r.are_heads number h) (r.are_ids x listed) (ap kind (sym c))),
    )) in
    record {
      mutual_links = record {
        back = back-tied next previous next' previous' id b s back (forth s) refl still still' far n p;
        forth = back-tied previous next previous' next' id s b forth refl (forth s) still' still near p n;
      };
      count = r.count ∙ sym len;
      rings = λ m j. let within : m < length lists = omega (arith, j, len) in
          elim (bool_cases (eqb m number)) [
            | inl here ↦ (let is : m ≡ number = eqb-true m number here in
                rw (is, at-append_same number id lists h)
                (leads-tied next previous next' id b s back (forth s) refl n s (list_at lists number) far (clear number)
                (r.rings number h)))
            | inr apart ↦ (let no : m ≢ number = eqb-apart m number apart in
                rw (at-append_other number id m lists no)
                (leads-kept next previous next' id b s back (forth s) refl n (head_at heads m) (list_at lists m)
                (head_at heads m)
                (off m within) (λ c. no (r.heads_differ m number within h c)) (clear m) (r.rings m within)))
          ];
      are_heads = λ m j. let within : m < length lists = omega (arith, j, len) in
          k (head_at heads m) (off m within) ∙ r.are_heads m within;
      heads_differ = λ m other j i. r.heads_differ m other (omega (arith, j, len)) (omega (arith, i, len));
      are_ids = λ q j. elim (bool_cases (eqb q id)) [
        | inl here ↦ rw (eqb-true q id here) is_id
        | inr apart ↦ (
            let no : eqb id q ≡ false = eqb-false id q (λ c. eqb-apart q id apart (sym c)) in
            let same : times q (append_to number id lists) ≡ times q lists + 0 =
            times-append number id q lists h ∙ rw no refl in
            k q (eqb-apart q id apart) ∙ r.are_ids q (omega (arith, j, same)))
      ];
      apart = λ q. elim (bool_cases (eqb id q)) [
        | inl here ↦ (
            let is : times q lists ≡ 0 = ap (λ y. times y lists) (sym (eqb-true id q here)) ∙ none in
            let one : times q (append_to number id lists) ≡ times q lists + 1 =
            times-append number id q lists h ∙ rw here refl in
            omega (arith, one, is))
        | inr apart ↦ (
            let same : times q (append_to number id lists) ≡ times q lists + 0 =
            times-append number id q lists h ∙ rw apart refl in
            omega (arith, same, r.apart q))
      ];
    }
