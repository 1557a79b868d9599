-- What is true of the forks of a table, seen as a list.
use Rattle.std.proofs.Common.{◌≡◌, ◌≢◌, ℕ, ◌+◌, ◌<◌, ◌≤◌, ◌⊎◌, Bool, true, false, cond, eqb, List, [], ◌∷◌, ◌++◌, map}
use Rattle.std.proofs.Common.{filter, length, length-append, get_or, set, slice_get, unwrap_or, Option, None, Some}
use Rattle.std.proofs.Common.{IsSome, IfSome, arith, refl, sym, ◌∙◌, ap, subst, inl, inr}
use Rattle.std.specs.List.{All, AllByRecursion, IsDistinct, filter_map, cons_option}
use Rattle.std.specs.Map.{lookup}
use Rattle.std.specs.Option.{option_map}
use Rattle.std.proofs.lemmas.List.{get_or-set_same, get_or-set_other}
use Rattle.std.proofs.Math.ListN.{length-set}
use Rattle.std.proofs.lemmas.List.Elements.{All-from_recursion, recursion_from_All}
use Rattle.std.proofs.lemmas.Option.{get_or_from_slice_get, slice_get-get_or, slice_get_past}
use Rattle.ev_types.specs.declared.value.Value.{Value}
use Rattle.ev_types.specs.Key.{same_key}
use Rattle.ev_types.proofs.Values.{same_key_decides}
use Rattle.linked_slots.proofs.ListLaws.{bool_cases, eqb-same, eqb-true, eqb-apart}
use Rattle.fork_by.specs.Labels.{Adds, AreSound, Label, IsLatest, IsLive, Touches, due_moments, due_numbers}
use Rattle.fork_by.specs.Labels.{dues_cleared, dues_set, index_at, is_due_by, label_at, last_moment_at, number_of}
use Rattle.fork_by.specs.Labels.{with_due, with_moment, without_due}
use Rattle.fork_by.specs.Laws.{FoundFork}
use Rattle.fork_by.specs.declared.table.ForkTable.{ForkTable}
use Rattle.fork_by.specs.Table.{AreApart, HasFork, IsTable, KeptFork, due_kept, fork_labels, fork_replaced, fork_with}
use Rattle.fork_by.specs.Table.{kept_at, kept_dues, kept_forks, kept_number, labelled, place_of, with_fork}
use Rattle.fork_by.proofs.TableLaws.{found_label, is_within, label_from, number_found}
use Rattle.fork_by.proofs.ListLaws.{all-filter, all-more, map-length}

-- ---- the fork of a number, in a list
module _ {F : Type 0} where
  pub at-number : (number : ℕ) (ks : List (KeptFork F)) (kept : KeptFork F) → kept_at number ks ≡ Some kept
      → kept.number ≡ number
  at-number number [] kept at = absurd (cc)
  at-number number (k ∷ ks) kept at =
      elim (bool_cases (eqb k.number number)) [
        | inl here ↦
            (let some : Some k ≡ Some kept = sym (ap (λ b. cond b (Some k) (kept_at number ks)) here) ∙ at in
            let is : k ≡ kept = cc in
            ap (λ (x : KeptFork F). x.number) (sym is) ∙ eqb-true k.number number here)
        | inr apart ↦ at-number number ks kept (sym (ap (λ b. cond b (Some k) (kept_at number ks)) apart) ∙ at)
      ]

  pub at-all : (P : KeptFork F → Type 0) (number : ℕ) (ks : List (KeptFork F)) (kept : KeptFork F)
      → AllByRecursion P ks → kept_at number ks ≡ Some kept → P kept
  at-all P number [] kept h at = absurd (cc)
  at-all P number (k ∷ ks) kept h at =
      elim (bool_cases (eqb k.number number)) [
        | inl here ↦
            (let some : Some k ≡ Some kept = sym (ap (λ b. cond b (Some k) (kept_at number ks)) here) ∙ at in
            let is : k ≡ kept = cc in
            subst P is h.0)
        | inr apart ↦ at-all P number ks kept h.1 (sym (ap (λ b. cond b (Some k) (kept_at number ks)) apart) ∙ at)
      ]

  -- a change of forks that keeps their numbers
  pub at-map : (g : KeptFork F → KeptFork F) → ((kept : KeptFork F) → (g kept).number ≡ kept.number) → (number : ℕ)
      → (ks : List (KeptFork F))
      → kept_at number (map g ks) ≡ option_map g (kept_at number ks)
  at-map g same number [] = refl
  at-map g same number (k ∷ ks) =
      ap (λ n. cond (eqb n number) (Some (g k)) (kept_at number (map g ks))) (same k)
      ∙ elim (eqb k.number number) as
      (λ b. cond b (Some (g k)) (kept_at number (map g ks)) ≡ option_map g (cond b (Some k) (kept_at number ks)))
      [ true ↦ refl | false ↦ at-map g same number ks ]

  -- each fork of a list is found
  pub each-at : (ks : List (KeptFork F)) → AllByRecursion (λ (k : KeptFork F). IsSome (kept_at k.number ks)) ks
  each-at ks = each ks (λ n some. some)
    where
      later : (k : KeptFork F) (n : ℕ) (rest : List (KeptFork F)) (b : Bool) → IsSome (kept_at n rest)
          → IsSome (cond b (Some k) (kept_at n rest))
      later k n rest true some = refl
      later k n rest false some = some

      each : (rest : List (KeptFork F)) → ((n : ℕ) → IsSome (kept_at n rest) → IsSome (kept_at n ks))
          → AllByRecursion (λ (k : KeptFork F). IsSome (kept_at k.number ks)) rest
      each [] in_all = tt
      each (k ∷ rest) in_all = (
        in_all k.number
            (subst (λ b. IsSome (cond b (Some k) (kept_at k.number rest))) (sym (eqb-same k.number)) refl),
        each rest (λ n some. in_all n (later k n rest (eqb k.number n) some)),
      )

module _ {F : Type 0} where
  pub apart-found : (key : List Value) (number : ℕ) (ks : List (KeptFork F)) → AreApart ks
      → kept_number key ks ≡ Some number → FoundFork key number ks
  unfolding IsDistinct
  apart-found key number [] apart is = absurd (cc)
  apart-found key number (k ∷ ks) apart is =
      elim (bool_cases (same_key key k.key)) [
        | inl here ↦
            (let some : Some k.number ≡ Some number =
            sym (ap (λ b. cond b (Some k.number) (kept_number key ks)) here) ∙ is in
            let same : k.number ≡ number = cc in record {
              kept = k;
              at = ap (λ b. cond b (Some k) (kept_at number ks)) (ap (λ n. eqb n number) same ∙ eqb-same number);
              of_key = sym ((same_key_decides key k.key).0 here);
            })
        | inr other ↦
            (let rest : FoundFork key number ks =
            apart-found key number ks (record { keys = apart.keys.1; numbers = apart.numbers.1 })
            (sym (ap (λ b. cond b (Some k.number) (kept_number key ks)) other) ∙ is) in
            let differ : eqb k.number number ≡ false =
            ap (eqb k.number) (sym (at-number number ks rest.kept rest.at))
            ∙ at-all (λ (x : KeptFork F). eqb k.number x.number ≡ false) number ks rest.kept
            (by_fork (λ n. eqb k.number n ≡ false) ks apart.numbers.0) rest.at in record {
              kept = rest.kept;
              at = ap (λ b. cond b (Some k) (kept_at number ks)) differ ∙ rest.at;
              of_key = rest.of_key;
            })
      ]
    where
      by_fork : (P : ℕ → Type 0) (xs : List (KeptFork F)) → AllByRecursion P (map (λ (x : KeptFork F). x.number) xs)
          → AllByRecursion (λ (x : KeptFork F). P x.number) xs
      by_fork P [] h = tt
      by_fork P (x ∷ xs) h = (h.0, by_fork P xs h.1)

  -- ---- labels, and the forks that have them
  abbrev fork_of : List F → Option Label → Option (KeptFork F)
  fork_of forks None = None
  fork_of forks (Some label) = fork_with forks label

  -- what a look at a fork gives is what a look at its label gives
  kept_mapped : {A : Type 0} (forks : List F) (f : KeptFork F → A) (g : Label → A)
      → ((l : Label) (fork : F) → f (labelled l fork) ≡ g l)
      → (labels : List Label) → AllByRecursion (λ (l : Label). l.index < length forks) labels
      → map f (filter_map (fork_with forks) labels) ≡ map g labels
  kept_mapped {A} forks f g same [] h = refl
  kept_mapped {A} forks f g same (l ∷ labels) h =
      one (slice_get forks l.index) (is_within forks l.index h.0)
      ∙ ap (λ (xs : List A). g l ∷ xs) (kept_mapped forks f g same labels h.1)
    where
      one : (o : Option F) → IsSome o
          → map f (cons_option (option_map (labelled l) o) (filter_map (fork_with forks) labels))
          ≡ g l ∷ map f (filter_map (fork_with forks) labels)
      one None some = absurd (cc)
      one (Some fork) some = ap (λ (x : A). x ∷ map f (filter_map (fork_with forks) labels)) (same l fork)

  kept_filtered : (forks : List F) (p : KeptFork F → Bool) (q : Label → Bool)
      → ((l : Label) (fork : F) → p (labelled l fork) ≡ q l) → (labels : List Label)
      → AllByRecursion (λ (l : Label). l.index < length forks) labels
      → filter p (filter_map (fork_with forks) labels) ≡ filter_map (fork_with forks) (filter q labels)
  kept_filtered forks p q same [] h = refl
  kept_filtered forks p q same (l ∷ labels) h =
      one (slice_get forks l.index) (q l) refl refl (is_within forks l.index h.0)
      (kept_filtered forks p q same labels h.1)
    where
      one : (o : Option F) (b : Bool) → slice_get forks l.index ≡ o → q l ≡ b → IsSome o
          → filter p (filter_map (fork_with forks) labels) ≡ filter_map (fork_with forks) (filter q labels)
          → filter p (cons_option (option_map (labelled l) o) (filter_map (fork_with forks) labels))
          ≡ filter_map (fork_with forks) (cond b (l ∷ filter q labels) (filter q labels))
      one None b at is some rest = absurd (cc)
      one (Some fork) true at is some rest =
          ap
          (λ b. cond b (labelled l fork ∷ filter p (filter_map (fork_with forks) labels))
          (filter p (filter_map (fork_with forks) labels)))
          (same l fork ∙ is)
          ∙ ap (λ (ks : List (KeptFork F)). labelled l fork ∷ ks) rest
          ∙ sym (ap
          (λ (o : Option F). cons_option (option_map (labelled l) o) (filter_map (fork_with forks) (filter q labels)))
          at)
      one (Some fork) false at is some rest =
          ap
          (λ b. cond b (labelled l fork ∷ filter p (filter_map (fork_with forks) labels))
          (filter p (filter_map (fork_with forks) labels)))
          (same l fork ∙ is)
          ∙ rest

  kept_found : (forks : List F) (number : ℕ) (labels : List Label)
      → AllByRecursion (λ (l : Label). l.index < length forks) labels
      → kept_at number (filter_map (fork_with forks) labels) ≡ fork_of forks (label_at number labels)
  kept_found forks number [] h = refl
  kept_found forks number (l ∷ labels) h =
      one (slice_get forks l.index) (eqb l.number number) refl refl (is_within forks l.index h.0)
      (kept_found forks number labels h.1)
    where
      one : (o : Option F) (b : Bool) → slice_get forks l.index ≡ o → eqb l.number number ≡ b → IsSome o
          → kept_at number (filter_map (fork_with forks) labels) ≡ fork_of forks (label_at number labels)
          → kept_at number (cons_option (option_map (labelled l) o) (filter_map (fork_with forks) labels))
          ≡ fork_of forks (cond b (Some l) (label_at number labels))
      one None b at is some rest = absurd (cc)
      one (Some fork) true at is some rest =
          ap (λ b. cond b (Some (labelled l fork)) (kept_at number (filter_map (fork_with forks) labels))) is
          ∙ sym (ap (λ (o : Option F). option_map (labelled l) o) at)
      one (Some fork) false at is some rest =
          ap (λ b. cond b (Some (labelled l fork)) (kept_at number (filter_map (fork_with forks) labels))) is
          ∙ rest

  kept_moments : (forks : List F) (labels : List Label)
      → AllByRecursion (λ (l : Label). l.index < length forks) labels
      → kept_dues (filter_map (fork_with forks) labels) ≡ due_moments labels
  kept_moments forks [] h = refl
  kept_moments forks (l ∷ labels) h =
      one (slice_get forks l.index) (is_within forks l.index h.0) (kept_moments forks labels h.1)
    where
      one : (o : Option F) → IsSome o → kept_dues (filter_map (fork_with forks) labels) ≡ due_moments labels
          → kept_dues (cons_option (option_map (labelled l) o) (filter_map (fork_with forks) labels))
          ≡ cons_option l.due (due_moments labels)
      one None some rest = absurd (cc)
      one (Some fork) some rest = ap (cons_option l.due) rest

  labels_all : (P : KeptFork F → Type 0) (Q : Label → Type 0) (forks : List F)
      → ((l : Label) (fork : F) → P (labelled l fork) → Q l) → (labels : List Label)
      → AllByRecursion (λ (l : Label). l.index < length forks) labels
      → AllByRecursion P (filter_map (fork_with forks) labels) → AllByRecursion Q labels
  labels_all P Q forks gives [] h all = tt
  labels_all P Q forks gives (l ∷ labels) h all =
      one (slice_get forks l.index) (is_within forks l.index h.0) (labels_all P Q forks gives labels h.1) all
    where
      one : (o : Option F) → IsSome o
          → (AllByRecursion P (filter_map (fork_with forks) labels) → AllByRecursion Q labels)
          → AllByRecursion P (cons_option (option_map (labelled l) o) (filter_map (fork_with forks) labels))
          → AllByRecursion Q (l ∷ labels)
      one None some rest all = absurd (cc)
      one (Some fork) some rest all = (gives l fork all.0, rest all.1)

  get-set_other : (xs : List F) (i j : ℕ) (x : F) → j ≢ i → slice_get (set xs i x) j ≡ slice_get xs j
  get-set_other xs i j x apart =
      let len : length (set xs i x) ≡ length xs = length-set xs i x in
      elim (place j (length xs)) [
        | inl less ↦
            slice_get-get_or (set xs i x) j x (omega (arith, less, len))
            ∙ ap Some (get_or-set_other xs i j x x apart)
            ∙ sym (slice_get-get_or xs j x less)
        | inr past ↦
            slice_get_past (set xs i x) j (omega (arith, past, len)) ∙ sym (slice_get_past xs j past)
      ]
    where
      place : (a b : ℕ) → (a < b) ⊎ (b ≤ a)
      place a b = grind arith

  -- another fork at the index, which is that of one label
  kept_written : (forks : List F) (number index : ℕ) (fork : F) → index < length forks → (labels : List Label)
      → AllByRecursion (λ (l : Label). eqb l.index index ≡ eqb l.number number) labels
      → filter_map (fork_with (set forks index fork)) labels
      ≡ map (fork_replaced number fork) (filter_map (fork_with forks) labels)
  kept_written forks number index fork within [] h = refl
  kept_written forks number index fork within (l ∷ labels) h =
      known (eqb l.number number) refl
      ∙ ap (cons_option (option_map (fork_replaced number fork) (fork_with forks l)))
      (kept_written forks number index fork within labels h.1)
      ∙ mapped (fork_with forks l)
    where
      mapped : (o : Option (KeptFork F))
          → cons_option (option_map (fork_replaced number fork) o)
          (map (fork_replaced number fork) (filter_map (fork_with forks) labels))
          ≡ map (fork_replaced number fork) (cons_option o (filter_map (fork_with forks) labels))
      mapped None = refl
      mapped (Some kept) = refl

      other : (o : Option F) → eqb l.number number ≡ false
          → option_map (labelled l) o ≡ option_map (fork_replaced number fork) (option_map (labelled l) o)
      other None apart = refl
      other (Some was) apart = sym (rw apart refl)

      replaced : (was : F) → eqb l.number number ≡ true
          → Some (fork_replaced number fork (labelled l was)) ≡ Some (labelled l fork)
      replaced was here = rw here refl

      known : (b : Bool) → eqb l.number number ≡ b
          → cons_option (fork_with (set forks index fork) l) (filter_map (fork_with (set forks index fork)) labels)
          ≡ cons_option (option_map (fork_replaced number fork) (fork_with forks l))
          (filter_map (fork_with (set forks index fork)) labels)
      known true here =
          let is : l.index ≡ index = eqb-true l.index index (h.0 ∙ here) in
          let len : length (set forks index fork) ≡ length forks = length-set forks index fork in
          ap
          (λ (o : Option F). cons_option (option_map (labelled l) o)
          (filter_map (fork_with (set forks index fork)) labels))
          (ap (slice_get (set forks index fork)) is
          ∙ slice_get-get_or (set forks index fork) index fork (omega (arith, within, len))
          ∙ ap Some (get_or-set_same forks index fork fork within))
          ∙ ap (λ (o : Option (KeptFork F)). cons_option o (filter_map (fork_with (set forks index fork)) labels))
          (sym (ap (λ (o : Option F). option_map (fork_replaced number fork) (option_map (labelled l) o))
          (ap (slice_get forks) is ∙ slice_get-get_or forks index fork within)
          ∙ replaced (get_or forks index fork) here))
      known false apart =
          ap (λ (o : Option (KeptFork F)). cons_option o (filter_map (fork_with (set forks index fork)) labels))
          (ap (λ (o : Option F). option_map (labelled l) o)
          (get-set_other forks index l.index fork (eqb-apart l.index index (h.0 ∙ apart)))
          ∙ other (slice_get forks l.index) apart)

-- ---- labels that change, and keep their numbers and indices
label_mapped : (g : Label → Label) → ((l : Label) → (g l).number ≡ l.number) → (number : ℕ) (labels : List Label)
    → label_at number (map g labels) ≡ option_map g (label_at number labels)
label_mapped g same number [] = refl
label_mapped g same number (l ∷ labels) =
    ap (λ n. cond (eqb n number) (Some (g l)) (label_at number (map g labels))) (same l)
    ∙ elim (eqb l.number number) as
    (λ b. cond b (Some (g l)) (label_at number (map g labels))
    ≡ option_map g (cond b (Some l) (label_at number labels)))
    [ true ↦ refl | false ↦ label_mapped g same number labels ]

label_grown : (number : ℕ) (labels : List Label) (label : Label) → IsSome (label_at number labels)
    → label_at number (labels ++ label ∷ []) ≡ label_at number labels
label_grown number [] label some = absurd (cc)
label_grown number (l ∷ labels) label some =
    known (eqb l.number number) (label_grown number labels label) some
  where
    known : (b : Bool)
        → (IsSome (label_at number labels) → label_at number (labels ++ label ∷ []) ≡ label_at number labels)
        → IsSome (cond b (Some l) (label_at number labels))
        → cond b (Some l) (label_at number (labels ++ label ∷ [])) ≡ cond b (Some l) (label_at number labels)
    known true rest some = refl
    known false rest some = rest some

label_new : (number : ℕ) (labels : List Label) (label : Label) → label_at number labels ≡ None → label.number ≡ number
    → label_at number (labels ++ label ∷ []) ≡ Some label
label_new number [] label none is =
    ap (λ b. cond b (Some label) None) (ap (λ n. eqb n number) is ∙ eqb-same number)
label_new number (l ∷ labels) label none is =
    known (eqb l.number number) (λ absent. label_new number labels label absent is) none
  where
    known : (b : Bool)
        → (label_at number labels ≡ None → label_at number (labels ++ label ∷ []) ≡ Some label)
        → cond b (Some l) (label_at number labels) ≡ None
        → cond b (Some l) (label_at number (labels ++ label ∷ [])) ≡ Some label
    known true rest none = absurd (cc)
    known false rest none = rest none

-- a number that is found has a label
pub number-live : (key : List Value) (labels : List Label)
    → IfSome (number_of key labels) (λ (number : ℕ). IsLive number labels)
number-live key labels = each labels (λ number some. some)
  where
    later : (l : Label) (number : ℕ) (rest : List Label) (b : Bool) → IsSome (label_at number rest)
        → IsSome (cond b (Some l) (label_at number rest))
    later l number rest true some = refl
    later l number rest false some = some

    each : (rest : List Label) → ((number : ℕ) → IsSome (label_at number rest) → IsLive number labels)
        → IfSome (number_of key rest) (λ (number : ℕ). IsLive number labels)
    each [] in_all = tt
    each (l ∷ rest) in_all =
        known (same_key key l.key)
        (in_all l.number
        (subst (λ b. IsSome (cond b (Some l) (label_at l.number rest))) (sym (eqb-same l.number)) refl))
        (each rest (λ number some. in_all number (later l number rest (eqb l.number number) some)))
      where
        known : (b : Bool) → IsLive l.number labels
            → IfSome (number_of key rest) (λ (number : ℕ). IsLive number labels)
            → IfSome (cond b (Some l.number) (number_of key rest)) (λ (number : ℕ). IsLive number labels)
        known true first more = first
        known false first more = more

module _ {F : Type 0} where
  pub mapped-has : (table table' : ForkTable F) (g : Label → Label) → ((l : Label) → (g l).number ≡ l.number)
      → ((l : Label) → (g l).index ≡ l.index) → fork_labels table' ≡ map g (fork_labels table)
      → table'.forks.items ≡ table.forks.items → (number : ℕ) → HasFork number table → HasFork number table'
  mapped-has table table' g numbers indices is same number has =
      let at : label_at number (fork_labels table') ≡ option_map g (label_at number (fork_labels table)) =
      ap (label_at number) is ∙ label_mapped g numbers number (fork_labels table) in record {
        live =
            subst (λ (o : Option Label). IsSome o) (sym at) (some (label_at number (fork_labels table)) has.live);
        within =
            let place : place_of number table' ≡ place_of number table =
            ap (λ (o : Option Label). unwrap_or (option_map (λ (l : Label). l.index) o) 0) at
            ∙ placed (label_at number (fork_labels table)) in
            let len : length table'.forks.items ≡ length table.forks.items = ap length same in
            let less : place_of number table < length table.forks.items = has.within in
            omega (arith, place, len, less);
      }
    where
      some : (o : Option Label) → IsSome o → IsSome (option_map g o)
      some None h = absurd (cc)
      some (Some l) h = refl

      placed : (o : Option Label)
          → unwrap_or (option_map (λ (l : Label). l.index) (option_map g o)) 0
          ≡ unwrap_or (option_map (λ (l : Label). l.index) o) 0
      placed None = refl
      placed (Some l) = indices l

  module _ (table table' : ForkTable F) (same : table'.forks.items ≡ table.forks.items) where
    pub same-has : fork_labels table' ≡ fork_labels table → (other : ℕ) → HasFork other table → HasFork other table'
    same-has is other has = record {
      live = subst (λ (ls : List Label). IsLive other ls) (sym is) has.live;
      within =
          let place : place_of other table' ≡ place_of other table =
          ap (λ (ls : List Label). unwrap_or (index_at other ls) 0) is in
          let len : length table'.forks.items ≡ length table.forks.items = ap length same in
          let less : place_of other table < length table.forks.items = has.within in
          omega (arith, place, len, less);
    }

    -- the labels are as many as before, and sound
    mapped-table : (g : Label → Label) → fork_labels table' ≡ map g (fork_labels table) → AreSound (fork_labels table')
        → IsTable table → IsTable table'
    mapped-table g is sound is_table = record {
      even =
          ap (λ (forks : List F). length forks) same ∙ is_table.even ∙ sym (map-length g (fork_labels table))
          ∙ sym (ap (λ (ls : List Label). length ls) is);
      sound = sound;
    }

    pub touched-table : (number now : ℕ) → Touches (fork_labels table) (fork_labels table') number now
        → AreSound (fork_labels table') → IsTable table → IsTable table'
    touched-table number now touches = mapped-table (with_moment number touches.moment) touches.is

    pub dated-table : (number : ℕ) (due : Option ℕ) → fork_labels table' ≡ dues_set number due (fork_labels table)
        → AreSound (fork_labels table') → IsTable table → IsTable table'
    dated-table number due = mapped-table (with_due number due)

    pub cleared-table : (now : ℕ) → fork_labels table' ≡ dues_cleared now (fork_labels table)
        → AreSound (fork_labels table') → IsTable table → IsTable table'
    cleared-table now = mapped-table (without_due now)

    pub same-table : fork_labels table' ≡ fork_labels table → AreSound (fork_labels table')
        → IsTable table → IsTable table'
    same-table is sound is_table = record {
      even =
          ap (λ (forks : List F). length forks) same ∙ is_table.even
          ∙ sym (ap (λ (ls : List Label). length ls) is);
      sound = sound;
    }

    pub touched-has : (number now : ℕ) → Touches (fork_labels table) (fork_labels table') number now → (other : ℕ)
        → HasFork other table → HasFork other table'
    touched-has number now touches other has =
        mapped-has table table' (with_moment number touches.moment)
        (λ l. elim (eqb l.number number) as (λ b. (cond b (record l { moment = touches.moment }) l).number ≡ l.number)
        [ true ↦ refl | false ↦ refl ])
        (λ l. elim (eqb l.number number) as (λ b. (cond b (record l { moment = touches.moment }) l).index ≡ l.index)
        [ true ↦ refl | false ↦ refl ])
        touches.is same other has

    pub dated-has : (number : ℕ) (due : Option ℕ) → fork_labels table' ≡ dues_set number due (fork_labels table)
        → (other : ℕ) → HasFork other table → HasFork other table'
    dated-has number due is other has =
        mapped-has table table' (with_due number due)
        (λ l. elim (eqb l.number number) as (λ b. (cond b (record l { due = due }) l).number ≡ l.number)
        [ true ↦ refl | false ↦ refl ])
        (λ l. elim (eqb l.number number) as (λ b. (cond b (record l { due = due }) l).index ≡ l.index)
        [ true ↦ refl | false ↦ refl ])
        is same other has

    pub cleared-has : (now : ℕ) → fork_labels table' ≡ dues_cleared now (fork_labels table)
        → (other : ℕ) → HasFork other table → HasFork other table'
    cleared-has now is other has =
        mapped-has table table' (without_due now)
        (λ l. elim (is_due_by now l.due) as (λ b. (cond b (record l { due = None }) l).number ≡ l.number)
        [ true ↦ refl | false ↦ refl ])
        (λ l. elim (is_due_by now l.due) as (λ b. (cond b (record l { due = None }) l).index ≡ l.index)
        [ true ↦ refl | false ↦ refl ])
        is same other has

  module _ (table table' : ForkTable F) (fork : F) (items : table'.forks.items ≡ table.forks.items ++ fork ∷ [])
      (key : List Value) (number now : ℕ) (adds : Adds (fork_labels table) (fork_labels table') key number now) where
    one_more : length table'.forks.items ≡ length table.forks.items + 1
    one_more = ap length items ∙ length-append table.forks.items (fork ∷ [])

    pub added-others : (other : ℕ) → HasFork other table → HasFork other table'
    added-others other has =
        let at : label_at other (fork_labels table') ≡ label_at other (fork_labels table) =
        ap (label_at other) adds.added
        ∙ label_grown other (fork_labels table) (label_from key number (length (fork_labels table)) adds.moment)
        has.live in record {
          live = subst (λ (o : Option Label). IsSome o) (sym at) has.live;
          within =
              let place : place_of other table' ≡ place_of other table =
              ap (λ (o : Option Label). unwrap_or (option_map (λ (l : Label). l.index) o) 0) at in
              let less : place_of other table < length table.forks.items = has.within in
              omega (arith, place, one_more, less);
        }

    pub added-table : AreSound (fork_labels table') → IsTable table → IsTable table'
    added-table sound is_table = record {
      even =
          one_more ∙ ap (λ n. n + 1) is_table.even
          ∙ sym (ap (λ (ls : List Label). length ls) adds.added
          ∙ length-append (fork_labels table)
          (label_from key number (length (fork_labels table)) adds.moment ∷ []));
      sound = sound;
    }

    pub added-has : IsTable table → HasFork number table'
    added-has is_table =
        let at : label_at number (fork_labels table')
        ≡ Some (label_from key number (length (fork_labels table)) adds.moment) =
        ap (label_at number) adds.added
        ∙ label_new number (fork_labels table) (label_from key number (length (fork_labels table)) adds.moment)
        adds.vacant refl in record {
          live = subst (λ (o : Option Label). IsSome o) (sym at) refl;
          within =
              let place : place_of number table' ≡ length (fork_labels table) =
              ap (λ (o : Option Label). unwrap_or (option_map (λ (l : Label). l.index) o) 0) at in
              let even : length table.forks.items ≡ length (fork_labels table) = is_table.even in
              omega (arith, place, one_more, even);
        }

  -- ---- tables
  module _ (table : ForkTable F) where
    pub written-table : IsTable table → (number : ℕ) (fork : F) → IsTable (with_fork table number fork)
    written-table is_table number fork = record {
      even = length-set table.forks.items (place_of number table) fork ∙ is_table.even;
      sound = is_table.sound;
    }

    pub written-has : (number : ℕ) (fork : F) (other : ℕ) → HasFork other table
        → HasFork other (with_fork table number fork)
    written-has number fork other has = record {
      live = has.live;
      within =
          let len : length (set table.forks.items (place_of number table) fork) ≡ length table.forks.items =
          length-set table.forks.items (place_of number table) fork in
          let less : place_of other table < length table.forks.items = has.within in
          omega (arith, len, less);
    }

  module _ (table : ForkTable F) (is_table : IsTable table) where
    all_within : AllByRecursion (λ (l : Label). l.index < length table.forks.items) (fork_labels table)
    all_within =
        recursion_from_All (λ (l : Label). l.index < length table.forks.items) (fork_labels table)
        (subst (λ (n : ℕ). All (λ (l : Label). l.index < n) (fork_labels table)) (sym is_table.even)
        is_table.sound.within)

    at_label : (number : ℕ)
        → kept_at number (kept_forks table) ≡ fork_of table.forks.items (label_at number (fork_labels table))
    at_label number = kept_found table.forks.items number (fork_labels table) all_within

    pub number-kept : (key : List Value) → number_of key (fork_labels table) ≡ kept_number key (kept_forks table)
    number-kept key =
        ap (lookup (same_key key))
        (sym (kept_mapped table.forks.items (λ (k : KeptFork F). (k.key, k.number)) (λ (l : Label). (l.key, l.number))
        (λ l fork. refl) (fork_labels table) all_within))

    pub due-kept : (now : ℕ) → due_numbers now (fork_labels table) ≡ due_kept now (kept_forks table)
    due-kept now =
        sym (ap (map (λ (k : KeptFork F). k.number))
        (kept_filtered table.forks.items (λ (k : KeptFork F). is_due_by now k.due) (λ (l : Label). is_due_by now l.due)
        (λ l fork. refl) (fork_labels table) all_within)
        ∙ kept_mapped table.forks.items (λ (k : KeptFork F). k.number) (λ (l : Label). l.number) (λ l fork. refl)
        (filter (λ (l : Label). is_due_by now l.due) (fork_labels table))
        (all-filter (λ (l : Label). l.index < length table.forks.items) (λ (l : Label). is_due_by now l.due)
        (fork_labels table) all_within))

    pub dues-kept : due_moments (fork_labels table) ≡ kept_dues (kept_forks table)
    dues-kept = sym (kept_moments table.forks.items (fork_labels table) all_within)

    pub latest-kept : (now : ℕ) → AllByRecursion (λ (kept : KeptFork F). kept.moment ≤ now) (kept_forks table)
        → IsLatest now (fork_labels table)
    latest-kept now all =
        All-from_recursion (λ (l : Label). l.moment ≤ now) (fork_labels table)
        (labels_all (λ (kept : KeptFork F). kept.moment ≤ now) (λ (l : Label). l.moment ≤ now) table.forks.items
        (λ l fork less. less) (fork_labels table) all_within all)

    pub kept-apart : AreApart (kept_forks table)
    kept-apart = record {
      keys =
          subst (λ (keys : List (List Value)). IsDistinct same_key keys)
          (sym (kept_mapped table.forks.items (λ (k : KeptFork F). k.key) (λ (l : Label). l.key) (λ l fork. refl)
          (fork_labels table) all_within))
          is_table.sound.keys;
      numbers =
          subst (λ (numbers : List ℕ). IsDistinct eqb numbers)
          (sym (kept_mapped table.forks.items (λ (k : KeptFork F). k.number) (λ (l : Label). l.number) (λ l fork. refl)
          (fork_labels table) all_within))
          is_table.sound.numbers;
    }

    pub found-key : (key : List Value) (number : ℕ) → kept_number key (kept_forks table) ≡ Some number
        → FoundFork key number (kept_forks table)
    found-key key number is = apart-found key number (kept_forks table) kept-apart is

    -- ---- the fork of a number
    label_within : (number : ℕ) (l : Label) → label_at number (fork_labels table) ≡ Some l
        → l.index < length table.forks.items
    label_within number l at =
        found_label (λ (l : Label). l.index < length table.forks.items) (fork_labels table) number l all_within at

    pub kept-has : (number : ℕ) → IsSome (kept_at number (kept_forks table)) → HasFork number table
    kept-has number some =
        known (label_at number (fork_labels table)) refl
        (subst (λ (o : Option (KeptFork F)). IsSome o) (at_label number) some)
      where
        known : (o : Option Label) → label_at number (fork_labels table) ≡ o
            → IsSome (fork_of table.forks.items (label_at number (fork_labels table)))
            → HasFork number table
        known None at some = absurd (let none : fork_of table.forks.items (label_at number (fork_labels table)) ≡ None =
            ap (fork_of table.forks.items) at in cc)
        known (Some l) at some = record {
          live = subst (λ (o : Option Label). IsSome o) (sym at) refl;
          within =
              let place : place_of number table ≡ l.index =
              ap (λ (o : Option Label). unwrap_or (option_map (λ (l : Label). l.index) o) 0) at in
              let less : l.index < length table.forks.items = label_within number l at in
              omega (arith, place, less);
        }

    pub has-kept : (number : ℕ) → HasFork number table → IsSome (kept_at number (kept_forks table))
    has-kept number has =
        subst (λ (o : Option (KeptFork F)). IsSome o) (sym (at_label number))
        (known (label_at number (fork_labels table)) refl has.live)
      where
        some : (l : Label) (o : Option F) → IsSome o → IsSome (option_map (labelled l) o)
        some l None h = absurd (cc)
        some l (Some fork) h = refl

        known : (o : Option Label) → label_at number (fork_labels table) ≡ o → IsSome o
            → IsSome (fork_of table.forks.items o)
        known None at h = absurd (cc)
        known (Some l) at h =
            some l (slice_get table.forks.items l.index)
            (is_within table.forks.items l.index (label_within number l at))

    pub kept-all-have : AllByRecursion (λ (kept : KeptFork F). HasFork kept.number table) (kept_forks table)
    kept-all-have =
        all-more (λ (kept : KeptFork F). IsSome (kept_at kept.number (kept_forks table)))
        (λ (kept : KeptFork F). HasFork kept.number table) (λ kept some. kept-has kept.number some) (kept_forks table)
        (each-at (kept_forks table))

    pub kept-fork : (number : ℕ) (kept : KeptFork F) (other : F) → kept_at number (kept_forks table) ≡ Some kept
        → get_or table.forks.items (place_of number table) other ≡ kept.fork
    kept-fork number kept other at =
        known (label_at number (fork_labels table)) refl (sym (at_label number) ∙ at)
      where
        here : (l : Label) (o : Option F) → slice_get table.forks.items l.index ≡ o
            → option_map (labelled l) o ≡ Some kept → get_or table.forks.items l.index other ≡ kept.fork
        here l None at is = absurd (cc)
        here l (Some fork) at is =
            let same : labelled l fork ≡ kept = cc in
            get_or_from_slice_get table.forks.items l.index fork other at ∙ ap (λ (k : KeptFork F). k.fork) same

        known : (o : Option Label) → label_at number (fork_labels table) ≡ o
            → fork_of table.forks.items (label_at number (fork_labels table)) ≡ Some kept
            → get_or table.forks.items (place_of number table) other ≡ kept.fork
        known None at is = absurd (let none : fork_of table.forks.items (label_at number (fork_labels table)) ≡ None =
            ap (fork_of table.forks.items) at in cc)
        known (Some l) at is =
            ap
            (λ (o : Option Label). get_or table.forks.items (unwrap_or (option_map (λ (l : Label). l.index) o) 0) other)
            at
            ∙ here l (slice_get table.forks.items l.index) refl (sym (ap (fork_of table.forks.items) at) ∙ is)

    pub kept-lent : (number : ℕ) (lent : F) → lent ≡ get_or table.forks.items (place_of number table) lent
        → IfSome (kept_at number (kept_forks table)) (λ (kept : KeptFork F). lent ≡ kept.fork)
    kept-lent number lent is = known (kept_at number (kept_forks table)) refl
      where
        known : (o : Option (KeptFork F)) → kept_at number (kept_forks table) ≡ o
            → IfSome o (λ (kept : KeptFork F). lent ≡ kept.fork)
        known None at = tt
        known (Some kept) at = is ∙ kept-fork number kept lent at

    pub written-kept : (number : ℕ) (fork : F) → HasFork number table
        → kept_forks (with_fork table number fork) ≡ map (fork_replaced number fork) (kept_forks table)
    written-kept number fork has =
        kept_written table.forks.items number (place_of number table) fork has.within (fork_labels table)
        (known (label_at number (fork_labels table)) refl has.live)
      where
        known : (o : Option Label) → label_at number (fork_labels table) ≡ o → IsSome o
            → AllByRecursion (λ (l : Label). eqb l.index (place_of number table) ≡ eqb l.number number)
            (fork_labels table)
        known None at some = absurd (cc)
        known (Some label) at some =
            let place : place_of number table ≡ label.index =
            ap (λ (o : Option Label). unwrap_or (option_map (λ (l : Label). l.index) o) 0) at in
            let named : label.number ≡ number = number_found (fork_labels table) number label at in
            all-more
            (λ (l : Label). All (λ (other : Label). eqb l.index other.index ≡ eqb l.number other.number)
            (fork_labels table))
            (λ (l : Label). eqb l.index (place_of number table) ≡ eqb l.number number)
            (λ l all. ap (eqb l.index) place
            ∙ found_label (λ (other : Label). eqb l.index other.index ≡ eqb l.number other.number) (fork_labels table)
            number label
            (recursion_from_All (λ (other : Label). eqb l.index other.index ≡ eqb l.number other.number)
            (fork_labels table) all)
            at
            ∙ ap (eqb l.number) named)
            (fork_labels table)
            (recursion_from_All
            (λ (l : Label). All (λ (other : Label). eqb l.index other.index ≡ eqb l.number other.number)
            (fork_labels table))
            (fork_labels table) is_table.sound.indices)

    -- the moment that a look at the label gives
    pub kept-moment : (number moment : ℕ) → moment ≡ unwrap_or (last_moment_at number (fork_labels table)) 0
        → IfSome (kept_at number (kept_forks table)) (λ (kept : KeptFork F). moment ≡ kept.moment)
    kept-moment number moment is = known (kept_at number (kept_forks table)) refl
      where
        of_label : (l : Label) (o : Option F) (kept : KeptFork F) → option_map (labelled l) o ≡ Some kept
            → l.moment ≡ kept.moment
        of_label l None kept at = absurd (cc)
        of_label l (Some fork) kept at =
            let same : labelled l fork ≡ kept = cc in ap (λ (k : KeptFork F). k.moment) same

        at_some : (o : Option Label) (kept : KeptFork F) → fork_of table.forks.items o ≡ Some kept
            → unwrap_or (option_map (λ (l : Label). l.moment) o) 0 ≡ kept.moment
        at_some None kept at = absurd (cc)
        at_some (Some l) kept at = of_label l (slice_get table.forks.items l.index) kept at

        known : (o : Option (KeptFork F)) → kept_at number (kept_forks table) ≡ o
            → IfSome o (λ (kept : KeptFork F). moment ≡ kept.moment)
        known None at = tt
        known (Some kept) at =
            is ∙ at_some (label_at number (fork_labels table)) kept (sym (at_label number) ∙ at)

    -- a number that is found has a fork
    pub found-has : (key : List Value)
        → IfSome (kept_number key (kept_forks table)) (λ (number : ℕ). HasFork number table)
    found-has key = known (kept_number key (kept_forks table)) refl
      where
        known : (o : Option ℕ) → kept_number key (kept_forks table) ≡ o
            → IfSome o (λ (number : ℕ). HasFork number table)
        known None is = tt
        known (Some number) is =
            kept-has number
            (subst (λ (o : Option (KeptFork F)). IsSome o) (sym (found-key key number is).at) refl)
