-- Laws of tables of forks, by their labels.
use Rattle.std.proofs.Common.{◌≡◌, ℕ, suc, zero, ◌+◌, ◌-◌, ◌<◌, ◌≤◌, Bool, true, false, not, cond, eqb, nat_le, List}
use Rattle.std.proofs.Common.{[], ◌∷◌, ◌++◌, map, filter, length, slice_get, Option, None, Some, IsSome, arith, refl}
use Rattle.std.proofs.Common.{sym, ◌∙◌, ap, subst, inl, inr}
use Rattle.std.specs.List.{All, AllByRecursion, IsDistinct, filter_map, cons_option}
use Rattle.std.specs.Option.{option_map}
use Rattle.std.specs.Vec.{with_item}
use Rattle.std.proofs.lemmas.Bool.Decides.{nat_tests}
use Rattle.std.proofs.lemmas.List.Elements.{recursion_from_All, filter_map-append}
use Rattle.ev_types.specs.declared.value.Value.{Value}
use Rattle.linked_slots.proofs.ListLaws.{bool_cases, eqb-same, eqb-true, eqb-false, eqb-apart}
use Rattle.fork_by.specs.Labels.{Label, AreSound, Adds, Drops, IsLatest, Touches, label_at, dues_cleared, dues_set}
use Rattle.fork_by.specs.Labels.{is_due_by, moved_to, touched, with_due, with_moment, without_due}
use Rattle.fork_by.specs.declared.table.ForkTable.{ForkTable}
use Rattle.fork_by.specs.Table.{KeptFork, TakesFork, fork_cleared, fork_dated, fork_touched, fork_with, labelled}
use Rattle.fork_by.specs.Table.{later_than}
use Rattle.fork_by.proofs.ListLaws.{all-more, filter-length, get-end, get-push, map-length}

abbrev pub label_from : List Value → ℕ → ℕ → ℕ → Label
label_from key number index moment = record { key = key; number = number; index = index; moment = moment; due = None }

pub is_within : {F : Type 0} (forks : List F) (index : ℕ) → index < length forks → IsSome (slice_get forks index)
is_within [] index h = absurd (omega (arith, h))
is_within (fork ∷ forks) zero h = refl
is_within (fork ∷ forks) (suc index) h = is_within forks index (omega (arith, h))

same-index-due : (due : Option ℕ) (l : Label) (b : Bool) → (cond b (record l { due = due }) l).index ≡ l.index
same-index-due due l true = refl
same-index-due due l false = refl

-- the label that is found is the only one of its number
only_label : (labels : List Label) (number : ℕ) (label : Label) → IsDistinct eqb (map (λ (l : Label). l.number) labels)
    → label_at number labels ≡ Some label
    → AllByRecursion (λ (l : Label). eqb l.number number ≡ true → l ≡ label) labels
unfolding IsDistinct
only_label labels number label distinct at = by_cases labels distinct at
  where
    none_other : (n : ℕ) (ls : List Label) → n ≡ number
        → AllByRecursion (λ m. eqb n m ≡ false) (map (λ (l : Label). l.number) ls)
        → AllByRecursion (λ (l : Label). eqb l.number number ≡ true → l ≡ label) ls
    none_other n [] is h = tt
    none_other n (l ∷ ls) is h = (
      λ same. absurd (let e : eqb n l.number ≡ true =
          ap (λ m. eqb m l.number) is ∙ ap (eqb number) (eqb-true l.number number same) ∙ eqb-same number in
          let d : eqb n l.number ≡ false = h.0 in
          cc),
      none_other n ls is h.1,
    )

    by_cases : (ls : List Label) → IsDistinct eqb (map (λ (l : Label). l.number) ls) → label_at number ls ≡ Some label
        → AllByRecursion (λ (l : Label). eqb l.number number ≡ true → l ≡ label) ls
    by_cases [] distinct at = tt
    by_cases (l ∷ ls) distinct at =
        elim (bool_cases (eqb l.number number)) [
          | inl here ↦ (let is : Some l ≡ Some label = sym (ap (λ b. cond b (Some l) (label_at number ls)) here) ∙ at in
              ((λ same. cc), none_other l.number ls (eqb-true l.number number here) distinct.0))
          | inr apart ↦ (
            (λ same. absurd (cc)),
            by_cases ls distinct.1 (sym (ap (λ b. cond b (Some l) (label_at number ls)) apart) ∙ at),
          )
        ]

pub found_label : (P : Label → Type 0) (labels : List Label) (number : ℕ) (label : Label) → AllByRecursion P labels
    → label_at number labels ≡ Some label → P label
found_label P [] number label h at = absurd (cc)
found_label P (l ∷ labels) number label h at =
    elim (bool_cases (eqb l.number number)) [
      | inl here ↦
          (let some : Some l ≡ Some label = sym (ap (λ b. cond b (Some l) (label_at number labels)) here) ∙ at in
          let is : l ≡ label = cc in
          subst P is h.0)
      | inr apart ↦
          found_label P labels number label h.1 (sym (ap (λ b. cond b (Some l) (label_at number labels)) apart) ∙ at)
    ]

pub number_found : (labels : List Label) (number : ℕ) (label : Label) → label_at number labels ≡ Some label
    → label.number ≡ number
number_found [] number label at = absurd (cc)
number_found (l ∷ labels) number label at =
    elim (bool_cases (eqb l.number number)) [
      | inl here ↦
          (let some : Some l ≡ Some label = sym (ap (λ b. cond b (Some l) (label_at number labels)) here) ∙ at in
          let is : l ≡ label = cc in
          ap (λ (x : Label). x.number) (sym is) ∙ eqb-true l.number number here)
      | inr apart ↦
          number_found labels number label (sym (ap (λ b. cond b (Some l) (label_at number labels)) apart) ∙ at)
    ]

-- ---- how many labels are left
pub fewer-left : (number : ℕ) (label : Label) (labels : List Label) → label_at number labels ≡ Some label
    → length (filter (λ (l : Label). not (eqb l.number number)) labels) < length labels
fewer-left number label [] at = absurd (cc)
fewer-left number label (l ∷ labels) at =
    elim (bool_cases (eqb l.number number)) [
      | inl here ↦
          rw here (let less : length (filter (λ (l : Label). not (eqb l.number number)) labels) ≤ length labels =
          filter-length (λ (l : Label). not (eqb l.number number)) labels in
          omega (arith, less))
      | inr apart ↦
          rw apart (let less : length (filter (λ (l : Label). not (eqb l.number number)) labels) < length labels =
          fewer-left number label labels (sym (ap (λ b. cond b (Some l) (label_at number labels)) apart) ∙ at) in
          omega (arith, less))
    ]

all_left : (number : ℕ) (labels : List Label) → AllByRecursion (λ (l : Label). eqb l.number number ≡ false) labels
    → length (filter (λ (l : Label). not (eqb l.number number)) labels) ≡ length labels
all_left number [] h = refl
all_left number (l ∷ labels) h = rw h.0 (ap suc (all_left number labels h.1))

one-left : (number : ℕ) (label : Label) (labels : List Label) → IsDistinct eqb (map (λ (l : Label). l.number) labels)
    → label_at number labels ≡ Some label
    → length (filter (λ (l : Label). not (eqb l.number number)) labels) + 1 ≡ length labels
unfolding IsDistinct
one-left number label [] distinct at = absurd (cc)
one-left number label (l ∷ labels) distinct at =
    elim (bool_cases (eqb l.number number)) [
      | inl here ↦
          rw here (let all : length (filter (λ (l : Label). not (eqb l.number number)) labels) ≡ length labels =
          all_left number labels (others l.number labels (eqb-true l.number number here) distinct.0) in
          omega (arith, all))
      | inr apart ↦
          rw apart (let rest : length (filter (λ (l : Label). not (eqb l.number number)) labels) + 1 ≡ length labels =
          one-left number label labels distinct.1
          (sym (ap (λ b. cond b (Some l) (label_at number labels)) apart) ∙ at) in
          omega (arith, rest))
    ]
  where
    others : (n : ℕ) (ls : List Label) → n ≡ number
        → AllByRecursion (λ m. eqb n m ≡ false) (map (λ (l : Label). l.number) ls)
        → AllByRecursion (λ (l : Label). eqb l.number number ≡ false) ls
    others n [] is h = tt
    others n (l ∷ ls) is h = (
      eqb-false l.number number (λ e. eqb-apart n l.number h.0 (is ∙ sym e)),
      others n ls is h.1,
    )

pub drops-fewer : (labels labels' : List Label) (upto index : ℕ) → Drops labels labels' upto index
    → length labels' < length labels
drops-fewer labels labels' upto index drops =
    let is : length labels' ≡ length (filter (λ (l : Label). not (eqb l.number drops.number)) labels) =
    ap (λ (ls : List Label). length ls) drops.is
    ∙ map-length (moved_to index (length labels - 1))
    (filter (λ (l : Label). not (eqb l.number drops.number)) labels) in
    let less : length (filter (λ (l : Label). not (eqb l.number drops.number)) labels) < length labels =
    fewer-left drops.number drops.label labels drops.was in
    omega (arith, is, less)

module _ {F : Type 0} where
  -- the table with the fork at the index in place of the one that it has
  abbrev pub placed_fork : ForkTable F → ℕ → F → ForkTable F
  placed_fork table index fork = record table { forks = with_item table.forks index fork }

  -- ---- a fork is added
  known_forks : (forks : List F) (fork : F) (labels : List Label) → AllByRecursion (λ l. l.index < length forks) labels
      → filter_map (fork_with (forks ++ fork ∷ [])) labels ≡ filter_map (fork_with forks) labels
  known_forks forks fork [] h = refl
  known_forks forks fork (l ∷ labels) h =
      let less : l.index < length forks = h.0 in
      let apart : eqb l.index (length forks) ≡ false = grind (arith, nat_tests, less) in
      let same : fork_with (forks ++ fork ∷ []) l ≡ fork_with forks l =
      ap (λ (o : Option F). option_map (labelled l) o)
      (get-push forks fork l.index ∙ ap (λ b. cond b (Some fork) (slice_get forks l.index)) apart) in
      ap (λ (o : Option (KeptFork F)). cons_option o (filter_map (fork_with (forks ++ fork ∷ [])) labels)) same
      ∙ ap (cons_option (fork_with forks l)) (known_forks forks fork labels h.1)

  pub kept-added : (forks : List F) (fork : F) (labels : List Label) (l : Label)
      → All (λ (l : Label). l.index < length labels) labels → length forks ≡ length labels → l.index ≡ length labels
      → filter_map (fork_with (forks ++ fork ∷ [])) (labels ++ l ∷ [])
      ≡ filter_map (fork_with forks) labels ++ labelled l fork ∷ []
  kept-added forks fork labels l within even last =
      filter_map-append (fork_with (forks ++ fork ∷ [])) labels (l ∷ [])
      ∙ ap (λ (ks : List (KeptFork F)). ks ++ filter_map (fork_with (forks ++ fork ∷ [])) (l ∷ []))
      (known_forks forks fork labels (recursion_from_All (λ (l : Label). l.index < length forks) labels
      (subst (λ (n : ℕ). All (λ (l : Label). l.index < n) labels) (sym even) within)))
      ∙ ap (λ (o : Option (KeptFork F)). filter_map (fork_with forks) labels ++ cons_option o [])
      (ap (λ (o : Option F). option_map (labelled l) o)
      (ap (slice_get (forks ++ fork ∷ [])) (last ∙ sym even) ∙ get-end forks fork))

  -- ---- labels change, and keep their forks
  kept-map : (forks : List F) (g : Label → Label) (g' : KeptFork F → KeptFork F)
      → ((l : Label) → fork_with forks (g l) ≡ option_map g' (fork_with forks l))
      → (labels : List Label)
      → filter_map (fork_with forks) (map g labels) ≡ map g' (filter_map (fork_with forks) labels)
  kept-map forks g g' h [] = refl
  kept-map forks g g' h (l ∷ labels) =
      ap (λ (o : Option (KeptFork F)). cons_option o (filter_map (fork_with forks) (map g labels))) (h l)
      ∙ ap (cons_option (option_map g' (fork_with forks l))) (kept-map forks g g' h labels)
      ∙ mapped (fork_with forks l) (filter_map (fork_with forks) labels)
    where
      mapped : (o : Option (KeptFork F)) (ks : List (KeptFork F))
          → cons_option (option_map g' o) (map g' ks) ≡ map g' (cons_option o ks)
      mapped None ks = refl
      mapped (Some kept) ks = refl

  touched-fork : (number moment : ℕ) (l : Label) (b : Bool) (o : Option F) → eqb l.number number ≡ b
      → option_map (labelled (cond b (record l { moment = moment }) l)) o
      ≡ option_map (fork_touched number moment) (option_map (labelled l) o)
  touched-fork number moment l b None at = refl
  touched-fork number moment l true (Some fork) at = sym (rw at refl)
  touched-fork number moment l false (Some fork) at = sym (rw at refl)

  pub kept-touched : (forks : List F) (number moment : ℕ) (labels : List Label)
      → filter_map (fork_with forks) (touched number moment labels)
      ≡ map (fork_touched number moment) (filter_map (fork_with forks) labels)
  kept-touched forks number moment labels =
      kept-map forks (with_moment number moment) (fork_touched number moment) (λ l.
      ap (λ i. option_map (labelled (with_moment number moment l)) (slice_get forks i))
      (same-index l (eqb l.number number))
      ∙ touched-fork number moment l (eqb l.number number) (slice_get forks l.index) refl) labels
    where
      same-index : (l : Label) (b : Bool) → (cond b (record l { moment = moment }) l).index ≡ l.index
      same-index l true = refl
      same-index l false = refl

  dated-fork : (number : ℕ) (due : Option ℕ) (l : Label) (b : Bool) (o : Option F) → eqb l.number number ≡ b
      → option_map (labelled (cond b (record l { due = due }) l)) o
      ≡ option_map (fork_dated number due) (option_map (labelled l) o)
  dated-fork number due l b None at = refl
  dated-fork number due l true (Some fork) at = sym (rw at refl)
  dated-fork number due l false (Some fork) at = sym (rw at refl)

  pub kept-dated : (forks : List F) (number : ℕ) (due : Option ℕ) (labels : List Label)
      → filter_map (fork_with forks) (dues_set number due labels)
      ≡ map (fork_dated number due) (filter_map (fork_with forks) labels)
  kept-dated forks number due labels =
      kept-map forks (with_due number due) (fork_dated number due) (λ l.
      ap (λ i. option_map (labelled (with_due number due l)) (slice_get forks i))
      (same-index-due due l (eqb l.number number))
      ∙ dated-fork number due l (eqb l.number number) (slice_get forks l.index) refl) labels

  cleared-fork : (now : ℕ) (l : Label) (b : Bool) (o : Option F) → is_due_by now l.due ≡ b
      → option_map (labelled (cond b (record l { due = None }) l)) o
      ≡ option_map (fork_cleared now) (option_map (labelled l) o)
  cleared-fork now l b None at = refl
  cleared-fork now l true (Some fork) at = sym (rw at refl)
  cleared-fork now l false (Some fork) at = sym (rw at refl)

  pub kept-cleared : (forks : List F) (now : ℕ) (labels : List Label)
      → filter_map (fork_with forks) (dues_cleared now labels)
      ≡ map (fork_cleared now) (filter_map (fork_with forks) labels)
  kept-cleared forks now labels =
      kept-map forks (without_due now) (fork_cleared now) (λ l.
      ap (λ i. option_map (labelled (without_due now l)) (slice_get forks i))
      (same-index-due None l (is_due_by now l.due))
      ∙ cleared-fork now l (is_due_by now l.due) (slice_get forks l.index) refl) labels

  -- ---- a fork is dropped
  abbrev is_other : ℕ → KeptFork F → Bool
  is_other number kept = not (eqb kept.number number)

  other_skipped : (number : ℕ) (l : Label) (o : Option F) (ks : List (KeptFork F)) → eqb l.number number ≡ true
      → filter (is_other number) (cons_option (option_map (labelled l) o) ks) ≡ filter (is_other number) ks
  other_skipped number l None ks at = refl
  other_skipped number l (Some fork) ks at = rw at refl

  other_kept : (number : ℕ) (l : Label) (o : Option F) (ks : List (KeptFork F)) → eqb l.number number ≡ false
      → filter (is_other number) (cons_option (option_map (labelled l) o) ks)
      ≡ cons_option (option_map (labelled l) o) (filter (is_other number) ks)
  other_kept number l None ks at = refl
  other_kept number l (Some fork) ks at = rw at refl

  module _ (forks forks' : List F) (number index : ℕ) (within : index < length forks)
      (takes : TakesFork forks forks' index) where
    moved-fork : (l : Label) → eqb l.index index ≡ false
        → fork_with forks' (moved_to index (length forks') l) ≡ fork_with forks l
    moved-fork l apart = known (eqb l.index (length forks')) refl
      where
        known : (b : Bool) → eqb l.index (length forks') ≡ b
            → fork_with forks' (cond b (record l { index = index }) l) ≡ fork_with forks l
        known true last =
            let is : l.index ≡ length forks' = eqb-true l.index (length forks') last in
            ap (λ (o : Option F). option_map (labelled l) o)
            (takes.entry within index
            ∙ rw (eqb-false index (length forks') (λ e. eqb-apart l.index index apart (is ∙ sym e)), eqb-same index)
            (ap (slice_get forks) (sym is)))
        known false off =
            ap (λ (o : Option F). option_map (labelled l) o) (takes.entry within l.index ∙ rw (off, apart) refl)

    kept-left : (labels : List Label) → AllByRecursion (λ (l : Label). eqb l.index index ≡ eqb l.number number) labels
        → filter_map (fork_with forks')
        (map (moved_to index (length forks')) (filter (λ (l : Label). not (eqb l.number number)) labels))
        ≡ filter (is_other number) (filter_map (fork_with forks) labels)
    kept-left [] h = refl
    kept-left (l ∷ labels) h = known (eqb l.number number) refl (kept-left labels h.1)
      where
        known : (b : Bool) → eqb l.number number ≡ b
            → filter_map (fork_with forks')
            (map (moved_to index (length forks')) (filter (λ (l : Label). not (eqb l.number number)) labels))
            ≡ filter (is_other number) (filter_map (fork_with forks) labels)
            → filter_map (fork_with forks')
            (map (moved_to index (length forks'))
            (cond (not b) (l ∷ filter (λ (l : Label). not (eqb l.number number)) labels)
            (filter (λ (l : Label). not (eqb l.number number)) labels)))
            ≡ filter (is_other number) (cons_option (fork_with forks l) (filter_map (fork_with forks) labels))
        known true at rest =
            rest ∙ sym (other_skipped number l (slice_get forks l.index) (filter_map (fork_with forks) labels) at)
        known false at rest =
            ap
            (λ (o : Option (KeptFork F)). cons_option o
            (filter_map (fork_with forks')
            (map (moved_to index (length forks')) (filter (λ (l : Label). not (eqb l.number number)) labels))))
            (moved-fork l (h.0 ∙ at))
            ∙ ap (cons_option (fork_with forks l)) rest
            ∙ sym (other_kept number l (slice_get forks l.index) (filter_map (fork_with forks) labels) at)

  -- ---- forks whose last items came later
  later_step : (upto number : ℕ) (l : Label) (o : Option F) (ks : List (KeptFork F))
      → (eqb l.number number ≡ true → l.moment ≤ upto)
      → later_than upto (filter (is_other number) ks) ≡ later_than upto ks
      → later_than upto (filter (is_other number) (cons_option (option_map (labelled l) o) ks))
      ≡ later_than upto (cons_option (option_map (labelled l) o) ks)
  later_step upto number l None ks h rest = rest
  later_step upto number l (Some fork) ks h rest =
      elim (bool_cases (eqb l.number number)) [
        | inl here ↦ (let less : l.moment ≤ upto = h here in
            let idle : nat_le l.moment upto ≡ true = grind (arith, nat_tests, less) in rw (here, idle) rest)
        | inr apart ↦
            rw apart (elim (nat_le l.moment upto) as
            (λ b. cond (not b) (labelled l fork ∷ later_than upto (filter (is_other number) ks))
            (later_than upto (filter (is_other number) ks))
            ≡ cond (not b) (labelled l fork ∷ later_than upto ks) (later_than upto ks))
            [ true ↦ rest | false ↦ ap (λ (ms : List (KeptFork F)). labelled l fork ∷ ms) rest ])
      ]

  later-left : (upto number : ℕ) (forks : List F) (labels : List Label)
      → AllByRecursion (λ (l : Label). eqb l.number number ≡ true → l.moment ≤ upto) labels
      → later_than upto (filter (is_other number) (filter_map (fork_with forks) labels))
      ≡ later_than upto (filter_map (fork_with forks) labels)
  later-left upto number forks [] h = refl
  later-left upto number forks (l ∷ labels) h =
      later_step upto number l (slice_get forks l.index) (filter_map (fork_with forks) labels) h.0
      (later-left upto number forks labels h.1)

  pub later-all : (upto : ℕ) (forks : List F) (labels : List Label)
      → AllByRecursion (λ (l : Label). upto < l.moment) labels
      → later_than upto (filter_map (fork_with forks) labels) ≡ filter_map (fork_with forks) labels
  later-all upto forks [] h = refl
  later-all upto forks (l ∷ labels) h = first (slice_get forks l.index) (later-all upto forks labels h.1)
    where
      first : (o : Option F)
          → later_than upto (filter_map (fork_with forks) labels) ≡ filter_map (fork_with forks) labels
          → later_than upto (cons_option (option_map (labelled l) o) (filter_map (fork_with forks) labels))
          ≡ cons_option (option_map (labelled l) o) (filter_map (fork_with forks) labels)
      first None rest = rest
      first (Some fork) rest =
          let more : upto < l.moment = h.0 in
          let late : nat_le l.moment upto ≡ false = grind (arith, nat_tests, more) in
          rw late (ap (λ (ms : List (KeptFork F)). labelled l fork ∷ ms) rest)

  module _ (forks forks' : List F) (labels labels' : List Label) (upto index : ℕ) (sound : AreSound labels)
      (even : length forks ≡ length labels)
      (drops : Drops labels labels' upto index) (takes : TakesFork forks forks' index) where
    at_within : index < length forks
    at_within =
        let less : drops.label.index < length labels =
        found_label (λ (l : Label). l.index < length labels) labels drops.number drops.label
        (recursion_from_All (λ (l : Label). l.index < length labels) labels sound.within) drops.was in
        let is : drops.label.index ≡ index = drops.at_index in omega (arith, less, is, even)

    pub dropped-even : length forks' ≡ length labels'
    dropped-even =
        let count : length forks' + 1 ≡ length forks = takes.count at_within in
        let left : length (filter (λ (l : Label). not (eqb l.number drops.number)) labels) + 1 ≡ length labels =
        one-left drops.number drops.label labels sound.numbers drops.was in
        let is : length labels' ≡ length (filter (λ (l : Label). not (eqb l.number drops.number)) labels) =
        ap (λ (ls : List Label). length ls) drops.is
        ∙ map-length (moved_to index (length labels - 1))
        (filter (λ (l : Label). not (eqb l.number drops.number)) labels) in
        omega (arith, count, left, is, even)

    same_indices : AllByRecursion (λ (l : Label). eqb l.index index ≡ eqb l.number drops.number) labels
    same_indices =
        all-more (λ (l : Label). All (λ (other : Label). eqb l.index other.index ≡ eqb l.number other.number) labels)
        (λ (l : Label). eqb l.index index ≡ eqb l.number drops.number)
        (λ l all. at l (found_label (λ (other : Label). eqb l.index other.index ≡ eqb l.number other.number) labels
        drops.number drops.label
        (recursion_from_All (λ (other : Label). eqb l.index other.index ≡ eqb l.number other.number) labels all)
        drops.was))
        labels
        (recursion_from_All
        (λ (l : Label). All (λ (other : Label). eqb l.index other.index ≡ eqb l.number other.number) labels) labels
        sound.indices)
      where
        at : (l : Label) → eqb l.index drops.label.index ≡ eqb l.number drops.label.number
            → eqb l.index index ≡ eqb l.number drops.number
        at l h =
            ap (eqb l.index) (sym drops.at_index) ∙ h
            ∙ ap (eqb l.number) (number_found labels drops.number drops.label drops.was)

    pub dropped-later : later_than upto (filter_map (fork_with forks') labels')
        ≡ later_than upto (filter_map (fork_with forks) labels)
    dropped-later =
        ap (λ (ls : List Label). later_than upto (filter_map (fork_with forks') ls)) (drops.is
        ∙ ap (λ last. map (moved_to index last) (filter (λ (l : Label). not (eqb l.number drops.number)) labels))
        (let count : length forks' + 1 ≡ length forks = takes.count at_within in omega (arith, count, even)))
        ∙ ap (later_than upto) (kept-left forks forks' drops.number index at_within takes labels same_indices)
        ∙ later-left upto drops.number forks labels
        (all-more (λ (l : Label). eqb l.number drops.number ≡ true → l ≡ drops.label)
        (λ (l : Label). eqb l.number drops.number ≡ true → l.moment ≤ upto)
        (λ l only same.
        let is : l.moment ≡ drops.label.moment = ap (λ (x : Label). x.moment) (only same) in
        let less : drops.label.moment ≤ upto = drops.idle in
        omega (arith, is, less))
        labels
        (only_label labels drops.number drops.label sound.numbers drops.was))

  -- ---- as the functions use them
  pub kept-length : (forks : List F) (labels : List Label) → length forks ≡ length labels
      → All (λ (l : Label). l.index < length labels) labels
      → length (filter_map (fork_with forks) labels) ≡ length labels
  kept-length forks labels even within =
      each labels (recursion_from_All (λ (l : Label). l.index < length forks) labels
      (subst (λ (n : ℕ). All (λ (l : Label). l.index < n) labels) (sym even) within))
    where
      one : (o : Option F) (l : Label) (ks : List (KeptFork F)) (n : ℕ) → IsSome o → length ks ≡ n
          → length (cons_option (option_map (labelled l) o) ks) ≡ suc n
      one None l ks n some h = absurd (cc)
      one (Some fork) l ks n some h = ap suc h

      each : (ls : List Label) → AllByRecursion (λ (l : Label). l.index < length forks) ls
          → length (filter_map (fork_with forks) ls) ≡ length ls
      each [] h = refl
      each (l ∷ ls) h =
          one (slice_get forks l.index) l (filter_map (fork_with forks) ls) (length ls) (is_within forks l.index h.0)
          (each ls h.1)

  pub kept-grown : (forks forks' : List F) (fork : F) (labels labels' : List Label) (key : List Value) (number now : ℕ)
      → length forks ≡ length labels → AreSound labels → IsLatest now labels
      → forks' ≡ forks ++ fork ∷ [] → Adds labels labels' key number now
      → filter_map (fork_with forks') labels'
      ≡ filter_map (fork_with forks) labels
      ++ record { key = key; number = number; fork = fork; moment = now; due = None } ∷ []
  kept-grown forks forks' fork labels labels' key number now even sound latest items adds =
      ap (λ (fs : List F). filter_map (fork_with fs) labels') items
      ∙ ap (filter_map (fork_with (forks ++ fork ∷ [])))
      (adds.added ∙ ap (λ (m : ℕ). labels ++ label_from key number (length labels) m ∷ []) (adds.is_now latest))
      ∙ kept-added forks fork labels (label_from key number (length labels) now) sound.within even refl

  pub kept-timed : (forks : List F) (labels labels' : List Label) (number now : ℕ) → IsLatest now labels
      → Touches labels labels' number now
      → filter_map (fork_with forks) labels' ≡ map (fork_touched number now) (filter_map (fork_with forks) labels)
  kept-timed forks labels labels' number now latest touches =
      ap (filter_map (fork_with forks)) (touches.is ∙ ap (λ (m : ℕ). touched number m labels) (touches.is_now latest))
      ∙ kept-touched forks number now labels
