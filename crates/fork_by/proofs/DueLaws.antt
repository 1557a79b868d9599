-- The due moments of forks.
use Rattle.std.proofs.Common.{◌≡◌, ◌≢◌, ℕ, suc, ◌<◌, ◌≤◌, Bool, true, false, not, cond, ◌||◌, eqb, nat_le, List, []}
use Rattle.std.proofs.Common.{◌∷◌, map, filter, Option, None, Some, IsSome, arith, refl, sym, ◌∙◌, ap, subst, inl, inr}
use Rattle.std.specs.List.{All, AllByRecursion, Contains, list_any, filter_map, cons_option}
use Rattle.std.specs.Map.{values_of}
use Rattle.std.specs.Option.{IfSome}
use Rattle.std.specs.Ordering.{nat_cmp}
use Rattle.std.specs.BTreeMap.{is_at}
use Rattle.std.proofs.lemmas.List.Elements.{All-from_recursion, All-contains, All-map, All-weaker, recursion_from_All}
use Rattle.std.proofs.lemmas.Map.Entries.{All-lookup}
use Rattle.ev_types.specs.declared.value.Value.{Value}
use Rattle.linked_slots.specs.IdLists.{times_in}
use Rattle.linked_slots.proofs.ListLaws.{bool_cases, eqb-true}
use Rattle.tick_schedule.specs.Queue.{moment_at, IsRising, IsLeast, Sets, due_ids, due_later}
use Rattle.tick_schedule.proofs.QueueLaws.{at-same, due-is_by, found, is_by}
use Rattle.tick_schedule.proofs.ScheduleLaws.{rising_some}
use Rattle.fork_by.specs.declared.slots.Slot.{Slot}
use Rattle.fork_by.specs.Labels.{Label, dues_cleared, dues_set, due_moments, due_numbers, is_due_by, with_due}
use Rattle.fork_by.specs.Labels.{without_due}
use Rattle.fork_by.specs.Order.{put_all}
use Rattle.fork_by.specs.Register.{AreKept, label_of, labels_of}
use Rattle.fork_by.proofs.LabelLaws.{due_by_is, later_at}
use Rattle.fork_by.proofs.ListLaws.{filter-agree, filter-map, map-agree, map-same, map-twice, times-head, times-rest}
use Rattle.fork_by.proofs.ListLaws.{times-tail}
use Rattle.fork_by.proofs.OrderLaws.{put-in_order}

no_value : {A : Type 0} (o : Option A) → o ≡ None → IsSome o → ⊥
no_value None e h = absurd (cc)
no_value (Some n) e h = absurd (cc)

by_some : (now : ℕ) (o : Option ℕ) → is_by now o ≡ true → IsSome o
by_some now None h = absurd (cc)
by_some now (Some n) h = refl

none_pass : (p : ℕ → Bool) (numbers : List ℕ) → filter p numbers ≡ [] → (q : ℕ) → 0 < times_in q numbers → p q ≡ true
    → ⊥
none_pass p [] h q more passes = absurd (omega (arith, more))
none_pass p (n ∷ numbers) h q more passes =
    elim (bool_cases (p n)) [
      | inl here ↦ (let some : n ∷ filter p numbers ≡ [] = sym (rw here refl) ∙ h in absurd (cc))
      | inr fails ↦ elim (bool_cases (eqb n q)) [
        | inl same ↦ (let t : p n ≡ true = ap p (eqb-true n q same) ∙ passes in absurd (cc))
        | inr apart ↦ none_pass p numbers (sym (rw fails refl) ∙ h) q (times-rest q n numbers apart more) passes
      ]
    ]

filter-nothing : (numbers : List ℕ) → filter (λ n. false) numbers ≡ []
filter-nothing [] = refl
filter-nothing (n ∷ numbers) = filter-nothing numbers

filter_map-map : (f : ℕ → Label) (numbers : List ℕ)
    → filter_map (λ (l : Label). l.due) (map f numbers) ≡ filter_map (λ q. (f q).due) numbers
filter_map-map f [] = refl
filter_map-map f (n ∷ numbers) = ap (cons_option (f n).due) (filter_map-map f numbers)

contains-next : (x y : ℕ) (xs : List ℕ) → Contains xs x → Contains (y ∷ xs) x
contains-next x y xs h = (suc h.0, omega (arith, h.1), h.2)

contains-some : (f : ℕ → Option ℕ) (numbers : List ℕ) (q m : ℕ) → 0 < times_in q numbers → f q ≡ Some m
    → Contains (filter_map f numbers) m
contains-some f [] q m more h = absurd (omega (arith, more))
contains-some f (n ∷ numbers) q m more h =
    elim (bool_cases (eqb n q)) [
      | inl same ↦ (let is : f n ≡ Some m = ap f (eqb-true n q same) ∙ h in
          subst (λ (o : Option ℕ). Contains (cons_option o (filter_map f numbers)) m) (sym is) (0, omega arith, refl))
      | inr apart ↦ later (f n) (contains-some f numbers q m (times-rest q n numbers apart more) h)
    ]
  where
    later : (o : Option ℕ) → Contains (filter_map f numbers) m → Contains (cons_option o (filter_map f numbers)) m
    later None c = c
    later (Some y) c = contains-next m y (filter_map f numbers) c

all-some : (P : ℕ → Type 0) (f : ℕ → Option ℕ) (numbers : List ℕ) → ((q : ℕ) → 0 < times_in q numbers → IfSome (f q) P)
    → AllByRecursion P (filter_map f numbers)
all-some P f [] h = tt
all-some P f (n ∷ numbers) h =
    first (f n) (h n (times-head n numbers)) (all-some P f numbers (λ q more. h q (times-tail q n numbers more)))
  where
    first : (o : Option ℕ) → IfSome o P → AllByRecursion P (filter_map f numbers)
        → AllByRecursion P (cons_option o (filter_map f numbers))
    first None here rest = rest
    first (Some y) here rest = (here, rest)

no-some : (f : ℕ → Option ℕ) (numbers : List ℕ) → ((q : ℕ) → f q ≡ None) → filter_map f numbers ≡ []
no-some f [] h = refl
no-some f (n ∷ numbers) h = ap (λ (o : Option ℕ). cons_option o (filter_map f numbers)) (h n) ∙ no-some f numbers h

no_values : (es : List (ℕ × ℕ)) → values_of es ≡ [] → es ≡ []
no_values [] h = refl
no_values (e ∷ es) h = absurd (cc)

-- a moment of the queue is that of an id
record HasMoment (es : List (ℕ × ℕ)) (m : ℕ) : Type 0 where
  id : ℕ
  is : moment_at id es ≡ Some m

has_moment : (es : List (ℕ × ℕ)) (m : ℕ) → IsRising es → Contains (values_of es) m → HasMoment es m
has_moment es m rise c =
    All-contains (HasMoment es) (values_of es) m
    (All-map (HasMoment es) (λ (e : ℕ × ℕ). e.1) es
    (All-weaker (λ (e : ℕ × ℕ). moment_at e.0 es ≡ Some e.1) (λ (e : ℕ × ℕ). HasMoment es e.1)
    (λ e h. record { id = e.0; is = h }) es (found es rise)))
    c

module _ (entries : List (List Value × ℕ)) (slots : List (Option Slot)) (lists : List (List ℕ)) (due : List (ℕ × ℕ))
    (next : ℕ) (numbers : List ℕ)
    (k : AreKept entries slots lists due next numbers) where
  -- ---- other due moments
  with_dues : (due' : List (ℕ × ℕ)) → IsRising due' → ((q : ℕ) → IsSome (moment_at q due') → 0 < times_in q numbers)
      → AreKept entries slots lists due' next numbers
  with_dues due' rise live = record {
    one_list = k.one_list;
    listed = k.listed;
    live = k.live;
    many = k.many;
    tied = k.tied;
    keys = k.keys;
    orders = k.orders;
    below = k.below;
    moments = k.moments;
    due_live = live;
    due_rises = rise;
  }

  module _ (due' : List (ℕ × ℕ)) (number : ℕ) (moment : Option ℕ) (here : 0 < times_in number numbers)
      (sets : Sets due due' number moment) (rise : IsRising due') where
    pub set-kept : AreKept entries slots lists due' next numbers
    set-kept =
        with_dues due' rise (λ q some. at q (eqb q number) refl (subst (λ (o : Option ℕ). IsSome o) (sets q) some))
      where
        at : (q : ℕ) (b : Bool) → eqb q number ≡ b → IsSome (cond (eqb q number) moment (moment_at q due))
            → 0 < times_in q numbers
        at q true same some =
            let is : times_in q numbers ≡ times_in number numbers =
            ap (λ n. times_in n numbers) (eqb-true q number same) in
            omega (arith, is, here)
        at q false apart some = k.due_live q (subst (λ (o : Option ℕ). IsSome o) (rw apart refl) some)

    pub set-labels : labels_of entries slots due' numbers ≡ dues_set number moment (labels_of entries slots due numbers)
    set-labels =
        map-agree (label_of entries slots due') (λ q. with_due number moment (label_of entries slots due q)) numbers
        (λ q more. label-set q)
        ∙ sym (map-twice (with_due number moment) (label_of entries slots due) numbers)
      where
        label-set : (q : ℕ) → label_of entries slots due' q ≡ with_due number moment (label_of entries slots due q)
        label-set q =
            ap (λ (o : Option ℕ). record (label_of entries slots due q) { due = o }) (sets q)
            ∙ elim (eqb q number) as
            (λ b. record (label_of entries slots due q) { due = cond b moment (moment_at q due) }
            ≡ cond b (record (label_of entries slots due q) { due = moment }) (label_of entries slots due q))
            [ true ↦ refl | false ↦ refl ]

  -- ---- those that are due by a moment
  due_in : (now q : ℕ) → list_any (is_at (nat_cmp q)) (due_ids now due) ≡ is_due_by now (moment_at q due)
  due_in now q = due-is_by now q due k.due_rises ∙ due_by_is now (moment_at q due)

  pub due_known : (now q : ℕ) → list_any (is_at (nat_cmp q)) (due_ids now due) ≡ true → 0 < times_in q numbers
  due_known now q h = k.due_live q (by_some now (moment_at q due) (sym (due-is_by now q due k.due_rises) ∙ h))

  pub numbers-due : (now : ℕ)
      → due_numbers now (labels_of entries slots due numbers)
      ≡ filter (λ n. list_any (is_at (nat_cmp n)) (due_ids now due)) numbers
  numbers-due now =
      ap (map (λ (l : Label). l.number))
      (filter-map (λ (l : Label). is_due_by now l.due) (label_of entries slots due) numbers)
      ∙ map-twice (λ (l : Label). l.number) (label_of entries slots due)
      (filter (λ q. is_due_by now (moment_at q due)) numbers)
      ∙ map-same (λ (n : ℕ). n) (filter (λ q. is_due_by now (moment_at q due)) numbers) (λ n. refl)
      ∙ filter-agree (λ q. is_due_by now (moment_at q due)) (λ n. list_any (is_at (nat_cmp n)) (due_ids now due))
      numbers (λ q more. sym (due_in now q))

  -- in order they are the numbers of the labels that are due
  pub numbers-in_order : (now : ℕ)
      → values_of (put_all slots [] (due_ids now due)) ≡ due_numbers now (labels_of entries slots due numbers)
  numbers-in_order now =
      put-in_order slots numbers k.orders k.live (due_ids now due) (due_known now) ∙ sym (numbers-due now)

  pub none-due : (now : ℕ) → due_ids now due ≡ [] → due_numbers now (labels_of entries slots due numbers) ≡ []
  none-due now none =
      numbers-due now ∙ ap (λ (ids : List ℕ). filter (λ n. list_any (is_at (nat_cmp n)) ids) numbers) none
      ∙ filter-nothing numbers

  pub some-due : (now : ℕ) → due_ids now due ≢ [] → due_numbers now (labels_of entries slots due numbers) ≢ []
  some-due now some none = known (due_ids now due) refl
    where
      known : (ids : List ℕ) → due_ids now due ≡ ids → ⊥
      known [] is = some is
      known (q ∷ ids) is =
          let is_in : list_any (is_at (nat_cmp q)) (due_ids now due) ≡ true =
          ap (list_any (is_at (nat_cmp q))) is ∙ ap (λ b. b || list_any (is_at (nat_cmp q)) ids) (at-same q) in
          none_pass (λ n. list_any (is_at (nat_cmp n)) (due_ids now due)) numbers (sym (numbers-due now) ∙ none) q
          (due_known now q is_in) is_in

  pub cleared-kept : (now : ℕ) (due' : List (ℕ × ℕ)) → due' ≡ due_later now due
      → AreKept entries slots lists due' next numbers
  cleared-kept now due' is =
      with_dues due'
      (subst (λ (es : List (ℕ × ℕ)). IsRising es) (sym is) (rising_some (λ e. not (nat_le e.1 now)) due k.due_rises))
      (λ q some. k.due_live q
      (was (moment_at q due)
      (subst (λ (o : Option ℕ). IsSome o) (ap (moment_at q) is ∙ later_at now q due k.due_rises) some)))
    where
      was : (o : Option ℕ) → IsSome (cond (is_due_by now o) None o) → IsSome o
      was None h = h
      was (Some m) h = refl

  pub cleared-labels : (now : ℕ) (due' : List (ℕ × ℕ)) → due' ≡ due_later now due
      → labels_of entries slots due' numbers ≡ dues_cleared now (labels_of entries slots due numbers)
  cleared-labels now due' is =
      map-agree (label_of entries slots due') (λ q. without_due now (label_of entries slots due q)) numbers
      (λ q more. label-cleared q)
      ∙ sym (map-twice (without_due now) (label_of entries slots due) numbers)
    where
      label-cleared : (q : ℕ) → label_of entries slots due' q ≡ without_due now (label_of entries slots due q)
      label-cleared q =
          ap (λ (o : Option ℕ). record (label_of entries slots due q) { due = o })
          (ap (moment_at q) is ∙ later_at now q due k.due_rises)
          ∙ elim (is_due_by now (moment_at q due)) as
          (λ b. record (label_of entries slots due q) { due = cond b None (moment_at q due) }
          ≡ cond b (record (label_of entries slots due q) { due = None }) (label_of entries slots due q))
          [ true ↦ refl | false ↦ refl ]

  -- nothing is due, so nothing is cleared
  pub none-cleared : (now : ℕ) → due_ids now due ≡ []
      → dues_cleared now (labels_of entries slots due numbers) ≡ labels_of entries slots due numbers
  none-cleared now none =
      map-twice (without_due now) (label_of entries slots due) numbers
      ∙ map-agree (λ q. without_due now (label_of entries slots due q)) (label_of entries slots due) numbers (λ q more.
      ap (λ b. cond b (record (label_of entries slots due q) { due = None }) (label_of entries slots due q))
      (sym (due_in now q) ∙ ap (list_any (is_at (nat_cmp q))) none))

  -- ---- the least due moment
  pub next-due : (least : Option ℕ) → IsLeast (values_of due) least
      → IsLeast (due_moments (labels_of entries slots due numbers)) least
  next-due None none =
      filter_map-map (label_of entries slots due) numbers
      ∙ no-some (λ q. moment_at q due) numbers (λ q. ap (moment_at q) (no_values due none))
  next-due (Some m) h = (
    subst (λ (ms : List ℕ). Contains ms m) (sym (filter_map-map (label_of entries slots due) numbers))
        (let has = has_moment due m k.due_rises h.0 in
        contains-some (λ q. moment_at q due) numbers has.id m
        (k.due_live has.id (subst (λ (o : Option ℕ). IsSome o) (sym has.is) refl)) has.is),
    subst (λ (ms : List ℕ). All (λ other. m ≤ other) ms) (sym (filter_map-map (label_of entries slots due) numbers))
        (All-from_recursion (λ other. m ≤ other) (filter_map (λ q. moment_at q due) numbers)
        (all-some (λ other. m ≤ other) (λ q. moment_at q due) numbers
        (λ q more. All-lookup (λ other. m ≤ other) (is_at (nat_cmp q)) due (each_value due h.1)))),
  )
    where
      each_value : (es : List (ℕ × ℕ)) → All (λ other. m ≤ other) (values_of es) → All (λ (e : ℕ × ℕ). m ≤ e.1) es
      each_value es all =
          All-from_recursion (λ (e : ℕ × ℕ). m ≤ e.1) es
          (by_entry es (recursion_from_All (λ other. m ≤ other) (values_of es) all))
        where
          by_entry : (es : List (ℕ × ℕ)) → AllByRecursion (λ other. m ≤ other) (values_of es)
              → AllByRecursion (λ (e : ℕ × ℕ). m ≤ e.1) es
          by_entry [] h = tt
          by_entry (e ∷ es) h = (h.0, by_entry es h.1)
