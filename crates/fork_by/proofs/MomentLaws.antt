-- The moments of forks, and the list in which forks are in the order of these.
use Rattle.std.proofs.Common.{◌≡◌, ℕ, ◌<◌, ◌≤◌, Bool, true, false, cond, eqb, nat_le, max, List, [], ◌∷◌, length}
use Rattle.std.proofs.Common.{Option, None, Some, arith, refl, sym, ◌∙◌, ap, subst, inl, inr}
use Rattle.std.specs.List.{All}
use Rattle.std.proofs.lemmas.List.Elements.{All-from_recursion, recursion_from_All}
use Rattle.std.proofs.lemmas.Bool.Decides.{nat_tests}
use Rattle.ev_types.specs.declared.value.Value.{Value}
use Rattle.linked_slots.specs.IdLists.{list_at, times, times_in, IsListed, first_of, last_from, last_of}
use Rattle.linked_slots.proofs.ListLaws.{bool_cases, eqb-true}
use Rattle.fork_by.specs.declared.slots.Slot.{Slot}
use Rattle.fork_by.specs.Labels.{Label, IsLatest, IsLive}
use Rattle.fork_by.specs.Register.{AreKept, MomentsRise, label_of, labels_of, latest_of, idle_among}
use Rattle.fork_by.specs.Slots.{slot_at, index_in, moment_in}
use Rattle.fork_by.proofs.KeptLaws.{live_in, number_within, numbered, one_list}
use Rattle.fork_by.proofs.LabelLaws.{all_labels, each_label}
use Rattle.fork_by.proofs.ListLaws.{all_times, times-head, times-tail, times-rest}

last-in : (x : ℕ) (xs : List ℕ) → 0 < times_in (last_from x xs) (x ∷ xs)
last-in x [] = times-head x []
last-in x (y ∷ xs) = times-tail (last_from y xs) x (y ∷ xs) (last-in y xs)

latest-most : (slots : List (Option Slot)) (ids : List ℕ) → MomentsRise slots ids → (q : ℕ) → 0 < times_in q ids
    → moment_in (slot_at q slots) ≤ latest_of slots (last_of ids)
latest-most slots [] rise q more = absurd (omega (arith, more))
latest-most slots (x ∷ []) rise q more =
    elim (bool_cases (eqb x q)) [
      | inl here ↦
          (let is : moment_in (slot_at x slots) ≡ moment_in (slot_at q slots) =
          ap (λ n. moment_in (slot_at n slots)) (eqb-true x q here) in
          omega (arith, is))
      | inr apart ↦ absurd (let none : 0 < times_in q [] = times-rest q x [] apart more in omega (arith, none))
    ]
latest-most slots (x ∷ (y ∷ xs)) rise q more =
    elim (bool_cases (eqb x q)) [
      | inl here ↦ (
          let is : moment_in (slot_at x slots) ≡ moment_in (slot_at q slots) =
          ap (λ n. moment_in (slot_at n slots)) (eqb-true x q here) in
          let less : moment_in (slot_at x slots) ≤ moment_in (slot_at (last_from y xs) slots) =
          all_times (λ n. moment_in (slot_at x slots) ≤ moment_in (slot_at n slots)) (y ∷ xs) rise.0 (last_from y xs)
          (last-in y xs) in
          omega (arith, is, less))
      | inr apart ↦ latest-most slots (y ∷ xs) rise.1 q (times-rest q x (y ∷ xs) apart more)
    ]

first-least : (slots : List (Option Slot)) (x : ℕ) (xs : List ℕ) → MomentsRise slots (x ∷ xs) → (q : ℕ)
    → 0 < times_in q (x ∷ xs) → moment_in (slot_at x slots) ≤ moment_in (slot_at q slots)
first-least slots x xs rise q more =
    elim (bool_cases (eqb x q)) [
      | inl here ↦
          (let is : moment_in (slot_at x slots) ≡ moment_in (slot_at q slots) =
          ap (λ n. moment_in (slot_at n slots)) (eqb-true x q here) in
          omega (arith, is))
      | inr apart ↦
          all_times (λ n. moment_in (slot_at x slots) ≤ moment_in (slot_at n slots)) xs rise.0 q
          (times-rest q x xs apart more)
    ]

most-is : (now latest : ℕ) → latest ≤ now → max now latest ≡ now
most-is now latest h = omega (arith, h)

pub late-max : (moment now latest bound : ℕ) → moment ≡ max now latest → latest ≡ bound → bound ≤ moment
late-max moment now latest bound is same = omega (arith, is, same)

module _ (entries : List (List Value × ℕ)) (slots : List (Option Slot)) (lists : List (List ℕ)) (due : List (ℕ × ℕ))
    (next : ℕ) (numbers : List ℕ)
    (k : AreKept entries slots lists due next numbers) where
  pub in_ids : (q : ℕ) → times_in q (list_at lists 0) ≡ times_in q numbers
  in_ids q = sym (one_list q lists k.one_list) ∙ k.listed q

  pub has_list : 0 < length lists
  has_list = let one : length lists ≡ 1 = k.one_list in omega (arith, one)

  pub late_enough : (q moment : ℕ) → latest_of slots (last_of (list_at lists 0)) ≤ moment
      → 0 < times_in q (list_at lists 0) → moment_in (slot_at q slots) ≤ moment
  late_enough q moment late more =
      let least : moment_in (slot_at q slots) ≤ latest_of slots (last_of (list_at lists 0)) =
      latest-most slots (list_at lists 0) k.moments q more in
      omega (arith, least, late)

  -- no moment of a fork is after `now`, so neither is the latest
  latest_by : (now : ℕ) (ids : List ℕ) → ((q : ℕ) → 0 < times_in q ids → moment_in (slot_at q slots) ≤ now)
      → latest_of slots (last_of ids) ≤ now
  latest_by now [] h = omega arith
  latest_by now (x ∷ xs) h = h (last_from x xs) (last-in x xs)

  pub is_now : (now : ℕ) → IsLatest now (labels_of entries slots due numbers)
      → max now (latest_of slots (last_of (list_at lists 0))) ≡ now
  is_now now latest =
      most-is now (latest_of slots (last_of (list_at lists 0))) (latest_by now (list_at lists 0) (λ q more.
      each_label (label_of entries slots due) (λ n. refl) (λ (l : Label). l.moment ≤ now) numbers
      (recursion_from_All (λ (l : Label). l.moment ≤ now) (labels_of entries slots due numbers) latest) q
      (let same : times_in q (list_at lists 0) ≡ times_in q numbers = in_ids q in omega (arith, same, more))))

  pub listed_here : (q : ℕ) → 0 < times_in q numbers → IsListed q lists
  listed_here q more = let same : times q lists ≡ times_in q numbers = k.listed q in omega (arith, same, more)

  pub index_within : (q : ℕ) → 0 < times_in q numbers → index_in (slot_at q slots) < length entries
  index_within q more =
      number_within entries (index_in (slot_at q slots)) q (numbered entries slots lists due next numbers k q more)

  pub live_here : (q : ℕ) (labels : List Label) → labels_of entries slots due numbers ≡ labels → IsLive q labels
      → 0 < times_in q numbers
  live_here q labels view live =
      live_in entries slots lists due next numbers k q (subst (λ (ls : List Label). IsLive q ls) (sym view) live)

  pub no_number : (q : ℕ) → times q lists ≡ 0 → times_in q numbers ≡ 0
  no_number q vacant = sym (k.listed q) ∙ vacant

  -- ---- the fork whose moment is the least
  pub all-later : (upto : ℕ) → idle_among upto slots (first_of (list_at lists 0)) ≡ None
      → All (λ (l : Label). upto < l.moment) (labels_of entries slots due numbers)
  all-later upto none =
      All-from_recursion (λ (l : Label). upto < l.moment) (labels_of entries slots due numbers)
      (all_labels (label_of entries slots due) (λ n. refl) (λ (l : Label). upto < l.moment) numbers (λ q more.
      after (list_at lists 0) k.moments none q
      (let same : times_in q (list_at lists 0) ≡ times_in q numbers = in_ids q in omega (arith, same, more))))
    where
      late : (x : ℕ) (b : Bool) → nat_le (moment_in (slot_at x slots)) upto ≡ b → cond b (Some x) None ≡ None
          → upto < moment_in (slot_at x slots)
      late x true is h = absurd (cc)
      late x false is h = grind (arith, nat_tests, is)

      after : (ids : List ℕ) → MomentsRise slots ids → idle_among upto slots (first_of ids) ≡ None → (q : ℕ)
          → 0 < times_in q ids → upto < moment_in (slot_at q slots)
      after [] rise h q more = absurd (omega (arith, more))
      after (x ∷ xs) rise h q more =
          let least : moment_in (slot_at x slots) ≤ moment_in (slot_at q slots) = first-least slots x xs rise q more in
          let above : upto < moment_in (slot_at x slots) = late x (nat_le (moment_in (slot_at x slots)) upto) refl h in
          omega (arith, least, above)

  pub idle-first : (upto n : ℕ) → idle_among upto slots (first_of (list_at lists 0)) ≡ Some n
      → (0 < times_in n numbers) × (moment_in (slot_at n slots) ≤ upto)
  idle-first upto n some =
      let found = at (list_at lists 0) some in (
        let more : 0 < times_in n (list_at lists 0) = found.0 in
            let same : times_in n (list_at lists 0) ≡ times_in n numbers = in_ids n in
            omega (arith, same, more),
        found.1,
      )
    where
      idle : (x : ℕ) (b : Bool) → nat_le (moment_in (slot_at x slots)) upto ≡ b → cond b (Some x) None ≡ Some n
          → (x ≡ n) × (moment_in (slot_at x slots) ≤ upto)
      idle x true is h = (cc, grind (arith, nat_tests, is))
      idle x false is h = absurd (cc)

      at : (ids : List ℕ) → idle_among upto slots (first_of ids) ≡ Some n
          → (0 < times_in n ids) × (moment_in (slot_at n slots) ≤ upto)
      at [] h = absurd (cc)
      at (x ∷ xs) h =
          let is = idle x (nat_le (moment_in (slot_at x slots)) upto) refl h in (
            subst (λ (m : ℕ). 0 < times_in m (x ∷ xs)) is.0 (times-head x xs),
            subst (λ (m : ℕ). moment_in (slot_at m slots) ≤ upto) is.0 is.1,
          )
