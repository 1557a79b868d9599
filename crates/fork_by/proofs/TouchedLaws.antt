-- A fork gets an item.
use Rattle.std.proofs.Common.{◌≡◌, ℕ, ◌+◌, ◌<◌, ◌≤◌, true, false, not, cond, eqb, List, [], ◌∷◌, ◌++◌, length, Option}
use Rattle.std.proofs.Common.{arith, refl, sym, ◌∙◌, ap, subst, inl, inr}
use Rattle.ev_types.specs.declared.value.Value.{Value}
use Rattle.linked_slots.specs.IdLists.{list_at, times, times_in, without, append_to, last_of}
use Rattle.linked_slots.proofs.ListLaws.{bool_cases, eqb-same, eqb-true, eqb-false, eqb-apart, times-append}
use Rattle.linked_slots.proofs.ListLaws.{times-without, at-append_same, at-without, length-append_to, length-without}
use Rattle.linked_slots.proofs.ListLaws.{all_listed}
use Rattle.fork_by.specs.declared.slots.Slot.{Slot}
use Rattle.fork_by.specs.Labels.{with_moment, touched}
use Rattle.fork_by.specs.Register.{AreKept, MomentsRise, label_of, label_with, labels_of, latest_of, removed}
use Rattle.fork_by.specs.Slots.{slot_at, SetsSlot, place_in, order_in, moment_in, held, at_moment}
use Rattle.fork_by.proofs.KeptLaws.{held_some, in_removed, once, slot_held}
use Rattle.fork_by.proofs.ListLaws.{all_times, pairs-push, pairs-filter, pairs-agree, map-agree, map-twice}
use Rattle.fork_by.proofs.MomentLaws.{has_list, late_enough}
use Rattle.fork_by.proofs.ChangedSlotLaws.{held-dated, label-dated, order-dated, place-dated}

module _ (entries : List (List Value × ℕ)) (slots : List (Option Slot)) (lists : List (List ℕ)) (due : List (ℕ × ℕ))
    (next : ℕ) (numbers : List ℕ)
    (k : AreKept entries slots lists due next numbers) where
  module _ (number moment : ℕ) (slots' : List (Option Slot)) (lists' : List (List ℕ))
      (here : 0 < times_in number numbers)
      (slots_is : SetsSlot slots slots' number (at_moment moment (slot_at number slots)))
      (lists_is : lists' ≡ append_to 0 number (without number lists))
      (late : latest_of slots (last_of (list_at lists 0)) ≤ moment) where
    dated_slot : (q : ℕ) → slot_at q slots' ≡ cond (eqb q number) (at_moment moment (slot_at q slots)) (slot_at q slots)
    dated_slot q =
        slots_is q
        ∙ elim (bool_cases (eqb q number)) [
          | inl same ↦ rw same (ap (λ n. at_moment moment (slot_at n slots)) (sym (eqb-true q number same)))
          | inr apart ↦ rw apart refl
        ]

    dated_place : (q : ℕ) → place_in (slot_at q slots') ≡ place_in (slot_at q slots)
    dated_place q = ap place_in (dated_slot q) ∙ place-dated (eqb q number) moment (slot_at q slots)

    dated_order : (q : ℕ) → order_in (slot_at q slots') ≡ order_in (slot_at q slots)
    dated_order q = ap order_in (dated_slot q) ∙ order-dated (eqb q number) moment (slot_at q slots)

    dated_held : (q : ℕ) → held (slot_at q slots') ≡ held (slot_at q slots)
    dated_held q = ap held (dated_slot q) ∙ held-dated (eqb q number) moment (slot_at q slots)

    moved_times : (q : ℕ) → cond (eqb q number) 0 (times_in q numbers) + cond (eqb number q) 1 0 ≡ times_in q numbers
    moved_times q =
        elim (bool_cases (eqb q number)) [
          | inl same ↦ (
              let is : q ≡ number = eqb-true q number same in
              let other : eqb number q ≡ true = ap (λ n. eqb number n) is ∙ eqb-same number in
              let most : times_in q numbers ≤ 1 = once entries slots lists due next numbers k q in
              let more : times_in q numbers ≡ times_in number numbers = ap (λ n. times_in n numbers) is in
              rw (same, other) (omega (arith, most, more, here)))
          | inr apart ↦ (
              let other : eqb number q ≡ false = eqb-false number q (λ e. eqb-apart q number apart (sym e)) in
              rw (apart, other) (omega arith))
        ]

    pub dated-kept : AreKept entries slots' lists' due next numbers
    dated-kept = record {
      one_list =
          ap (λ (ls : List (List ℕ)). length ls) lists_is ∙ length-append_to 0 number (without number lists)
          ∙ length-without number lists ∙ k.one_list;
      listed = λ q. ap (times q) lists_is
          ∙ times-append 0 number q (without number lists)
          (let one : length (without number lists) ≡ length lists = length-without number lists in
          let more : 0 < length lists = has_list entries slots lists due next numbers k in
          omega (arith, one, more))
          ∙ ap (λ n. n + cond (eqb number q) 1 0)
          (times-without number q lists ∙ ap (λ n. cond (eqb q number) 0 n) (k.listed q))
          ∙ moved_times q;
      live = λ q. k.live q ∙ sym (dated_held q);
      many = k.many;
      tied = record {
        placed = λ q i h. k.tied.placed q i (sym (dated_place q) ∙ h);
        owned = λ q i h. dated_place q ∙ k.tied.owned q i h;
      };
      keys = k.keys;
      orders =
          pairs-agree (λ one later. order_in (slot_at one slots) < order_in (slot_at later slots))
          (λ one later. order_in (slot_at one slots') < order_in (slot_at later slots')) numbers
          (λ a b in_a in_b less.
          let same_a : order_in (slot_at a slots') ≡ order_in (slot_at a slots) = dated_order a in
          let same_b : order_in (slot_at b slots') ≡ order_in (slot_at b slots) = dated_order b in
          omega (arith, less, same_a, same_b))
          k.orders;
      below = all_listed (λ q. order_in (slot_at q slots') < next) numbers (λ q more.
          let less : order_in (slot_at q slots) < next =
          all_times (λ n. order_in (slot_at n slots) < next) numbers k.below q more in
          let same : order_in (slot_at q slots') ≡ order_in (slot_at q slots) = dated_order q in
          omega (arith, less, same));
      moments = subst (λ (ids : List ℕ). MomentsRise slots' ids)
          (sym (ap (λ (ls : List (List ℕ)). list_at ls 0) lists_is
          ∙ at-append_same 0 number (without number lists)
          (let one : length (without number lists) ≡ length lists = length-without number lists in
          let more : 0 < length lists = has_list entries slots lists due next numbers k in
          omega (arith, one, more))
          ∙ ap (λ (ids : List ℕ). ids ++ number ∷ []) (at-without number 0 lists))) rises;
      due_live = k.due_live;
      due_rises = k.due_rises;
    }
      where
        moment_here : moment_in (slot_at number slots') ≡ moment
        moment_here =
            let slot =
            held_some (slot_at number slots) (slot_held entries slots lists due next numbers k number here) in
            let at : slot_at number slots' ≡ at_moment moment (slot_at number slots) =
            slots_is number ∙ rw (eqb-same number) refl in
            ap moment_in at ∙ ap (λ (o : Option Slot). moment_in (at_moment moment o)) slot.1

        moment_there : (q : ℕ) → 0 < times_in q (removed number (list_at lists 0))
            → (moment_in (slot_at q slots') ≡ moment_in (slot_at q slots)) × (0 < times_in q (list_at lists 0))
        moment_there q more =
            let parts = in_removed number q (list_at lists 0) more in
            let at : slot_at q slots' ≡ slot_at q slots = slots_is q ∙ rw parts.0 refl in
            (ap moment_in at, parts.1)

        rises : MomentsRise slots' (removed number (list_at lists 0) ++ number ∷ [])
        rises =
            pairs-push (λ one later. moment_in (slot_at one slots') ≤ moment_in (slot_at later slots'))
            (removed number (list_at lists 0)) number
            (pairs-agree (λ one later. moment_in (slot_at one slots) ≤ moment_in (slot_at later slots))
            (λ one later. moment_in (slot_at one slots') ≤ moment_in (slot_at later slots'))
            (removed number (list_at lists 0))
            (λ a b in_a in_b less.
            let same_a : moment_in (slot_at a slots') ≡ moment_in (slot_at a slots) = (moment_there a in_a).0 in
            let same_b : moment_in (slot_at b slots') ≡ moment_in (slot_at b slots) = (moment_there b in_b).0 in
            omega (arith, less, same_a, same_b))
            (pairs-filter (λ one later. moment_in (slot_at one slots) ≤ moment_in (slot_at later slots))
            (λ other. not (eqb other number)) (list_at lists 0) k.moments))
            (all_listed (λ q. moment_in (slot_at q slots') ≤ moment_in (slot_at number slots'))
            (removed number (list_at lists 0)) (λ q more.
            let parts = moment_there q more in
            let same : moment_in (slot_at q slots') ≡ moment_in (slot_at q slots) = parts.0 in
            let least : moment_in (slot_at q slots) ≤ moment =
            late_enough entries slots lists due next numbers k q moment late parts.1 in
            let last : moment_in (slot_at number slots') ≡ moment = moment_here in omega (arith, least, same, last)))

    pub dated-labels : labels_of entries slots' due numbers
        ≡ touched number moment (labels_of entries slots due numbers)
    dated-labels =
        map-agree (label_of entries slots' due) (λ q. with_moment number moment (label_of entries slots due q)) numbers
        (λ q more.
        ap (label_with entries due q) (dated_slot q)
        ∙ label-dated entries due q (eqb q number) moment (slot_at q slots)
        (slot_held entries slots lists due next numbers k q more))
        ∙ sym (map-twice (with_moment number moment) (label_of entries slots due) numbers)
