-- A fork is dropped.
use Rattle.std.proofs.Common.{◌≡◌, ◌≢◌, ℕ, ◌+◌, ◌<◌, ◌≤◌, Bool, true, false, not, cond, eqb, List, map, filter, length}
use Rattle.std.proofs.Common.{slice_get, Option, None, Some, IsSome, arith, refl, sym, ◌∙◌, ap, subst, inl, inr}
use Rattle.std.specs.Option.{option_map}
use Rattle.ev_types.specs.declared.value.Value.{Value}
use Rattle.linked_slots.specs.IdLists.{list_at, times, times_in, without}
use Rattle.linked_slots.proofs.ListLaws.{bool_cases, eqb-same, eqb-true, eqb-false, eqb-apart, times_in-remove}
use Rattle.linked_slots.proofs.ListLaws.{times-without, at-without, length-without, all_listed}
use Rattle.tick_schedule.specs.Queue.{moment_at, IsRising, Sets}
use Rattle.fork_by.specs.declared.slots.Slot.{Slot}
use Rattle.fork_by.specs.Labels.{Label, moved_to, dropped}
use Rattle.fork_by.specs.Register.{AreKept, TakesOut, MomentsRise, is_number, key_in, label_of, label_with, labels_of}
use Rattle.fork_by.specs.Register.{number_at, removed}
use Rattle.fork_by.specs.Slots.{slot_at, SetsSlot, index_in, place_in, order_in, moment_in, held, slot_with, with_index}
use Rattle.fork_by.proofs.KeptLaws.{held_some, in_removed, length-removed, numbered, once, place_held, slot_held}
use Rattle.fork_by.proofs.ListLaws.{all_times, pairs-filter, pairs-agree, map-agree, map-twice, map-length, filter-map}
use Rattle.fork_by.proofs.ChangedSlotLaws.{held-moved, is-number, label-same, moment-moved, number-is, order-moved}
use Rattle.fork_by.proofs.ChangedSlotLaws.{place-sits, sits, sits-place}

module _ (entries : List (List Value × ℕ)) (slots : List (Option Slot)) (lists : List (List ℕ)) (due : List (ℕ × ℕ))
    (next : ℕ) (numbers : List ℕ)
    (k : AreKept entries slots lists due next numbers) where
  module _ (number index : ℕ) (entries' : List (List Value × ℕ)) (slots₁ slots' : List (Option Slot))
      (lists' : List (List ℕ)) (due' : List (ℕ × ℕ)) (here : 0 < times_in number numbers)
      (index_is : index ≡ index_in (slot_at number slots)) (cleared : SetsSlot slots slots₁ number None)
      (takes : TakesOut entries entries' slots₁ slots' index)
      (lists_is : lists' ≡ without number lists) (dues : Sets due due' number None) (due_rises : IsRising due') where
    at_index : number_at index entries ≡ Some number
    at_index = ap (λ i. number_at i entries) index_is ∙ numbered entries slots lists due next numbers k number here

    number_left : (i : ℕ)
        → number_at i entries'
        ≡ cond (eqb i (length entries')) None
        (cond (eqb i index) (number_at (length entries') entries) (number_at i entries))
    number_left i =
        ap (λ (o : Option (List Value × ℕ)). option_map (λ entry. entry.1) o) (takes.entry i)
        ∙ elim (eqb i (length entries')) as
        (λ b. option_map (λ entry. entry.1)
        (cond b None (cond (eqb i index) (slice_get entries (length entries')) (slice_get entries i)))
        ≡ cond b None (cond (eqb i index) (number_at (length entries') entries) (number_at i entries))) [
          | true ↦ refl
          | false ↦
              elim (eqb i index) as
              (λ b. option_map (λ entry. entry.1) (cond b (slice_get entries (length entries')) (slice_get entries i))
              ≡ cond b (number_at (length entries') entries) (number_at i entries))
              [ true ↦ refl | false ↦ refl ]
        ]

    slot_before : (q : ℕ) → eqb q number ≡ false → slot_at q slots₁ ≡ slot_at q slots
    slot_before q apart = cleared q ∙ rw apart refl

    last_is : length entries' + 1 ≡ length entries
    last_is = takes.count

    number_apart : (q : ℕ) → number_at index entries ≡ Some q → eqb q number ≡ false → ⊥
    number_apart q is apart =
        let same : Some number ≡ Some q = sym at_index ∙ is in
        let e : number ≡ q = cc in
        eqb-apart q number apart (sym e)

    -- the number of the last index gets the one that is free
    moves_last : (q : ℕ) → eqb q number ≡ false → number_at (length entries') entries ≡ Some q
        → number_at index entries' ≡ Some q
    moves_last q apart last =
        number_left index
        ∙ rw (
          eqb-false index (length entries') (λ e. number_apart q (ap (λ i. number_at i entries) e ∙ last) apart),
          eqb-same index,
        )
        last

    last_moves : (q : ℕ) → number_at index entries' ≡ Some q → number_at (length entries') entries ≡ Some q
    last_moves q is = known (eqb index (length entries')) refl (sym (number_left index) ∙ is)
      where
        known : (b : Bool) → eqb index (length entries') ≡ b
            → cond (eqb index (length entries')) None
            (cond (eqb index index) (number_at (length entries') entries) (number_at index entries))
            ≡ Some q
            → number_at (length entries') entries ≡ Some q
        known true at h = absurd (
            let none : cond (eqb index (length entries')) None
            (cond (eqb index index) (number_at (length entries') entries) (number_at index entries))
            ≡ None =
            rw at refl in
            cc)
        known false at h = sym (rw (at, eqb-same index) refl) ∙ h

    moved_slot : (q : ℕ) → eqb q number ≡ false
        → slot_at q slots'
        ≡ cond (sits (length entries') (slot_at q slots)) (with_index index (slot_at q slots)) (slot_at q slots)
    moved_slot q apart =
        takes.moved q
        ∙ ap (λ (o : Option Slot). cond (is_number q (number_at index entries')) (with_index index o) o)
        (slot_before q apart)
        ∙ ap (λ b. cond b (with_index index (slot_at q slots)) (slot_at q slots))
        (tests (is_number q (number_at index entries')) (sits (length entries') (slot_at q slots)) refl refl)
      where
        tests : (a b : Bool) → is_number q (number_at index entries') ≡ a → sits (length entries') (slot_at q slots) ≡ b
            → a ≡ b
        tests true true one other = refl
        tests false false one other = refl
        tests true false one other = absurd (
            let yes_it : sits (length entries') (slot_at q slots) ≡ true =
            place-sits (length entries') (slot_at q slots)
            (k.tied.owned q (length entries') (last_moves q (number-is q (number_at index entries') one))) in
            cc)
        tests false true one other = absurd (
            let yes_it : is_number q (number_at index entries') ≡ true =
            is-number q (number_at index entries')
            (moves_last q apart
            (k.tied.placed q (length entries') (sits-place (length entries') (slot_at q slots) other))) in
            cc)

    slot_gone : slot_at number slots' ≡ None
    slot_gone =
        let gone : slot_at number slots₁ ≡ None = cleared number ∙ rw (eqb-same number) refl in
        takes.moved number
        ∙ ap (λ (o : Option Slot). cond (is_number number (number_at index entries')) (with_index index o) o) gone
        ∙ elim (is_number number (number_at index entries')) as (λ b. cond b (with_index index None) None ≡ None)
        [ true ↦ refl | false ↦ refl ]

    left_in : (q : ℕ) → 0 < times_in q (removed number numbers) → (eqb q number ≡ false) × (0 < times_in q numbers)
    left_in q more = in_removed number q numbers more

    left_order : (q : ℕ) → eqb q number ≡ false → order_in (slot_at q slots') ≡ order_in (slot_at q slots)
    left_order q apart =
        ap order_in (moved_slot q apart)
        ∙ order-moved (sits (length entries') (slot_at q slots)) index (slot_at q slots)

    left_moment : (q : ℕ) → eqb q number ≡ false → moment_in (slot_at q slots') ≡ moment_in (slot_at q slots)
    left_moment q apart =
        ap moment_in (moved_slot q apart)
        ∙ moment-moved (sits (length entries') (slot_at q slots)) index (slot_at q slots)

    left_held : (q : ℕ) → cond (eqb q number) 0 (times_in q numbers) ≡ held (slot_at q slots')
    left_held q =
        elim (bool_cases (eqb q number)) [
          | inl same ↦ rw same (sym (ap (λ n. held (slot_at n slots')) (eqb-true q number same) ∙ ap held slot_gone))
          | inr apart ↦
              rw apart (k.live q
              ∙ sym (ap held (moved_slot q apart)
              ∙ held-moved (sits (length entries') (slot_at q slots)) index (slot_at q slots)))
        ]

    -- where a number is then
    left_place : (q i : ℕ) → place_in (slot_at q slots') ≡ Some i → number_at i entries' ≡ Some q
    left_place q i h =
        elim (bool_cases (eqb q number)) [
          | inl same ↦
              absurd (let none : place_in (slot_at q slots') ≡ None =
              ap (λ n. place_in (slot_at n slots')) (eqb-true q number same) ∙ ap place_in slot_gone in
              cc)
          | inr apart ↦
              known (slot_at q slots) refl (sits (length entries') (slot_at q slots)) refl apart
              (sym (ap place_in (moved_slot q apart)) ∙ h)
        ]
      where
        known : (slot : Option Slot) → slot_at q slots ≡ slot → (b : Bool)
            → sits (length entries') (slot_at q slots) ≡ b → eqb q number ≡ false
            → place_in
            (cond (sits (length entries') (slot_at q slots)) (with_index index (slot_at q slots)) (slot_at q slots))
            ≡ Some i
            → number_at i entries' ≡ Some q
        known None is b at apart place =
            absurd (let none : place_in
            (cond (sits (length entries') (slot_at q slots)) (with_index index (slot_at q slots)) (slot_at q slots))
            ≡ None =
            rw is refl in
            cc)
        known (Some slot) is true at apart place =
            let there : Some index ≡ Some i = sym (rw (at, is) refl) ∙ place in
            let e : index ≡ i = cc in
            ap (λ n. number_at n entries') (sym e)
            ∙ moves_last q apart (k.tied.placed q (length entries') (sits-place (length entries') (slot_at q slots) at))
        known (Some slot) is false at apart place =
            let same : place_in (slot_at q slots) ≡ Some i =
            sym (ap (λ b. place_in (cond b (with_index index (slot_at q slots)) (slot_at q slots))) at) ∙ place in
            let was : number_at i entries ≡ Some q = k.tied.placed q i same in
            number_left i
            ∙ rw (
              eqb-false i (length entries')
                  (λ e.
                  let yes_it : sits (length entries') (slot_at q slots) ≡ true =
                  place-sits (length entries') (slot_at q slots) (same ∙ ap Some e) in
                  absurd (cc)),
              eqb-false i index (λ e. number_apart q (ap (λ n. number_at n entries) (sym e) ∙ was) apart),
            ) was

    left_owner : (q i : ℕ) → number_at i entries' ≡ Some q → place_in (slot_at q slots') ≡ Some i
    left_owner q i h = known (eqb i (length entries')) refl (eqb i index) refl (sym (number_left i) ∙ h)
      where
        moved : number_at (length entries') entries ≡ Some q → eqb q number ≡ false → i ≡ index
            → place_in (slot_at q slots') ≡ Some i
        moved last apart e =
            let place : place_in (slot_at q slots) ≡ Some (length entries') = k.tied.owned q (length entries') last in
            let slot = held_some (slot_at q slots) (place_held (slot_at q slots) (length entries') place) in
            let at : slot_at q slots' ≡ with_index index (slot_at q slots) =
            moved_slot q apart ∙ rw (place-sits (length entries') (slot_at q slots) place) refl in
            ap place_in at ∙ ap (λ (o : Option Slot). place_in (with_index index o)) slot.1 ∙ ap Some (sym e)

        stayed : number_at i entries ≡ Some q → eqb q number ≡ false → eqb i (length entries') ≡ false
            → place_in (slot_at q slots') ≡ Some i
        stayed was apart off =
            let place : place_in (slot_at q slots) ≡ Some i = k.tied.owned q i was in
            let no_last : sits (length entries') (slot_at q slots) ≡ false =
            not_last (sits (length entries') (slot_at q slots)) refl place off in
            let at : slot_at q slots' ≡ slot_at q slots = moved_slot q apart ∙ rw no_last refl in
            ap place_in at ∙ place
          where
            not_last : (b : Bool) → sits (length entries') (slot_at q slots) ≡ b → place_in (slot_at q slots) ≡ Some i
                → eqb i (length entries') ≡ false → b ≡ false
            not_last true at place off =
                absurd (let both : Some i ≡ Some (length entries') =
                sym place ∙ sits-place (length entries') (slot_at q slots) at in
                let e : i ≡ length entries' = cc in
                eqb-apart i (length entries') off e)
            not_last false at place off = refl

        other : (j : ℕ) → number_at j entries ≡ Some q → j ≢ index → eqb q number ≡ false
        other j was away = eqb-false q number (λ e.
            let first : place_in (slot_at number slots) ≡ Some j =
            ap (λ n. place_in (slot_at n slots)) (sym e) ∙ k.tied.owned q j was in
            let second : place_in (slot_at number slots) ≡ Some index = k.tied.owned number index at_index in
            let both : j ≡ index = cc in away both)

        known : (a : Bool) → eqb i (length entries') ≡ a → (b : Bool) → eqb i index ≡ b
            → cond (eqb i (length entries')) None
            (cond (eqb i index) (number_at (length entries') entries) (number_at i entries))
            ≡ Some q
            → place_in (slot_at q slots') ≡ Some i
        known true last b at is = absurd (
            let none : cond (eqb i (length entries')) None
            (cond (eqb i index) (number_at (length entries') entries) (number_at i entries))
            ≡ None =
            rw last refl in
            cc)
        known false off true at is =
            let last : number_at (length entries') entries ≡ Some q = sym (rw (off, at) refl) ∙ is in
            let e : i ≡ index = eqb-true i index at in
            moved last (other (length entries') last (λ l. eqb-apart i (length entries') off (e ∙ sym l))) e
        known false off false at is =
            let was : number_at i entries ≡ Some q = sym (rw (off, at) refl) ∙ is in
            stayed was (other i was (eqb-apart i index at)) off

    pub dropped-kept : AreKept entries' slots' lists' due' next (removed number numbers)
    dropped-kept = record {
      one_list = ap (λ (ls : List (List ℕ)). length ls) lists_is ∙ length-without number lists ∙ k.one_list;
      listed =
          λ q. ap (times q) lists_is ∙ times-without number q lists ∙ ap (λ n. cond (eqb q number) 0 n) (k.listed q)
          ∙ sym (times_in-remove number q numbers);
      live = λ q. times_in-remove number q numbers ∙ left_held q;
      many =
          (let count : length entries' + 1 ≡ length entries = takes.count in
          let many : length entries ≡ length numbers = k.many in
          let most : times_in number numbers ≤ 1 = once entries slots lists due next numbers k number in
          let less : length (removed number numbers) + times_in number numbers ≡ length numbers =
          length-removed number numbers in
          omega (arith, count, many, most, less, here));
      tied = record { placed = left_place; owned = λ q i h. left_owner q i h };
      keys = takes.keys;
      orders =
          pairs-agree (λ one later. order_in (slot_at one slots) < order_in (slot_at later slots))
          (λ one later. order_in (slot_at one slots') < order_in (slot_at later slots')) (removed number numbers)
          (λ a b in_a in_b less.
          let same_a : order_in (slot_at a slots') ≡ order_in (slot_at a slots) = left_order a (left_in a in_a).0 in
          let same_b : order_in (slot_at b slots') ≡ order_in (slot_at b slots) = left_order b (left_in b in_b).0 in
          omega (arith, less, same_a, same_b))
          (pairs-filter (λ one later. order_in (slot_at one slots) < order_in (slot_at later slots))
          (λ other. not (eqb other number)) numbers k.orders);
      below = all_listed (λ q. order_in (slot_at q slots') < next) (removed number numbers) (λ q more.
          let parts = left_in q more in
          let less : order_in (slot_at q slots) < next =
          all_times (λ n. order_in (slot_at n slots) < next) numbers k.below q parts.1 in
          let same : order_in (slot_at q slots') ≡ order_in (slot_at q slots) = left_order q parts.0 in
          omega (arith, less, same));
      moments =
          subst (λ (ids : List ℕ). MomentsRise slots' ids)
          (sym (ap (λ (ls : List (List ℕ)). list_at ls 0) lists_is ∙ at-without number 0 lists))
          (pairs-agree (λ one later. moment_in (slot_at one slots) ≤ moment_in (slot_at later slots))
          (λ one later. moment_in (slot_at one slots') ≤ moment_in (slot_at later slots'))
          (removed number (list_at lists 0))
          (λ a b in_a in_b less.
          let same_a : moment_in (slot_at a slots') ≡ moment_in (slot_at a slots) =
          left_moment a (in_removed number a (list_at lists 0) in_a).0 in
          let same_b : moment_in (slot_at b slots') ≡ moment_in (slot_at b slots) =
          left_moment b (in_removed number b (list_at lists 0) in_b).0 in
          omega (arith, less, same_a, same_b))
          (pairs-filter (λ one later. moment_in (slot_at one slots) ≤ moment_in (slot_at later slots))
          (λ other. not (eqb other number)) (list_at lists 0) k.moments));
      due_live = λ q some. still_due q (eqb q number) refl (subst (λ (o : Option ℕ). IsSome o) (dues q) some);
      due_rises = due_rises;
    }
      where
        still_due : (q : ℕ) (b : Bool) → eqb q number ≡ b → IsSome (cond (eqb q number) None (moment_at q due))
            → 0 < times_in q (removed number numbers)
        still_due q true same some =
            absurd (let none : cond (eqb q number) None (moment_at q due) ≡ None = rw same refl in
            none_is (cond (eqb q number) None (moment_at q due)) none some)
          where
            none_is : (o : Option ℕ) → o ≡ None → IsSome o → ⊥
            none_is None e h = absurd (cc)
            none_is (Some n) e h = absurd (cc)
        still_due q false apart some =
            let more : 0 < times_in q numbers =
            k.due_live q (subst (λ (o : Option ℕ). IsSome o) (rw apart refl) some) in
            let is : times_in q (removed number numbers) ≡ times_in q numbers =
            times_in-remove number q numbers ∙ rw apart refl in
            omega (arith, more, is)

    pub dropped-labels : labels_of entries' slots' due' (removed number numbers)
        ≡ dropped number index (labels_of entries slots due numbers)
    dropped-labels =
        map-agree (label_of entries' slots' due') (λ q. moved_to index (length entries') (label_of entries slots due q))
        (removed number numbers) (λ q more.
        let parts = left_in q more in
        left_label q parts.0 parts.1)
        ∙ sym (map-twice (moved_to index (length entries')) (label_of entries slots due) (removed number numbers))
        ∙ ap (map (moved_to index (length entries')))
        (sym (filter-map (λ (l : Label). not (eqb l.number number)) (label_of entries slots due) numbers))
        ∙ ap (λ last. map (moved_to index last)
        (filter (λ (l : Label). not (eqb l.number number)) (labels_of entries slots due numbers)))
        (let count : length entries' + 1 ≡ length entries = takes.count in
        let many : length entries ≡ length numbers = k.many in
        let same : length (labels_of entries slots due numbers) ≡ length numbers =
        map-length (label_of entries slots due) numbers in
        omega (arith, count, many, same))
      where
        due_left : (q : ℕ) → eqb q number ≡ false → moment_at q due' ≡ moment_at q due
        due_left q apart = dues q ∙ rw apart refl

        left_label : (q : ℕ) → eqb q number ≡ false → 0 < times_in q numbers
            → label_of entries' slots' due' q ≡ moved_to index (length entries') (label_of entries slots due q)
        left_label q apart more =
            known (slot_at q slots) refl (slot_held entries slots lists due next numbers k q more)
            (sits (length entries') (slot_at q slots)) refl
          where
            known : (slot : Option Slot) → slot_at q slots ≡ slot → 0 < held (slot_at q slots) → (b : Bool)
                → sits (length entries') (slot_at q slots) ≡ b
                → label_of entries' slots' due' q ≡ moved_to index (length entries') (label_of entries slots due q)
            known None is h b at = absurd (let none : held (slot_at q slots) ≡ 0 = ap held is in omega (arith, h, none))
            known (Some slot) is h true at =
                let last : slot.index ≡ length entries' =
                eqb-true slot.index (length entries') (sym (ap (sits (length entries')) is) ∙ at) in
                let there : slot_at q slots' ≡ Some (slot_with index slot.order slot.moment) =
                moved_slot q apart ∙ rw (at, is) refl in
                let off : eqb index (length entries') ≡ false =
                eqb-false index (length entries')
                (λ e. number_apart q
                (ap (λ i. number_at i entries) e
                ∙ k.tied.placed q (length entries') (sits-place (length entries') (slot_at q slots) at))
                apart) in
                let comes : slice_get entries' index ≡ slice_get entries slot.index =
                takes.entry index ∙ rw (off, eqb-same index) (ap (slice_get entries) (sym last)) in
                ap (label_with entries' due' q) there
                ∙ label-same (key_in (slice_get entries' index)) (key_in (slice_get entries slot.index)) q index index
                slot.moment (moment_at q due') (moment_at q due)
                (ap key_in comes) refl (due_left q apart)
                ∙ sym (ap (λ (o : Option Slot). moved_to index (length entries') (label_with entries due q o)) is
                ∙ rw (ap (λ n. eqb n (length entries')) last ∙ eqb-same (length entries')) refl)
            known (Some slot) is h false at =
                let there : slot_at q slots' ≡ Some slot = moved_slot q apart ∙ rw (at, is) refl in
                let off : eqb slot.index (length entries') ≡ false = sym (ap (sits (length entries')) is) ∙ at in
                let was : number_at slot.index entries ≡ Some q = k.tied.placed q slot.index (ap place_in is) in
                let away : eqb slot.index index ≡ false =
                eqb-false slot.index index (λ e. number_apart q (ap (λ n. number_at n entries) (sym e) ∙ was) apart) in
                let stays : slice_get entries' slot.index ≡ slice_get entries slot.index =
                takes.entry slot.index ∙ rw (off, away) refl in
                ap (label_with entries' due' q) there
                ∙ label-same (key_in (slice_get entries' slot.index)) (key_in (slice_get entries slot.index)) q
                slot.index slot.index slot.moment (moment_at q due') (moment_at q due)
                (ap key_in stays) refl (due_left q apart)
                ∙ sym (ap (λ (o : Option Slot). moved_to index (length entries') (label_with entries due q o)) is
                ∙ rw off refl)
