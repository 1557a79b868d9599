-- A register without forks, and one to which a fork is added.
use Rattle.std.proofs.Common.{◌≡◌, ℕ, ◌+◌, ◌<◌, ◌≤◌, true, false, cond, eqb, List, [], ◌∷◌, ◌++◌, length, length-append}
use Rattle.std.proofs.Common.{replicate, slice_get, Option, None, Some, arith, refl, sym, ◌∙◌, ap, subst, inl, inr}
use Rattle.std.specs.List.{IsDistinct}
use Rattle.std.specs.List.Sorted.{IsStrictlySortedBy}
use Rattle.fork_by.specs.declared.slots.Change.{Change}
use Rattle.std.specs.Map.{keys_of}
use Rattle.std.specs.Option.{option_map}
use Rattle.ev_types.specs.declared.value.Value.{Value}
use Rattle.ev_types.specs.Key.{same_key}
use Rattle.linked_slots.specs.IdLists.{list_at, times, times_in, append_to, last_of}
use Rattle.linked_slots.proofs.ListLaws.{bool_cases, eqb-same, eqb-true, eqb-false, eqb-apart, times_in-push}
use Rattle.linked_slots.proofs.ListLaws.{times-append, at-append_same, length-append_to, all_listed}
use Rattle.tick_schedule.specs.Queue.{moment_at}
use Rattle.fork_by.specs.declared.slots.Slot.{Slot}
use Rattle.fork_by.specs.Labels.{Label}
use Rattle.fork_by.specs.Register.{AreKept, MomentsRise, key_in, label_of, label_with, labels_of, latest_of, number_at}
use Rattle.fork_by.specs.Register.{numbers_after}
use Rattle.fork_by.specs.Slots.{slot_at, SetsSlot, index_in, place_in, order_in, moment_in, held, slot_with}
use Rattle.fork_by.proofs.KeptLaws.{entry_at, not_held, number_within, numbered, place_held}
use Rattle.fork_by.proofs.SlotLaws.{none_at}
use Rattle.fork_by.proofs.ListLaws.{all-push, all_times, pairs-push, pairs-agree, map-agree, map-push, map-length}
use Rattle.fork_by.proofs.ListLaws.{get-end, get-push, get-before}
use Rattle.fork_by.proofs.MomentLaws.{has_list, in_ids, late_enough}
use Rattle.fork_by.proofs.ChangedSlotLaws.{keyed_with, label-same, label_from, no_moment}

-- ---- nothing is kept
pub kept-nothing : (entries : List (List Value × ℕ)) (slots : List (Option Slot)) (lists : List (List ℕ))
    (due : List (ℕ × ℕ)) (changes : List (Change × Unit {0}))
    → entries ≡ [] → slots ≡ [] → lists ≡ replicate 1 [] → due ≡ [] → changes ≡ []
    → AreKept entries slots lists due 0 (numbers_after changes)
unfolding IsDistinct IsStrictlySortedBy
kept-nothing entries slots lists due changes a b c d e = rw (a, b, c, d, e) (record {
  one_list = refl;
  listed = λ q. refl;
  live = λ q. sym (ap held (none_at q));
  many = refl;
  tied = record {
    placed = λ q i h. absurd (let none : place_in (slot_at q []) ≡ None = ap place_in (none_at q) in cc);
    owned = λ q i h. absurd (cc);
  };
  keys = tt;
  orders = tt;
  below = tt;
  moments = tt;
  due_live = λ q some. absurd (cc);
  due_rises = tt;
})

module _ (entries : List (List Value × ℕ)) (slots : List (Option Slot)) (lists : List (List ℕ)) (due : List (ℕ × ℕ))
    (next : ℕ) (numbers : List ℕ)
    (k : AreKept entries slots lists due next numbers) where
  -- ---- the same slots
  module _ (entries' : List (List Value × ℕ)) (slots' : List (Option Slot)) (lists' : List (List ℕ))
      (entries_same : entries' ≡ entries) (lists_same : lists' ≡ lists)
      (slots_same : (q : ℕ) → slot_at q slots' ≡ slot_at q slots) where
    pub same-kept : AreKept entries' slots' lists' due next numbers
    same-kept = rw (entries_same, lists_same) (record {
      one_list = k.one_list;
      listed = k.listed;
      live = λ q. k.live q ∙ sym (ap held (slots_same q));
      many = k.many;
      tied = record {
        placed = λ q i h. k.tied.placed q i (sym (ap place_in (slots_same q)) ∙ h);
        owned = λ q i h. ap place_in (slots_same q) ∙ k.tied.owned q i h;
      };
      keys = k.keys;
      orders =
          pairs-agree (λ one later. order_in (slot_at one slots) < order_in (slot_at later slots))
          (λ one later. order_in (slot_at one slots') < order_in (slot_at later slots')) numbers
          (λ a b in_a in_b less.
          let same_a : order_in (slot_at a slots') ≡ order_in (slot_at a slots) = ap order_in (slots_same a) in
          let same_b : order_in (slot_at b slots') ≡ order_in (slot_at b slots) = ap order_in (slots_same b) in
          omega (arith, less, same_a, same_b))
          k.orders;
      below = all_listed (λ q. order_in (slot_at q slots') < next) numbers (λ q more.
          let less : order_in (slot_at q slots) < next =
          all_times (λ n. order_in (slot_at n slots) < next) numbers k.below q more in
          let same : order_in (slot_at q slots') ≡ order_in (slot_at q slots) = ap order_in (slots_same q) in
          omega (arith, less, same));
      moments =
          pairs-agree (λ one later. moment_in (slot_at one slots) ≤ moment_in (slot_at later slots))
          (λ one later. moment_in (slot_at one slots') ≤ moment_in (slot_at later slots')) (list_at lists 0)
          (λ a b in_a in_b less.
          let same_a : moment_in (slot_at a slots') ≡ moment_in (slot_at a slots) = ap moment_in (slots_same a) in
          let same_b : moment_in (slot_at b slots') ≡ moment_in (slot_at b slots) = ap moment_in (slots_same b) in
          omega (arith, less, same_a, same_b))
          k.moments;
      due_live = k.due_live;
      due_rises = k.due_rises;
    })

    pub same-labels : labels_of entries' slots' due numbers ≡ labels_of entries slots due numbers
    same-labels =
        ap (λ (es : List (List Value × ℕ)). labels_of es slots' due numbers) entries_same
        ∙ map-agree (label_of entries slots' due) (label_of entries slots due) numbers
        (λ q more. ap (label_with entries due q) (slots_same q))

  -- ---- a fork is added
  module _ (key : List Value) (number moment : ℕ) (entries' : List (List Value × ℕ)) (slots' : List (Option Slot))
      (lists' : List (List ℕ))
      (vacant : times number lists ≡ 0) (entries_is : entries' ≡ entries ++ (key, number) ∷ [])
      (keys : IsDistinct same_key (keys_of entries'))
      (lists_is : lists' ≡ append_to 0 number lists)
      (slots_is : SetsSlot slots slots' number (Some (slot_with (length entries) next moment)))
      (late : latest_of slots (last_of (list_at lists 0)) ≤ moment) where
    none_yet : times_in number numbers ≡ 0
    none_yet = sym (k.listed number) ∙ vacant

    pub was_vacant : slot_at number slots ≡ None
    was_vacant = not_held (slot_at number slots) (sym (k.live number) ∙ none_yet)

    differs : (q : ℕ) → 0 < times_in q numbers → eqb q number ≡ false
    differs q more =
        eqb-false q number (λ e.
        let same : times_in q numbers ≡ times_in number numbers = ap (λ n. times_in n numbers) e in
        absurd (let none : times_in number numbers ≡ 0 = none_yet in omega (arith, same, none, more)))

    slot_kept : (q : ℕ) → 0 < times_in q numbers → slot_at q slots' ≡ slot_at q slots
    slot_kept q more = slots_is q ∙ rw (differs q more) refl

    slot_new : slot_at number slots' ≡ Some (slot_with (length entries) next moment)
    slot_new = slots_is number ∙ rw (eqb-same number) refl

    number_more : (i : ℕ) → number_at i entries' ≡ cond (eqb i (length entries)) (Some number) (number_at i entries)
    number_more i =
        ap (λ (es : List (List Value × ℕ)). number_at i es) entries_is
        ∙ ap (λ (o : Option (List Value × ℕ)). option_map (λ entry. entry.1) o) (get-push entries (key, number) i)
        ∙ elim (eqb i (length entries)) as
        (λ b. option_map (λ entry. entry.1) (cond b (Some (key, number)) (slice_get entries i))
        ≡ cond b (Some number) (number_at i entries))
        [ true ↦ refl | false ↦ refl ]

    live_more : (q : ℕ) → times_in q numbers + cond (eqb number q) 1 0 ≡ held (slot_at q slots')
    live_more q =
        elim (bool_cases (eqb number q)) [
          | inl same ↦ (
              let is : number ≡ q = eqb-true number q same in
              let none : times_in q numbers ≡ 0 = ap (λ n. times_in n numbers) (sym is) ∙ none_yet in
              let one : held (slot_at q slots') ≡ 1 = ap (λ n. held (slot_at n slots')) (sym is) ∙ ap held slot_new in
              rw same (omega (arith, none, one)))
          | inr apart ↦ (
              let other : eqb q number ≡ false = eqb-false q number (λ e. eqb-apart number q apart (sym e)) in
              let kept : held (slot_at q slots') ≡ held (slot_at q slots) = ap held (slots_is q ∙ rw other refl) in
              let was : times_in q numbers ≡ held (slot_at q slots) = k.live q in
              rw apart (omega (arith, kept, was)))
        ]

    pub added-kept : AreKept entries' slots' lists' due (next + 1) (numbers ++ number ∷ [])
    added-kept = record {
      one_list = ap (λ (ls : List (List ℕ)). length ls) lists_is ∙ length-append_to 0 number lists ∙ k.one_list;
      listed =
          λ q. ap (times q) lists_is ∙ times-append 0 number q lists (has_list entries slots lists due next numbers k)
          ∙ ap (λ n. n + cond (eqb number q) 1 0) (k.listed q) ∙ sym (times_in-push number q numbers);
      live = λ q. times_in-push number q numbers ∙ live_more q;
      many =
          ap (λ (es : List (List Value × ℕ)). length es) entries_is ∙ length-append entries ((key, number) ∷ [])
          ∙ ap (λ n. n + 1) k.many ∙ sym (length-append numbers (number ∷ []));
      tied = record {
        placed = λ q i h. number_more i ∙ elim (bool_cases (eqb q number)) [
          | inl same ↦ (
              let is : q ≡ number = eqb-true q number same in
              let at : Some (length entries) ≡ Some i =
              sym (ap (λ n. place_in (slot_at n slots')) is ∙ ap place_in slot_new) ∙ h in
              let index : length entries ≡ i = cc in
              ap (λ n. cond (eqb n (length entries)) (Some number) (number_at n entries)) (sym index)
              ∙ rw (eqb-same (length entries)) (ap Some (sym is)))
          | inr apart ↦ (
              let was : number_at i entries ≡ Some q =
              k.tied.placed q i (sym (ap place_in (slots_is q ∙ rw apart refl)) ∙ h) in
              let within : i < length entries = number_within entries i q was in
              rw
              (eqb-false i (length entries)
              (λ e. let at : i ≡ length entries = e in absurd (omega (arith, at, within))))
              was)
        ];
        owned = λ q i h. owned-more q i (sym (number_more i) ∙ h);
      };
      keys = keys;
      orders = pairs-push (λ one later. order_in (slot_at one slots') < order_in (slot_at later slots')) numbers number
          (pairs-agree (λ one later. order_in (slot_at one slots) < order_in (slot_at later slots))
          (λ one later. order_in (slot_at one slots') < order_in (slot_at later slots')) numbers
          (λ a b in_a in_b less.
          let same_a : order_in (slot_at a slots') ≡ order_in (slot_at a slots) = ap order_in (slot_kept a in_a) in
          let same_b : order_in (slot_at b slots') ≡ order_in (slot_at b slots) = ap order_in (slot_kept b in_b) in
          omega (arith, less, same_a, same_b))
          k.orders)
          (all_listed (λ q. order_in (slot_at q slots') < order_in (slot_at number slots')) numbers (λ q more.
          let less : order_in (slot_at q slots) < next =
          all_times (λ n. order_in (slot_at n slots) < next) numbers k.below q more in
          let same : order_in (slot_at q slots') ≡ order_in (slot_at q slots) = ap order_in (slot_kept q more) in
          let last : order_in (slot_at number slots') ≡ next = ap order_in slot_new in
          omega (arith, less, same, last)));
      below = all-push (λ q. order_in (slot_at q slots') < next + 1) numbers number
          (all_listed (λ q. order_in (slot_at q slots') < next + 1) numbers (λ q more.
          let less : order_in (slot_at q slots) < next =
          all_times (λ n. order_in (slot_at n slots) < next) numbers k.below q more in
          let same : order_in (slot_at q slots') ≡ order_in (slot_at q slots) = ap order_in (slot_kept q more) in
          omega (arith, less, same)))
          (let last : order_in (slot_at number slots') ≡ next = ap order_in slot_new in omega (arith, last));
      moments =
          subst (λ (ids : List ℕ). MomentsRise slots' ids)
          (sym (ap (λ (ls : List (List ℕ)). list_at ls 0) lists_is
          ∙ at-append_same 0 number lists (has_list entries slots lists due next numbers k)))
          rises;
      due_live =
          λ q some. (let more : 0 < times_in q numbers = k.due_live q some in
          let is : times_in q (numbers ++ number ∷ []) ≡ times_in q numbers + cond (eqb number q) 1 0 =
          times_in-push number q numbers in
          omega (arith, more, is));
      due_rises = k.due_rises;
    }
      where
        owned-more : (q i : ℕ) → cond (eqb i (length entries)) (Some number) (number_at i entries) ≡ Some q
            → place_in (slot_at q slots') ≡ Some i
        owned-more q i h =
            elim (bool_cases (eqb i (length entries))) [
              | inl last ↦ (
                  let at : i ≡ length entries = eqb-true i (length entries) last in
                  let some : Some number ≡ Some q = sym (rw last refl) ∙ h in
                  let is : number ≡ q = cc in
                  ap (λ n. place_in (slot_at n slots')) (sym is) ∙ ap place_in slot_new ∙ ap Some (sym at))
              | inr before ↦ (
                  let was : place_in (slot_at q slots) ≡ Some i = k.tied.owned q i (sym (rw before refl) ∙ h) in
                  let in_q : 0 < times_in q numbers =
                  let more : 0 < held (slot_at q slots) = place_held (slot_at q slots) i was in
                  let same : times_in q numbers ≡ held (slot_at q slots) = k.live q in
                  omega (arith, more, same) in
                  ap place_in (slot_kept q in_q) ∙ was)
            ]

        in_numbers : (q : ℕ) → 0 < times_in q (list_at lists 0) → 0 < times_in q numbers
        in_numbers q more =
            let same : times_in q (list_at lists 0) ≡ times_in q numbers =
            in_ids entries slots lists due next numbers k q in
            omega (arith, same, more)

        rises : MomentsRise slots' (list_at lists 0 ++ number ∷ [])
        rises =
            pairs-push (λ one later. moment_in (slot_at one slots') ≤ moment_in (slot_at later slots'))
            (list_at lists 0) number
            (pairs-agree (λ one later. moment_in (slot_at one slots) ≤ moment_in (slot_at later slots))
            (λ one later. moment_in (slot_at one slots') ≤ moment_in (slot_at later slots')) (list_at lists 0)
            (λ a b in_a in_b less.
            let same_a : moment_in (slot_at a slots') ≡ moment_in (slot_at a slots) =
            ap moment_in (slot_kept a (in_numbers a in_a)) in
            let same_b : moment_in (slot_at b slots') ≡ moment_in (slot_at b slots) =
            ap moment_in (slot_kept b (in_numbers b in_b)) in
            omega (arith, less, same_a, same_b)) k.moments)
            (all_listed (λ q. moment_in (slot_at q slots') ≤ moment_in (slot_at number slots')) (list_at lists 0)
            (λ q more.
            let least : moment_in (slot_at q slots) ≤ moment =
            late_enough entries slots lists due next numbers k q moment late more in
            let same : moment_in (slot_at q slots') ≡ moment_in (slot_at q slots) =
            ap moment_in (slot_kept q (in_numbers q more)) in
            let last : moment_in (slot_at number slots') ≡ moment = ap moment_in slot_new in
            omega (arith, least, same, last)))

    pub added-labels : labels_of entries' slots' due (numbers ++ number ∷ [])
        ≡ labels_of entries slots due numbers
        ++ label_from key number (length (labels_of entries slots due numbers)) moment None ∷ []
    added-labels =
        map-push (label_of entries' slots' due) numbers number
        ∙ ap (λ (ls : List Label). ls ++ label_of entries' slots' due number ∷ [])
        (map-agree (label_of entries' slots' due) (label_of entries slots due) numbers (λ q more.
        ap (label_with entries' due q) (slot_kept q more)
        ∙ ap (keyed_with slots due q)
        (let e =
        entry_at entries (index_in (slot_at q slots)) q (numbered entries slots lists due next numbers k q more) in
        ap (λ (es : List (List Value × ℕ)). key_in (slice_get es (index_in (slot_at q slots)))) entries_is
        ∙ ap key_in (get-before entries (key, number) (e.0, q) (index_in (slot_at q slots)) e.1 ∙ sym e.1))))
        ∙ ap (λ (l : Label). labels_of entries slots due numbers ++ l ∷ [])
        (ap (label_with entries' due number) slot_new
        ∙ label-same (key_in (slice_get entries' (length entries))) key number (length entries)
        (length (labels_of entries slots due numbers)) moment (moment_at number due) None
        (ap (λ (es : List (List Value × ℕ)). key_in (slice_get es (length entries))) entries_is
        ∙ ap key_in (get-end entries (key, number)))
        (k.many ∙ sym (map-length (label_of entries slots due) numbers))
        (no_moment (moment_at number due) (times_in number numbers) (k.due_live number) none_yet))
