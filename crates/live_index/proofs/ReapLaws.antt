-- What is left where the events that are due are taken out.
use Rattle.std.proofs.Common.{◌≡◌, ℕ, suc, ◌≤◌, ◌^◌, Bool, true, false, not, ◌||◌, cond, eqb, nat_le, List, [], ◌∷◌}
use Rattle.std.proofs.Common.{map, filter, length, Option, None, Some, refl, sym, ap, ◌∙◌, subst}
use mathlib.Core.Bool.{true≢false}
use Rattle.std.specs.Option.{option_map, IsSome}
use Rattle.std.specs.Ordering.{nat_cmp}
use Rattle.std.specs.List.{list_any, AllByRecursion}
use Rattle.std.specs.Map.{lookup, keys_of}
use Rattle.std.specs.BTreeMap.{is_at}
use Rattle.std.proofs.lemmas.Cmp.{eq_by_cmp_equiv, nat_cmp_total}
use Rattle.std.proofs.lemmas.Map.Keys.{IsDistinct-from_sorted}
use Rattle.std.proofs.lemmas.Map.Entries.{lookup-filter-values, option_filter}
use Rattle.std.proofs.lemmas.Map.Steps.{length-le_from_keys}
use Rattle.ev_types.specs.declared.event.Event.{Event}
use Rattle.ev_types.specs.Expiry.{ends_key, is_late, is_expired}
use Rattle.index_log.proofs.Rising.{rising-filter}
use Rattle.key_map.specs.Keys.{IndexKey, key_cmp, Numbers, number_at}
use Rattle.linked_slots.specs.Table.{value_at}
use Rattle.tick_schedule.specs.Queue as queue
use Rattle.tick_schedule.specs.Queue.{moment_at, due_ids, due_later}
use Rattle.tick_schedule.proofs.QueueLaws as laws
use Rattle.tick_schedule.proofs.QueueLaws.{at-eqb, at-same, due-is_by}
use Rattle.tick_schedule.proofs.ScheduleLaws.{rising_some}
use Rattle.live_index.specs.Slots.{key_of, also, events_in, slot_at, event_of, is_by, is_late_in, is_among, has_number}
use Rattle.live_index.specs.Slots.{IsLinked, IsTimed, IsTaking}
use Rattle.live_index.proofs.LinkLaws.{key_total}
use Rattle.live_index.proofs.RowLaws.{find_key, keyed, HasKey, all_found, same_events, find-events, events-rise}
use Rattle.live_index.proofs.RowLaws.{rising-keyed}

-- ---- which numbers are due

any-eqb : (n : ℕ) (xs : List ℕ) → list_any (eqb n) xs ≡ list_any (is_at (nat_cmp n)) xs
any-eqb n [] = refl
any-eqb n (x ∷ xs) =
    ap (λ b. b || list_any (eqb n) xs) (sym (at-eqb n x)) ∙ ap (λ r. is_at (nat_cmp n) x || r) (any-eqb n xs)

by-same : (now : ℕ) (r : Option ℕ) → laws.is_by now r ≡ is_by now r
by-same now None = refl
by-same now (Some m) = refl

due-among : (now n : ℕ) (due : List (ℕ × ℕ)) → queue.IsRising due
    → is_among n (due_ids now due) ≡ is_by now (moment_at n due)
due-among now n due rising = any-eqb n (due_ids now due) ∙ due-is_by now n due rising ∙ by-same now (moment_at n due)

filter-by : (p : Event → Bool) (b : Bool) (e : Event) (es : List Event)
    → keyed (filter p es) ≡ filter (λ r. p r.1) (keyed es)
    → keyed (cond b (e ∷ filter p es) (filter p es))
    ≡ cond b ((key_of e, e) ∷ filter (λ r. p r.1) (keyed es)) (filter (λ r. p r.1) (keyed es))
filter-by p true e es ih = ap (λ r. (key_of e, e) ∷ r) ih
filter-by p false e es ih = ih

keyed-filter : (p : Event → Bool) (es : List Event) → keyed (filter p es) ≡ filter (λ r. p r.1) (keyed es)
keyed-filter p [] = refl
keyed-filter p (e ∷ es) = filter-by p (p e) e es (keyed-filter p es)

module _ (now : ℕ) (bound : now ≤ 2 ^ 40) (numbers : Numbers) (table : List (Option Event)) (due : List (ℕ × ℕ))
    (linked : IsLinked numbers table) (timed : IsTimed table due) (rising : queue.IsRising due) where
  late-among : (n : ℕ) → is_among n (due_ids now due) ≡ is_late_in now (value_at table n)
  late-among n = due-among now n due rising ∙ timed n now bound

  late-has : (q : IndexKey)
      → has_number (number_at q numbers) (due_ids now due) ≡ is_late_in now (event_of q numbers table)
  late-has q = has_by (number_at q numbers)
    where
      has_by : (r : Option ℕ) → has_number r (due_ids now due) ≡ is_late_in now (slot_at table r)
      has_by None = refl
      has_by (Some m) = late-among m

  -- ---- the events that are taken out and those that are left

  in-late : (x : Option Event) → cond (is_late_in now x) x None ≡ option_filter (is_late now) x
  in-late None = refl
  in-late (Some e) = refl

  not-late : (x : Option Event) → cond (is_late_in now x) None x ≡ option_filter (λ e. not (is_late now e)) x
  not-late None = refl
  not-late (Some e) = either (is_late now e)
    where
      either : (b : Bool) → cond b None (Some e) ≡ cond (not b) (Some e) None
      either true = refl
      either false = refl

  not-ending : (q : IndexKey) (e : Event) → event_of q numbers table ≡ Some e → ends_key e ≡ false
  not-ending q e h = ending_by (number_at q numbers) h
    where
      ending_by : (r : Option ℕ) → slot_at table r ≡ Some e → ends_key e ≡ false
      ending_by None h = absurd (cc)
      ending_by (Some m) h = linked.current m e h

  expired-in : (x : Option Event) → ((e : Event) → x ≡ Some e → ends_key e ≡ false)
      → option_filter (is_late now) x ≡ option_filter (is_expired now) x
  expired-in None h = refl
  expired-in (Some e) h = ap (λ ends. cond (ends || is_late now e) (Some e) None) (sym (h e refl))

  expired-out : (x : Option Event) → ((e : Event) → x ≡ Some e → ends_key e ≡ false)
      → option_filter (λ e. not (is_late now e)) x ≡ option_filter (λ e. not (is_expired now e)) x
  expired-out None h = refl
  expired-out (Some e) h = ap (λ ends. cond (not (ends || is_late now e)) (Some e) None) (sym (h e refl))

  find-filter : (p : Event → Bool) (q : IndexKey)
      → find_key q (filter p (events_in numbers table)) ≡ option_filter p (event_of q numbers table)
  find-filter p q =
      ap (lookup (is_at (key_cmp q))) (keyed-filter p (events_in numbers table))
      ∙ lookup-filter-values (eq_by_cmp_equiv key_total) p q (keyed (events_in numbers table))
      (IsDistinct-from_sorted key_cmp (keys_of (keyed (events_in numbers table)))
      (rising-keyed (events_in numbers table) (events-rise numbers table linked)))
      ∙ ap (option_filter p) (find-events numbers table linked q)

  pub reap-gone : (numbers' : Numbers) (table' : List (Option Event)) (es : List Event)
      → IsTaking (due_ids now due) numbers table numbers' table' es
      → es ≡ filter (is_expired now) (events_in numbers table)
  reap-gone numbers' table' es taking =
      same_events es (filter (is_expired now) (events_in numbers table)) taking.taken.rising
      (rising-filter (is_expired now) (events_in numbers table) (events-rise numbers table linked))
      (λ q. taking.taken.taken q ∙ ap (λ b. cond b (event_of q numbers table) None) (late-has q)
      ∙ in-late (event_of q numbers table)
      ∙ expired-in (event_of q numbers table) (not-ending q) ∙ sym (find-filter (is_expired now) q))

  pub reap-kept : (numbers' : Numbers) (table' : List (Option Event)) (es : List Event)
      → IsTaking (due_ids now due) numbers table numbers' table' es
      → events_in numbers' table' ≡ filter (λ e. not (is_expired now e)) (events_in numbers table)
  reap-kept numbers' table' es taking =
      same_events (events_in numbers' table') (filter (λ e. not (is_expired now e)) (events_in numbers table))
      (events-rise numbers' table' taking.linked)
      (rising-filter (λ e. not (is_expired now e)) (events_in numbers table) (events-rise numbers table linked))
      (λ q. find-events numbers' table' taking.linked q ∙ taking.kept q
      ∙ ap (λ b. cond b None (event_of q numbers table)) (late-has q) ∙ not-late (event_of q numbers table)
      ∙ expired-out (event_of q numbers table) (not-ending q) ∙ sym (find-filter (λ e. not (is_expired now e)) q))

  -- ---- the moments that are left

  later-at : (n : ℕ) → moment_at n (due_later now due) ≡ option_filter (λ m. not (nat_le m now)) (moment_at n due)
  later-at n =
      lookup-filter-values (eq_by_cmp_equiv nat_cmp_total) (λ m. not (nat_le m now)) n due
      (IsDistinct-from_sorted nat_cmp (keys_of due) rising)

  pub reap-timed : (numbers' : Numbers) (table' : List (Option Event)) (es : List Event)
      → IsTaking (due_ids now due) numbers table numbers' table' es → IsTimed table' (due_later now due)
  reap-timed numbers' table' es taking n t h =
      ap (is_by t) (later-at n) ∙ timed_by (moment_at n due) refl
      ∙ sym (ap (is_late_in t) (taking.slots n ∙ ap (λ b. cond b None (value_at table n)) (due-among now n due rising)))
    where
      moment_by : (m : ℕ) → moment_at n due ≡ Some m → (b : Bool)
          → is_by t (cond (not b) (Some m) None) ≡ is_late_in t (cond b None (value_at table n))
      moment_by m is true = refl
      moment_by m is false = ap (is_by t) (sym is) ∙ timed n t h

      timed_by : (r : Option ℕ) → moment_at n due ≡ r
          → is_by t (option_filter (λ m. not (nat_le m now)) r)
          ≡ is_late_in t (cond (is_by now r) None (value_at table n))
      timed_by None is = ap (is_by t) (sym is) ∙ timed n t h
      timed_by (Some m) is = moment_by m is (nat_le m now)

  -- ---- how many there are

  abbrev late_in : Numbers → Numbers
  late_in rest = filter (λ entry. is_late_in now (value_at table entry.1)) rest

  abbrev swapped : Numbers → List (ℕ × IndexKey)
  swapped entries = map (λ entry. (entry.1, entry.0)) entries

  length-swapped : (entries : Numbers) → length (swapped entries) ≡ length entries
  length-swapped [] = refl
  length-swapped (e ∷ entries) = ap suc (length-swapped entries)

  late-also : (slot : Option Event) (k : IndexKey) (entry : IndexKey × ℕ) (rest : Numbers) (es : List Event)
      → option_map key_of slot ≡ Some k → ((e : Event) → slot ≡ Some e → ends_key e ≡ false)
      → length rest ≡ length (filter (is_expired now) es)
      → length (cond (is_late_in now slot) (entry ∷ rest) rest) ≡ length (filter (is_expired now) (also slot es))
  late-also None k entry rest es h current ih = absurd (cc)
  late-also (Some e) k entry rest es h current ih =
      late_by (is_late now e)
      ∙ ap (λ ends. length (cond (ends || is_late now e) (e ∷ filter (is_expired now) es) (filter (is_expired now) es)))
      (sym (current e refl))
    where
      late_by : (b : Bool)
          → length (cond b (entry ∷ rest) rest)
          ≡ length (cond b (e ∷ filter (is_expired now) es) (filter (is_expired now) es))
      late_by true = ap suc ih
      late_by false = ih

  late-length : (rest : Numbers) → AllByRecursion (HasKey table) rest
      → length (late_in rest) ≡ length (filter (is_expired now) (events_in rest table))
  late-length [] all = refl
  late-length (e ∷ rest) all =
      late-also (value_at table e.1) e.0 e (late_in rest) (events_in rest table) all.0
      (λ event h. linked.current e.1 event h) (late-length rest all.1)

  found-late : (rest : Numbers) (k : IndexKey) (n : ℕ) → number_at k rest ≡ Some n
      → is_late_in now (value_at table n) ≡ true → IsSome (lookup (is_at (nat_cmp n)) (swapped (late_in rest)))
  found-late [] k n h late = absurd (cc)
  found-late (e ∷ rest) k n h late = found_by (is_at (key_cmp k) e.0) refl (found-late rest k n)
    where
      some-first : (b : Bool) (r : Option IndexKey) → IsSome r → IsSome (cond b (Some e.0) r)
      some-first true r s = refl
      some-first false r s = s

      past : (b : Bool) → IsSome (lookup (is_at (nat_cmp n)) (swapped (late_in rest)))
          → IsSome (lookup (is_at (nat_cmp n)) (swapped (cond b (e ∷ late_in rest) (late_in rest))))
      past true s = some-first (is_at (nat_cmp n) e.1) (lookup (is_at (nat_cmp n)) (swapped (late_in rest))) s
      past false s = s

      here : e.1 ≡ n → IsSome (lookup (is_at (nat_cmp n)) (swapped (late_in (e ∷ rest))))
      here is =
          subst (λ b. IsSome (lookup (is_at (nat_cmp n)) (swapped (cond b (e ∷ late_in rest) (late_in rest)))))
          (sym (ap (λ n. is_late_in now (value_at table n)) is ∙ late))
          (subst (λ b. IsSome (cond b (Some e.0) (lookup (is_at (nat_cmp n)) (swapped (late_in rest)))))
          (sym (ap (is_at (nat_cmp n)) is ∙ at-same n)) refl)

      found_by : (b : Bool) → is_at (key_cmp k) e.0 ≡ b
          → (number_at k rest ≡ Some n → is_late_in now (value_at table n) ≡ true
          → IsSome (lookup (is_at (nat_cmp n)) (swapped (late_in rest))))
          → IsSome (lookup (is_at (nat_cmp n)) (swapped (late_in (e ∷ rest))))
      found_by true at ih =
          let number : Some e.1 ≡ Some n = sym (ap (λ b. cond b (Some e.1) (number_at k rest)) at) ∙ h in
          let is : e.1 ≡ n = cc in here is
      found_by false at ih =
          past (is_late_in now (value_at table e.1))
          (ih (sym (ap (λ b. cond b (Some e.1) (number_at k rest)) at) ∙ h) late)

  found-due : (n : ℕ) → list_any (is_at (nat_cmp n)) (due_ids now due) ≡ true
      → IsSome (lookup (is_at (nat_cmp n)) (swapped (late_in numbers)))
  found-due n h = due_by (value_at table n) refl (sym (late-among n) ∙ any-eqb n (due_ids now due) ∙ h)
    where
      due_by : (slot : Option Event) → value_at table n ≡ slot → is_late_in now (value_at table n) ≡ true
          → IsSome (lookup (is_at (nat_cmp n)) (swapped (late_in numbers)))
      due_by None is late = absurd (true≢false (sym late ∙ ap (is_late_in now) is))
      due_by (Some e) is late = found-late numbers (key_of e) n (linked.placed n e is) late

  -- no more numbers are due than events are expired
  pub due-count : length (due_ids now due) ≤ length (filter (is_expired now) (events_in numbers table))
  due-count =
      subst (λ count. length (due_ids now due) ≤ count)
      (length-swapped (late_in numbers) ∙ late-length numbers (all_found numbers table linked))
      (length-le_from_keys (eq_by_cmp_equiv nat_cmp_total) (due_ids now due) (swapped (late_in numbers))
      (IsDistinct-from_sorted nat_cmp (due_ids now due) (rising_some (λ e. nat_le e.1 now) due rising)) found-due)
