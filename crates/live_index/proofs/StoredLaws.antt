-- What a change of an event keeps of a slots.
use Rattle.std.proofs.Common.{◌≡◌, ℕ, suc, ◌+◌, ◌-◌, ◌≤◌, ◌^◌, false, List, [], ◌∷◌, length, Option, None, Some, arith}
use Rattle.std.proofs.Common.{refl, sym, ap, ◌∙◌}
use Rattle.std.specs.List.Sorted.{IsStrictlySortedBy}
use Rattle.std.proofs.lemmas.List.{get_or_past}
use Rattle.ev_types.specs.declared.event.Event.{Event}
use Rattle.ev_types.specs.Expiry.{ends_key, is_late}
use Rattle.key_map.specs.Keys.{IndexKey, Numbers, number_at, IsRising, Sets}
use Rattle.linked_slots.specs.Table.{value_at, Changes}
use Rattle.tick_schedule.specs.Queue as queue
use Rattle.live_index.specs.Slots.{key_of, is_by, is_late_in, IsStored}
use Rattle.live_index.proofs.CountLaws.{one_less, one_more_key}
use Rattle.live_index.proofs.SlotsLaws.{end-linked, put-linked, replace-linked}
use Rattle.live_index.proofs.TimedLaws.{timed-set}

none-at : (n : ℕ) → value_at {T = Event} [] n ≡ None
none-at n = get_or_past {X = Option Event} [] n None (omega arith)

pub empty-stored : (numbers : Numbers) (table : List (Option Event)) (due : List (ℕ × ℕ)) (count : ℕ) → numbers ≡ []
    → table ≡ [] → due ≡ [] → count ≡ 0 → IsStored numbers table due count
unfolding IsStrictlySortedBy
empty-stored [] [] [] count a b d e = record {
  linked = record {
    rising = tt;
    found = λ k n h. absurd (cc);
    placed = λ n event h. absurd (let no : None ≡ Some event = sym (none-at n) ∙ h in cc);
    current = λ n event h. absurd (let no : None ≡ Some event = sym (none-at n) ∙ h in cc);
  };
  timed = λ n now h. sym (ap (λ slot. is_late_in now slot) (none-at n));
  ordered = tt;
  counted = e;
}
empty-stored (x ∷ numbers) table due count a b d e = absurd (cc)
empty-stored [] (x ∷ table) due count a b d e = absurd (cc)
empty-stored [] [] (x ∷ due) count a b d e = absurd (cc)

pub end-stored : (numbers numbers' : Numbers) (table table' : List (Option Event)) (due due' : List (ℕ × ℕ)) (count : ℕ)
    (k : IndexKey) (n : ℕ)
    → IsStored numbers table due count → number_at k numbers ≡ Some n
    → IsRising numbers' → Sets numbers numbers' k None → Changes table table' n None → queue.Sets due due' n None
    → queue.IsRising due' → IsStored numbers' table' due' (count - 1)
end-stored numbers numbers' table table' due due' count k n stored at rising sets changes cleared ordered = record {
  linked = end-linked numbers numbers' table table' k n stored.linked at rising sets changes;
  timed = timed-set table table' due due' n None None stored.timed changes cleared (λ now h. refl);
  ordered = ordered;
  counted =
      (let less : length numbers ≡ suc (length numbers') =
      one_less numbers numbers' k n stored.linked.rising rising at sets in
      omega (arith, less, stored.counted));
}

-- there is a key to be counted off
pub some-counted : (numbers numbers' : Numbers) (k : IndexKey) (n count : ℕ) → IsRising numbers → count ≡ length numbers
    → number_at k numbers ≡ Some n → IsRising numbers' → Sets numbers numbers' k None → 1 ≤ count
some-counted numbers numbers' k n count rising counted at rising' sets =
    let less : length numbers ≡ suc (length numbers') = one_less numbers numbers' k n rising rising' at sets in
    omega (arith, less, counted)

pub put-stored : (numbers numbers' : Numbers) (table table' : List (Option Event)) (due due' : List (ℕ × ℕ)) (count : ℕ)
    (event : Event) (n : ℕ) (moment : Option ℕ)
    → IsStored numbers table due count
    → number_at (key_of event) numbers ≡ None → value_at table n ≡ None → ends_key event ≡ false → IsRising numbers'
    → Sets numbers numbers' (key_of event) (Some n) → Changes table table' n (Some event)
    → queue.Sets due due' n moment → queue.IsRising due'
    → ((now : ℕ) → now ≤ 2 ^ 40 → is_by now moment ≡ is_late now event) → IsStored numbers' table' due' (count + 1)
put-stored numbers numbers' table table' due due' count event n moment stored none vacant current rising sets changes
    scheduled ordered late = record {
      linked = put-linked numbers numbers' table table' event n stored.linked none vacant current rising sets changes;
      timed = timed-set table table' due due' n (Some event) moment stored.timed changes scheduled late;
      ordered = ordered;
      counted =
          (let more : length numbers' ≡ suc (length numbers) =
          one_more_key numbers numbers' (key_of event) n stored.linked.rising rising none sets in
          omega (arith, more, stored.counted));
    }

-- an event replaces the one under its number, which has the same key
pub replace-stored : (numbers : Numbers) (table table' : List (Option Event)) (due due' : List (ℕ × ℕ)) (count : ℕ)
    (event : Event) (n : ℕ) (moment : Option ℕ)
    → IsStored numbers table due count
    → number_at (key_of event) numbers ≡ Some n → ends_key event ≡ false → Changes table table' n (Some event)
    → queue.Sets due due' n moment → queue.IsRising due'
    → ((now : ℕ) → now ≤ 2 ^ 40 → is_by now moment ≡ is_late now event) → IsStored numbers table' due' count
replace-stored numbers table table' due due' count event n moment stored at current changes scheduled ordered
    late = record {
      linked = replace-linked numbers table table' event n stored.linked at current changes;
      timed = timed-set table table' due due' n (Some event) moment stored.timed changes scheduled late;
      ordered = ordered;
      counted = stored.counted;
    }
