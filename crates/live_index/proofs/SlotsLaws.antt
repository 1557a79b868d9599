-- What a change keeps of the numbers and the events under them.
use Rattle.std.proofs.Common.{◌≡◌, ℕ, ◌↔◌, IsTrue, Bool, true, false, cond, eqb, List, [], Option, None, Some, IfSome}
use Rattle.std.proofs.Common.{refl, sym, ap, ◌∙◌}
use Rattle.std.specs.List.Sorted.{IsStrictlySortedBy}
use Rattle.std.specs.Map.{values_of}
use Rattle.std.specs.Option.{option_map, IsSome}
use Rattle.std.proofs.lemmas.Bool.{eqb-true, eqb-false, iff_false}
use Rattle.ev_types.specs.declared.event.Event.{Event}
use Rattle.ev_types.specs.Expiry.{ends_key}
use Rattle.key_map.specs.Keys.{IndexKey, Numbers, number_at, IsRising, Sets}
use Rattle.linked_slots.specs.Table.{value_at, IsLive, Changes}
use Rattle.live_index.specs.Slots.{key_of, slot_at, event_of, events_in, events_unless, IsLinked, Puts}
use Rattle.live_index.proofs.LinkLaws.{key_total, exact-key, same, same-is, same-self, in_slot, end-found, end-placed}
use Rattle.live_index.proofs.LinkLaws.{end-puts, put-found, put-placed, put-puts, replace-found, replace-placed}
use Rattle.live_index.proofs.LinkLaws.{replace-puts}
use Rattle.live_index.proofs.PairLaws.{same_pairs}

slot-is : (table : List (Option Event)) (r : Option ℕ) → slot_at table r ≡ in_slot (value_at table) r
slot-is table None = refl
slot-is table (Some n) = refl

some-is : (slot : Option Event) (k : IndexKey) → option_map key_of slot ≡ Some k → IsSome slot
some-is None k h = absurd (cc)
some-is (Some e) k h = refl

-- the number of a key has an event
pub live_found : (numbers : Numbers) (table : List (Option Event)) (k : IndexKey) (n : ℕ) → IsLinked numbers table
    → number_at k numbers ≡ Some n → IsLive table n
live_found numbers table k n linked at = some-is (value_at table n) k (linked.found k n at)

pub now_absent : (numbers numbers' : Numbers) (k : IndexKey) → Sets numbers numbers' k None
    → number_at k numbers' ≡ None
now_absent numbers numbers' k sets = sets k ∙ ap (λ b. cond b None (number_at k numbers)) (same-self k)

-- no numbers rise
pub none_rise : IsRising []
unfolding IsStrictlySortedBy
none_rise = tt

-- ---- a key that had no number

same-numbers : (numbers numbers' : Numbers) (k : IndexKey) → number_at k numbers ≡ None → Sets numbers numbers' k None
    → (q : IndexKey) → number_at q numbers' ≡ number_at q numbers
same-numbers numbers numbers' k none sets q = sets q ∙ same_by (same k q) refl
  where
    same_by : (b : Bool) → same k q ≡ b → cond (same k q) None (number_at q numbers) ≡ number_at q numbers
    same_by true is =
        ap (λ b. cond b None (number_at q numbers)) is
        ∙ sym (ap (λ k. number_at k numbers) (sym (same-is k q is)) ∙ none)
    same_by false apart = ap (λ b. cond b None (number_at q numbers)) apart

pub unchanged : (numbers numbers' : Numbers) (k : IndexKey) → IsRising numbers → IsRising numbers'
    → number_at k numbers ≡ None → Sets numbers numbers' k None → numbers' ≡ numbers
unchanged numbers numbers' k rising rising' none sets =
    same_pairs key_total exact-key numbers' numbers rising' rising (same-numbers numbers numbers' k none sets)

-- the list of the numbers is that of the same numbers
pub still_listed : (order : Option (List ℕ)) (numbers numbers' : Numbers) → numbers' ≡ numbers
    → IfSome order (λ order. order ≡ values_of numbers) → IfSome order (λ order. order ≡ values_of numbers')
still_listed order numbers numbers' same is = rw same is

pub nothing_put : (numbers : Numbers) (table : List (Option Event)) (k : IndexKey) → number_at k numbers ≡ None
    → Puts k None numbers table numbers table
nothing_put numbers table k none q = put_by (same k q) refl
  where
    put_by : (b : Bool) → same k q ≡ b → event_of q numbers table ≡ cond (same k q) None (event_of q numbers table)
    put_by true is =
        ap (slot_at table) (ap (λ k. number_at k numbers) (sym (same-is k q is)) ∙ none)
        ∙ sym (ap (λ b. cond b None (event_of q numbers table)) is)
    put_by false apart = sym (ap (λ b. cond b None (event_of q numbers table)) apart)

-- ---- the event of a key is removed

pub end-linked : (numbers numbers' : Numbers) (table table' : List (Option Event)) (k : IndexKey) (n : ℕ)
    → IsLinked numbers table → number_at k numbers ≡ Some n
    → IsRising numbers' → Sets numbers numbers' k None → Changes table table' n None → IsLinked numbers' table'
end-linked numbers numbers' table table' k n linked at rising sets changes = record {
  rising = rising;
  found =
      end-found (λ q. number_at q numbers) (λ q. number_at q numbers') (value_at table) (value_at table') k n at
      linked.found linked.placed sets changes.changed changes.others;
  placed =
      end-placed (λ q. number_at q numbers) (λ q. number_at q numbers') (value_at table) (value_at table') k n at
      linked.found linked.placed sets changes.changed changes.others;
  current = λ m e h. current_by m e h (eqb m n) refl;
}
  where
    current_by : (m : ℕ) (e : Event) → value_at table' m ≡ Some e → (b : Bool) → eqb m n ≡ b → ends_key e ≡ false
    current_by m e h true is =
        absurd (let no : None ≡ Some e = sym changes.changed ∙ ap (value_at table') (sym (eqb-true m n is)) ∙ h in cc)
    current_by m e h false apart = linked.current m e (sym (changes.others m (eqb-false m n apart)) ∙ h)

pub end-put : (numbers numbers' : Numbers) (table table' : List (Option Event)) (k : IndexKey) (n : ℕ)
    → IsLinked numbers table → number_at k numbers ≡ Some n
    → Sets numbers numbers' k None → Changes table table' n None → Puts k None numbers table numbers' table'
end-put numbers numbers' table table' k n linked at sets changes q =
    slot-is table' (number_at q numbers')
    ∙ end-puts (λ q. number_at q numbers) (λ q. number_at q numbers') (value_at table) (value_at table') k n at
    linked.found linked.placed sets changes.changed changes.others q
    ∙ ap (λ r. cond (same k q) None r) (sym (slot-is table (number_at q numbers)))

-- ---- an event is put where its key has none

pub put-linked : (numbers numbers' : Numbers) (table table' : List (Option Event)) (event : Event) (n : ℕ)
    → IsLinked numbers table → number_at (key_of event) numbers ≡ None
    → value_at table n ≡ None → ends_key event ≡ false → IsRising numbers'
    → Sets numbers numbers' (key_of event) (Some n) → Changes table table' n (Some event) → IsLinked numbers' table'
put-linked numbers numbers' table table' event n linked none vacant current rising sets changes = record {
  rising = rising;
  found =
      put-found (λ q. number_at q numbers) (λ q. number_at q numbers') (value_at table) (value_at table') event n none
      vacant linked.found linked.placed sets changes.changed changes.others;
  placed =
      put-placed (λ q. number_at q numbers) (λ q. number_at q numbers') (value_at table) (value_at table') event n none
      vacant linked.found linked.placed sets changes.changed changes.others;
  current = λ m e h. current_by m e h (eqb m n) refl;
}
  where
    current_by : (m : ℕ) (e : Event) → value_at table' m ≡ Some e → (b : Bool) → eqb m n ≡ b → ends_key e ≡ false
    current_by m e h true is =
        let event_is : Some event ≡ Some e = sym changes.changed ∙ ap (value_at table') (sym (eqb-true m n is)) ∙ h in
        let same_event : event ≡ e = cc in ap ends_key (sym same_event) ∙ current
    current_by m e h false apart = linked.current m e (sym (changes.others m (eqb-false m n apart)) ∙ h)

pub put-put : (numbers numbers' : Numbers) (table table' : List (Option Event)) (event : Event) (n : ℕ)
    → IsLinked numbers table → number_at (key_of event) numbers ≡ None
    → value_at table n ≡ None → Sets numbers numbers' (key_of event) (Some n) → Changes table table' n (Some event)
    → Puts (key_of event) (Some event) numbers table numbers' table'
put-put numbers numbers' table table' event n linked none vacant sets changes q =
    slot-is table' (number_at q numbers')
    ∙ put-puts (λ q. number_at q numbers) (λ q. number_at q numbers') (value_at table) (value_at table') event n none
    vacant linked.found linked.placed sets changes.changed changes.others q
    ∙ ap (λ r. cond (same (key_of event) q) (Some event) r) (sym (slot-is table (number_at q numbers)))

-- ---- an event replaces the one of its key

pub replace-linked : (numbers : Numbers) (table table' : List (Option Event)) (event : Event) (n : ℕ)
    → IsLinked numbers table → number_at (key_of event) numbers ≡ Some n → ends_key event ≡ false
    → Changes table table' n (Some event) → IsLinked numbers table'
replace-linked numbers table table' event n linked at current changes = record {
  rising = linked.rising;
  found =
      replace-found (λ q. number_at q numbers) (value_at table) (value_at table') event n at linked.found linked.placed
      changes.changed changes.others;
  placed =
      replace-placed (λ q. number_at q numbers) (value_at table) (value_at table') event n at linked.found linked.placed
      changes.changed changes.others;
  current = λ m e h. current_by m e h (eqb m n) refl;
}
  where
    current_by : (m : ℕ) (e : Event) → value_at table' m ≡ Some e → (b : Bool) → eqb m n ≡ b → ends_key e ≡ false
    current_by m e h true is =
        let event_is : Some event ≡ Some e = sym changes.changed ∙ ap (value_at table') (sym (eqb-true m n is)) ∙ h in
        let same_event : event ≡ e = cc in ap ends_key (sym same_event) ∙ current
    current_by m e h false apart = linked.current m e (sym (changes.others m (eqb-false m n apart)) ∙ h)

pub replace-put : (numbers : Numbers) (table table' : List (Option Event)) (event : Event) (n : ℕ)
    → IsLinked numbers table → number_at (key_of event) numbers ≡ Some n
    → Changes table table' n (Some event) → Puts (key_of event) (Some event) numbers table numbers table'
replace-put numbers table table' event n linked at changes q =
    slot-is table' (number_at q numbers)
    ∙ replace-puts (λ q. number_at q numbers) (value_at table) (value_at table') event n at linked.found linked.placed
    changes.changed changes.others q
    ∙ ap (λ r. cond (same (key_of event) q) (Some event) r) (sym (slot-is table (number_at q numbers)))

-- ---- the view of an index that is not poisoned
pub not_poisoned : (poisoned : Bool) (numbers : Numbers) (table : List (Option Event)) → poisoned ≡ false
    → events_in numbers table ≡ events_unless poisoned numbers table
not_poisoned poisoned numbers table h = sym (ap (λ p. events_unless p numbers table) h)

abbrev pub key_by : Option (List ℕ) → Option (List ℕ) → IndexKey
key_by host service = (host, service)

pub key-is : (event : Event) (host service : Option (List ℕ)) → host ≡ event.host → service ≡ event.service
    → key_by host service ≡ key_of event
key-is event host service h s = ap (λ host. key_by host service) h ∙ ap (key_by event.host) s

-- ---- the event under a number is taken out

absent-slot : (slot : Option Event) (b : Bool) → IsTrue b ↔ IsSome slot → b ≡ false → None ≡ slot
absent-slot None b h f = refl
absent-slot (Some e) b h f = absurd (iff_false h f refl)

pub absent_slot : (table : List (Option Event)) (n : ℕ) (b : Bool) → IsTrue b ↔ IsLive table n → b ≡ false
    → None ≡ value_at table n
absent_slot table n b h f = absent-slot (value_at table n) b h f

pub absent_slots : (table : List (Option Event)) (n : ℕ) → None ≡ value_at table n → (m : ℕ)
    → value_at table m ≡ cond (eqb m n) None (value_at table m)
absent_slots table n none m = slots_by (eqb m n) refl
  where
    slots_by : (b : Bool) → eqb m n ≡ b → value_at table m ≡ cond (eqb m n) None (value_at table m)
    slots_by true is =
        ap (value_at table) (eqb-true m n is) ∙ sym none ∙ sym (ap (λ b. cond b None (value_at table m)) is)
    slots_by false apart = sym (ap (λ b. cond b None (value_at table m)) apart)

pub changed_slots : (table table' : List (Option Event)) (n : ℕ) → Changes table table' n None → (m : ℕ)
    → value_at table' m ≡ cond (eqb m n) None (value_at table m)
changed_slots table table' n changes m = slots_by (eqb m n) refl
  where
    slots_by : (b : Bool) → eqb m n ≡ b → value_at table' m ≡ cond (eqb m n) None (value_at table m)
    slots_by true is =
        ap (value_at table') (eqb-true m n is) ∙ changes.changed ∙ sym (ap (λ b. cond b None (value_at table m)) is)
    slots_by false apart = changes.others m (eqb-false m n apart) ∙ sym (ap (λ b. cond b None (value_at table m)) apart)
