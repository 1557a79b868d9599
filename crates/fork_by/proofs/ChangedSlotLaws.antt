-- A slot with another moment or index, and the label of its number.
use Rattle.std.proofs.Common.{◌≡◌, ℕ, ◌<◌, Bool, true, false, cond, eqb, List, Option, None, Some, IsSome, arith, refl}
use Rattle.std.proofs.Common.{sym, ◌∙◌, ap}
use Rattle.ev_types.specs.declared.value.Value.{Value}
use Rattle.linked_slots.proofs.ListLaws.{eqb-same, eqb-true}
use Rattle.tick_schedule.specs.Queue.{moment_at}
use Rattle.fork_by.specs.declared.slots.Slot.{Slot}
use Rattle.fork_by.specs.Labels.{Label}
use Rattle.fork_by.specs.Register.{is_number, label_with}
use Rattle.fork_by.specs.Slots.{slot_at, index_in, place_in, order_in, moment_in, held, with_index, at_moment}

abbrev pub label_from : List Value → ℕ → ℕ → ℕ → Option ℕ → Label
label_from key number index moment due =
    record { key = key; number = number; index = index; moment = moment; due = due }

pub label-same : (key key' : List Value) (number index index' moment : ℕ) (due due' : Option ℕ) → key ≡ key'
    → index ≡ index' → due ≡ due'
    → label_from key number index moment due ≡ label_from key' number index' moment due'
label-same key key' number index index' moment due due' k i d =
    ap (λ (x : List Value). label_from x number index moment due) k
    ∙ ap (λ (x : ℕ). label_from key' number x moment due) i
    ∙ ap (λ (x : Option ℕ). label_from key' number index' moment x) d

pub no_moment : (o : Option ℕ) (n : ℕ) → (IsSome o → 0 < n) → n ≡ 0 → o ≡ None
no_moment None n h none = refl
no_moment (Some moment) n h none = absurd (let more : 0 < n = h refl in omega (arith, more, none))

-- ---- a slot with another moment or index
pub place-dated : (b : Bool) (moment : ℕ) (slot : Option Slot)
    → place_in (cond b (at_moment moment slot) slot) ≡ place_in slot
place-dated true moment None = refl
place-dated true moment (Some slot) = refl
place-dated false moment slot = refl

pub order-dated : (b : Bool) (moment : ℕ) (slot : Option Slot)
    → order_in (cond b (at_moment moment slot) slot) ≡ order_in slot
order-dated true moment None = refl
order-dated true moment (Some slot) = refl
order-dated false moment slot = refl

pub held-dated : (b : Bool) (moment : ℕ) (slot : Option Slot) → held (cond b (at_moment moment slot) slot) ≡ held slot
held-dated true moment None = refl
held-dated true moment (Some slot) = refl
held-dated false moment slot = refl

pub label-dated : (entries : List (List Value × ℕ)) (due : List (ℕ × ℕ)) (q : ℕ) (b : Bool) (moment : ℕ)
    (slot : Option Slot)
    → 0 < held slot
    → label_with entries due q (cond b (at_moment moment slot) slot)
    ≡ cond b (record (label_with entries due q slot) { moment = moment }) (label_with entries due q slot)
label-dated entries due q b moment None h = absurd (omega (arith, h))
label-dated entries due q true moment (Some slot) h = refl
label-dated entries due q false moment (Some slot) h = refl

-- whether the slot has this index
abbrev pub sits : ℕ → Option Slot → Bool
sits last None = false
sits last (Some slot) = eqb slot.index last

pub held-moved : (b : Bool) (index : ℕ) (slot : Option Slot) → held (cond b (with_index index slot) slot) ≡ held slot
held-moved true index None = refl
held-moved true index (Some slot) = refl
held-moved false index slot = refl

pub order-moved : (b : Bool) (index : ℕ) (slot : Option Slot)
    → order_in (cond b (with_index index slot) slot) ≡ order_in slot
order-moved true index None = refl
order-moved true index (Some slot) = refl
order-moved false index slot = refl

pub moment-moved : (b : Bool) (index : ℕ) (slot : Option Slot)
    → moment_in (cond b (with_index index slot) slot) ≡ moment_in slot
moment-moved true index None = refl
moment-moved true index (Some slot) = refl
moment-moved false index slot = refl

pub sits-place : (last : ℕ) (slot : Option Slot) → sits last slot ≡ true → place_in slot ≡ Some last
sits-place last None h = absurd (cc)
sits-place last (Some slot) h = ap Some (eqb-true slot.index last h)

pub place-sits : (last : ℕ) (slot : Option Slot) → place_in slot ≡ Some last → sits last slot ≡ true
place-sits last None h = absurd (cc)
place-sits last (Some slot) h = let is : slot.index ≡ last = cc in ap (λ n. eqb n last) is ∙ eqb-same last

pub is-number : (q : ℕ) (o : Option ℕ) → o ≡ Some q → is_number q o ≡ true
is-number q None h = absurd (cc)
is-number q (Some n) h = let is : n ≡ q = cc in ap (eqb q) is ∙ eqb-same q

pub number-is : (q : ℕ) (o : Option ℕ) → is_number q o ≡ true → o ≡ Some q
number-is q None h = absurd (cc)
number-is q (Some n) h = ap Some (sym (eqb-true q n h))

-- the label of a number with another key
abbrev pub keyed_with : List (Option Slot) → List (ℕ × ℕ) → ℕ → List Value → Label
keyed_with slots due q key = record {
  key = key;
  number = q;
  index = index_in (slot_at q slots);
  moment = moment_in (slot_at q slots);
  due = moment_at q due;
}
