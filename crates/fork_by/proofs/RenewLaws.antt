-- Orders that are given anew.
use Rattle.std.proofs.Common.{◌≡◌, ℕ, suc, zero, ◌+◌, ◌<◌, ◌≤◌, Bool, true, false, cond, ◌||◌, eqb, List, [], ◌∷◌, ◌++◌}
use Rattle.std.proofs.Common.{filter, length, get_or, take, Option, None, Some, arith, refl, sym, ◌∙◌, ap, inl, inr}
use Rattle.std.proofs.lemmas.List.{take_more}
use Rattle.std.specs.BTreeMap.{is_at}
use Rattle.std.specs.List.{list_any}
use Rattle.std.specs.Map.{values_of}
use Rattle.std.specs.Ordering.{nat_cmp}
use Rattle.ev_types.specs.declared.value.Value.{Value}
use Rattle.linked_slots.specs.IdLists.{times_in, list_at}
use Rattle.linked_slots.proofs.ListLaws.{bool_cases, eqb-same, eqb-true, eqb-false, eqb-apart, all_listed}
use Rattle.tick_schedule.proofs.QueueLaws.{at-same, at-true}
use Rattle.fork_by.specs.declared.slots.Slot.{Slot}
use Rattle.fork_by.specs.Order.{Pairwise, put_all}
use Rattle.fork_by.specs.Labels.{Label}
use Rattle.fork_by.specs.Register.{AreKept, label_of, label_with, labels_of, number_at}
use Rattle.fork_by.specs.Renew.{AreOrdered, Renews, renewed}
use Rattle.fork_by.specs.Slots.{slot_at, SetsSlot, held, index_in, moment_in, order_in, place_in, with_order}
use Rattle.fork_by.proofs.KeptLaws.{numbered, once, place_held}
use Rattle.fork_by.proofs.ListLaws.{map-agree, pairs-agree, taken, times-head, times-rest, times-tail}
use Rattle.fork_by.proofs.OrderLaws.{put-in_order}

-- ---- one number more
pub renewed-push : (q order : ℕ) (numbers : List ℕ) (number : ℕ) (slot : Option Slot)
    → renewed q order (numbers ++ number ∷ []) slot
    ≡ cond (eqb q number) (with_order (order + length numbers) (renewed q order numbers slot))
    (renewed q order numbers slot)
renewed-push q order [] number slot =
    let same : order ≡ order + 0 = omega arith in
    ap (λ n. cond (eqb q number) (with_order n slot) slot) same
renewed-push q order (first ∷ numbers) number slot =
    let next : Option Slot = cond (eqb q first) (with_order order slot) slot in
    let same : suc order + length numbers ≡ order + suc (length numbers) = omega arith in
    renewed-push q (suc order) numbers number next
    ∙ ap
    (λ n. cond (eqb q number) (with_order n (renewed q (suc order) numbers next)) (renewed q (suc order) numbers next))
    same

pub renewed-step : (old slots new : List (Option Slot)) (list : List ℕ) (i n : ℕ) → i < length list
    → n ≡ get_or list i n → SetsSlot slots new n (with_order i (slot_at n slots))
    → ((q : ℕ) → slot_at q slots ≡ renewed q 0 (take i list) (slot_at q old)) → (q : ℕ)
    → slot_at q new ≡ renewed q 0 (take (i + 1) list) (slot_at q old)
renewed-step old slots new list i n within is sets so_far q =
    let count : length (take i list) ≡ i = taken i list (omega (arith, within)) in
    let more : take (i + 1) list ≡ take i list ++ n ∷ [] =
    take_more list i n within ∙ ap (λ (m : ℕ). take i list ++ m ∷ []) (sym is) in
    let slot : Option Slot = slot_at q old in
    sets q
    ∙ same (eqb q n) refl
    ∙ ap (λ (o : Option Slot). cond (eqb q n) (with_order i o) o) (so_far q)
    ∙ ap (λ (m : ℕ). cond (eqb q n) (with_order m (renewed q 0 (take i list) slot)) (renewed q 0 (take i list) slot))
    (let e : i ≡ 0 + length (take i list) = omega (arith, count) in e)
    ∙ sym (renewed-push q 0 (take i list) n slot)
    ∙ ap (λ (ns : List ℕ). renewed q 0 ns slot) (sym more)
  where
    same : (b : Bool) → eqb q n ≡ b
        → cond b (with_order i (slot_at n slots)) (slot_at q slots)
        ≡ cond b (with_order i (slot_at q slots)) (slot_at q slots)
    same true at = ap (λ (m : ℕ). with_order i (slot_at m slots)) (sym (eqb-true q n at))
    same false at = refl

place-ordered : (b : Bool) (order : ℕ) (slot : Option Slot)
    → place_in (cond b (with_order order slot) slot) ≡ place_in slot
place-ordered true order None = refl
place-ordered true order (Some slot) = refl
place-ordered false order slot = refl

moment-ordered : (b : Bool) (order : ℕ) (slot : Option Slot)
    → moment_in (cond b (with_order order slot) slot) ≡ moment_in slot
moment-ordered true order None = refl
moment-ordered true order (Some slot) = refl
moment-ordered false order slot = refl

held-ordered : (b : Bool) (order : ℕ) (slot : Option Slot) → held (cond b (with_order order slot) slot) ≡ held slot
held-ordered true order None = refl
held-ordered true order (Some slot) = refl
held-ordered false order slot = refl

renewed-place : (q order : ℕ) (numbers : List ℕ) (slot : Option Slot)
    → place_in (renewed q order numbers slot) ≡ place_in slot
renewed-place q order [] slot = refl
renewed-place q order (n ∷ numbers) slot =
    renewed-place q (suc order) numbers (cond (eqb q n) (with_order order slot) slot)
    ∙ place-ordered (eqb q n) order slot

renewed-moment : (q order : ℕ) (numbers : List ℕ) (slot : Option Slot)
    → moment_in (renewed q order numbers slot) ≡ moment_in slot
renewed-moment q order [] slot = refl
renewed-moment q order (n ∷ numbers) slot =
    renewed-moment q (suc order) numbers (cond (eqb q n) (with_order order slot) slot)
    ∙ moment-ordered (eqb q n) order slot

renewed-absent : (q order : ℕ) (numbers : List ℕ) (slot : Option Slot) → times_in q numbers ≡ 0
    → renewed q order numbers slot ≡ slot
renewed-absent q order [] slot none = refl
renewed-absent q order (n ∷ numbers) slot none =
    elim (bool_cases (eqb n q)) [
      | inl here ↦
          absurd
          (let one : times_in q (n ∷ numbers) ≡ suc (times_in q numbers) = rw here refl in omega (arith, one, none))
      | inr apart ↦ (
          let rest : times_in q numbers ≡ 0 =
          let same : times_in q (n ∷ numbers) ≡ times_in q numbers = rw apart refl in sym same ∙ none in
          let other : eqb q n ≡ false = eqb-false q n (λ e. eqb-apart n q apart (sym e)) in
          renewed-absent q (suc order) numbers (cond (eqb q n) (with_order order slot) slot) rest ∙ rw other refl)
    ]

order-given : (order : ℕ) (slot : Option Slot) → 0 < held slot → order_in (with_order order slot) ≡ order
order-given order None h = absurd (omega (arith, h))
order-given order (Some slot) h = refl

-- ---- the orders are between the first and the last
record IsBetween (low order high : ℕ) : Type 0 where
  from : low ≤ order
  to : order < high

between : (q order : ℕ) (numbers : List ℕ) (slot : Option Slot) → 0 < held slot → ((n : ℕ) → times_in n numbers ≤ 1)
    → 0 < times_in q numbers
    → IsBetween order (order_in (renewed q order numbers slot)) (order + length numbers)
between q order [] slot h once more = absurd (omega (arith, more))
between q order (n ∷ numbers) slot h once more =
    elim (bool_cases (eqb n q)) [
      | inl here ↦ (
          let same : eqb q n ≡ true = ap (λ m. eqb m n) (sym (eqb-true n q here)) ∙ eqb-same n in
          let none : times_in q numbers ≡ 0 =
          let one : times_in q (n ∷ numbers) ≡ suc (times_in q numbers) = rw here refl in
          let most : times_in q (n ∷ numbers) ≤ 1 = once q in
          omega (arith, one, most) in
          let is : order_in (renewed q (suc order) numbers (cond (eqb q n) (with_order order slot) slot)) ≡ order =
          ap order_in (renewed-absent q (suc order) numbers (cond (eqb q n) (with_order order slot) slot) none)
          ∙ ap (λ b. order_in (cond b (with_order order slot) slot)) same ∙ order-given order slot h in
          record { from = omega (arith, is); to = omega (arith, is) })
      | inr apart ↦ (
          let is_held : 0 < held (cond (eqb q n) (with_order order slot) slot) =
          let same : held (cond (eqb q n) (with_order order slot) slot) ≡ held slot =
          held-ordered (eqb q n) order slot in
          omega (arith, same, h) in
          let rest =
          between q (suc order) numbers (cond (eqb q n) (with_order order slot) slot) is_held
          (λ m. fewer m (eqb n m) refl (once m)) (times-rest q n numbers apart more) in
          record { from = omega (arith, rest.from); to = omega (arith, rest.to) })
    ]
  where
    fewer : (m : ℕ) (b : Bool) → eqb n m ≡ b → times_in m (n ∷ numbers) ≤ 1 → times_in m numbers ≤ 1
    fewer m true at most =
        let one : times_in m (n ∷ numbers) ≡ suc (times_in m numbers) = rw at refl in omega (arith, one, most)
    fewer m false at most =
        let one : times_in m (n ∷ numbers) ≡ times_in m numbers = rw at refl in omega (arith, one, most)

-- the slots after the first number got its order
abbrev after_first : (ℕ → Option Slot) → ℕ → ℕ → ℕ → Option Slot
after_first f order n q = cond (eqb q n) (with_order order (f q)) (f q)

fewer-rest : (n : ℕ) (numbers : List ℕ) → ((q : ℕ) → times_in q (n ∷ numbers) ≤ 1) → (q : ℕ) → times_in q numbers ≤ 1
fewer-rest n numbers once q = known (eqb n q) refl
  where
    known : (b : Bool) → eqb n q ≡ b → times_in q numbers ≤ 1
    known true at =
        let one : times_in q (n ∷ numbers) ≡ suc (times_in q numbers) = rw at refl in
        let most : times_in q (n ∷ numbers) ≤ 1 = once q in
        omega (arith, one, most)
    known false at =
        let one : times_in q (n ∷ numbers) ≡ times_in q numbers = rw at refl in
        let most : times_in q (n ∷ numbers) ≤ 1 = once q in
        omega (arith, one, most)

none-later : (n : ℕ) (numbers : List ℕ) → ((q : ℕ) → times_in q (n ∷ numbers) ≤ 1) → times_in n numbers ≡ 0
none-later n numbers once =
    let one : times_in n (n ∷ numbers) ≡ suc (times_in n numbers) = rw (eqb-same n) refl in
    let most : times_in n (n ∷ numbers) ≤ 1 = once n in
    omega (arith, one, most)

after-held : (f : ℕ → Option Slot) (order n q : ℕ) → 0 < held (f q) → 0 < held (after_first f order n q)
after-held f order n q h =
    let same : held (after_first f order n q) ≡ held (f q) = held-ordered (eqb q n) order (f q) in
    omega (arith, same, h)

rise-from : (f : ℕ → Option Slot) (order : ℕ) (numbers : List ℕ) → ((q : ℕ) → 0 < times_in q numbers → 0 < held (f q))
    → ((q : ℕ) → times_in q numbers ≤ 1)
    → Pairwise (λ a b. order_in (renewed a order numbers (f a)) < order_in (renewed b order numbers (f b))) numbers
rise-from f order [] live once = tt
rise-from f order (n ∷ numbers) live once = (
  all_listed (λ b. order_in (renewed n order (n ∷ numbers) (f n)) < order_in (renewed b order (n ∷ numbers) (f b)))
      numbers (λ b more.
      let first : order_in (renewed n (suc order) numbers (after_first f order n n)) ≡ order =
      ap order_in (renewed-absent n (suc order) numbers (after_first f order n n) (none-later n numbers once))
      ∙ ap (λ t. order_in (cond t (with_order order (f n)) (f n))) (eqb-same n)
      ∙ order-given order (f n) (live n (times-head n numbers)) in
      let later =
      between b (suc order) numbers (after_first f order n b)
      (after-held f order n b (live b (times-tail b n numbers more))) (fewer-rest n numbers once) more in
      let from : suc order ≤ order_in (renewed b (suc order) numbers (after_first f order n b)) = later.from in
      omega (arith, first, from)),
  rise-from (after_first f order n) (suc order) numbers
      (λ q more. after-held f order n q (live q (times-tail q n numbers more))) (fewer-rest n numbers once),
)

-- ---- numbers of keys
any-value : (entries : List (List Value × ℕ)) (i q : ℕ) → number_at i entries ≡ Some q
    → list_any (is_at (nat_cmp q)) (values_of entries) ≡ true
any-value [] i q h = absurd (cc)
any-value (e ∷ entries) zero q h =
    let is : e.1 ≡ q = cc in
    ap (λ n. is_at (nat_cmp q) n || list_any (is_at (nat_cmp q)) (values_of entries)) is ∙ rw (at-same q) refl
any-value (e ∷ entries) (suc i) q h =
    ap (λ b. is_at (nat_cmp q) e.1 || b) (any-value entries i q h) ∙ or-true (is_at (nat_cmp q) e.1)
  where
    or-true : (b : Bool) → (b || true) ≡ true
    or-true true = refl
    or-true false = refl

record IsAtIndex (entries : List (List Value × ℕ)) (q : ℕ) : Type 0 where
  index : ℕ
  is : number_at index entries ≡ Some q

value-any : (entries : List (List Value × ℕ)) (q : ℕ) → list_any (is_at (nat_cmp q)) (values_of entries) ≡ true
    → IsAtIndex entries q
value-any [] q h = absurd (cc)
value-any (e ∷ entries) q h =
    elim (bool_cases (is_at (nat_cmp q) e.1)) [
      | inl here ↦ record { index = 0; is = ap Some (sym (at-true q e.1 here)) }
      | inr apart ↦
          (let rest =
          value-any entries q (sym (ap (λ b. b || list_any (is_at (nat_cmp q)) (values_of entries)) apart) ∙ h) in
          record { index = suc rest.index; is = rest.is })
    ]

filter-every : (p : ℕ → Bool) (numbers : List ℕ) → ((q : ℕ) → 0 < times_in q numbers → p q ≡ true)
    → filter p numbers ≡ numbers
filter-every p [] h = refl
filter-every p (n ∷ numbers) h =
    rw (h n (times-head n numbers))
    (ap (λ rest. n ∷ rest) (filter-every p numbers (λ q more. h q (times-tail q n numbers more))))

-- ---- as the functions use them
held-most : (slot : Option Slot) → held slot ≤ 1
held-most None = omega arith
held-most (Some slot) = omega arith

pub renews : (slots slots' : List (Option Slot)) (entries : List (List Value × ℕ)) (next : ℕ) (numbers : List ℕ)
    (orders : List (ℕ × ℕ)) (list : List ℕ) (order : ℕ)
    → AreOrdered slots entries next numbers
    → orders ≡ put_all slots [] (values_of entries) → list ≡ values_of orders
    → ((q : ℕ) → slot_at q slots' ≡ renewed q 0 list (slot_at q slots)) → order ≡ length list
    → Renews slots slots' order numbers
renews slots slots' entries next numbers orders list order o is listed given count =
    let same : list ≡ numbers =
    listed ∙ ap (λ (es : List (ℕ × ℕ)). values_of es) is
    ∙ put-in_order slots numbers o.rise o.live (values_of entries) o.of_keys
    ∙ filter-every (λ n. list_any (is_at (nat_cmp n)) (values_of entries)) numbers o.have_keys in
    let at : (q : ℕ) → slot_at q slots' ≡ renewed q 0 numbers (slot_at q slots) =
    λ q. given q ∙ ap (λ (ns : List ℕ). renewed q 0 ns (slot_at q slots)) same in
    let once : (q : ℕ) → times_in q numbers ≤ 1 =
    λ q. (let live : times_in q numbers ≡ held (slot_at q slots) = o.live q in
    let most : held (slot_at q slots) ≤ 1 = held-most (slot_at q slots) in
    omega (arith, live, most)) in
    let has : (q : ℕ) → 0 < times_in q numbers → 0 < held (slot_at q slots) =
    λ q more.
    (let live : times_in q numbers ≡ held (slot_at q slots) = o.live q in omega (arith, live, more)) in record {
      places = λ q. ap place_in (at q) ∙ renewed-place q 0 numbers (slot_at q slots);
      moments = λ q. ap moment_in (at q) ∙ renewed-moment q 0 numbers (slot_at q slots);
      rise =
          pairs-agree
          (λ a b. order_in (renewed a 0 numbers (slot_at a slots)) < order_in (renewed b 0 numbers (slot_at b slots)))
          (λ a b. order_in (slot_at a slots') < order_in (slot_at b slots')) numbers
          (λ a b in_a in_b less.
          let same_a : order_in (slot_at a slots') ≡ order_in (renewed a 0 numbers (slot_at a slots)) =
          ap order_in (at a) in
          let same_b : order_in (slot_at b slots') ≡ order_in (renewed b 0 numbers (slot_at b slots)) =
          ap order_in (at b) in
          omega (arith, less, same_a, same_b))
          (rise-from (λ q. slot_at q slots) 0 numbers has once);
      below = all_listed (λ q. order_in (slot_at q slots') < order) numbers (λ q more.
          let within = between q 0 numbers (slot_at q slots) (has q more) once more in
          let less : order_in (renewed q 0 numbers (slot_at q slots)) < 0 + length numbers = within.to in
          let is_order : order_in (slot_at q slots') ≡ order_in (renewed q 0 numbers (slot_at q slots)) =
          ap order_in (at q) in
          let many : length list ≡ length numbers = ap (λ (ns : List ℕ). length ns) same in
          omega (arith, less, is_order, many, count));
    }

held-place : (a b : Option Slot) → place_in a ≡ place_in b → held a ≡ held b
held-place None None h = refl
held-place None (Some b) h = absurd (cc)
held-place (Some a) None h = absurd (cc)
held-place (Some a) (Some b) h = refl

index-place : (a b : Option Slot) → place_in a ≡ place_in b → index_in a ≡ index_in b
index-place None None h = refl
index-place None (Some b) h = absurd (cc)
index-place (Some a) None h = absurd (cc)
index-place (Some a) (Some b) h = cc

-- the label of a slot at an index, with a moment
abbrev label_at_index : List (List Value × ℕ) → List (ℕ × ℕ) → ℕ → ℕ → ℕ → Label
label_at_index entries due q i m = label_with entries due q (Some (record { index = i; order = 0; moment = m }))

label-parts : (entries : List (List Value × ℕ)) (due : List (ℕ × ℕ)) (q : ℕ) (a b : Option Slot)
    → place_in a ≡ place_in b → moment_in a ≡ moment_in b → label_with entries due q a ≡ label_with entries due q b
label-parts entries due q None None p m = refl
label-parts entries due q None (Some b) p m = absurd (cc)
label-parts entries due q (Some a) None p m = absurd (cc)
label-parts entries due q (Some a) (Some b) p m =
    let i : a.index ≡ b.index = cc in
    ap (λ n. label_at_index entries due q n a.moment) i ∙ ap (λ n. label_at_index entries due q b.index n) m

module _ (entries : List (List Value × ℕ)) (slots : List (Option Slot)) (lists : List (List ℕ)) (due : List (ℕ × ℕ))
    (next : ℕ) (numbers : List ℕ)
    (k : AreKept entries slots lists due next numbers) where
  pub are-ordered : AreOrdered slots entries next numbers
  are-ordered = record {
    live = k.live;
    rise = k.orders;
    below = k.below;
    have_keys =
        λ q more.
        any-value entries (index_in (slot_at q slots)) q (numbered entries slots lists due next numbers k q more);
    of_keys = λ q any. (let at = value-any entries q any in
        let more : 0 < held (slot_at q slots) = place_held (slot_at q slots) at.index (k.tied.owned q at.index at.is) in
        let live : times_in q numbers ≡ held (slot_at q slots) = k.live q in omega (arith, more, live));
  }

  module _ (slots' : List (Option Slot)) (order : ℕ) (r : Renews slots slots' order numbers) where
    pub renewed-kept : AreKept entries slots' lists due order numbers
    renewed-kept = record {
      one_list = k.one_list;
      listed = k.listed;
      live = λ q. k.live q ∙ sym (held-place (slot_at q slots') (slot_at q slots) (r.places q));
      many = k.many;
      tied = record {
        placed = λ q i h. k.tied.placed q i (sym (r.places q) ∙ h);
        owned = λ q i h. r.places q ∙ k.tied.owned q i h;
      };
      keys = k.keys;
      orders = r.rise;
      below = r.below;
      moments =
          pairs-agree (λ one later. moment_in (slot_at one slots) ≤ moment_in (slot_at later slots))
          (λ one later. moment_in (slot_at one slots') ≤ moment_in (slot_at later slots')) (list_at lists 0)
          (λ a b in_a in_b less.
          let same_a : moment_in (slot_at a slots') ≡ moment_in (slot_at a slots) = r.moments a in
          let same_b : moment_in (slot_at b slots') ≡ moment_in (slot_at b slots) = r.moments b in
          omega (arith, less, same_a, same_b))
          k.moments;
      due_live = k.due_live;
      due_rises = k.due_rises;
    }

    pub renewed-labels : labels_of entries slots' due numbers ≡ labels_of entries slots due numbers
    renewed-labels =
        map-agree (label_of entries slots' due) (label_of entries slots due) numbers
        (λ q more. label-parts entries due q (slot_at q slots') (slot_at q slots) (r.places q) (r.moments q))
