-- How the labels of forks change, and what ties their parts.
use Rattle.std.proofs.Common.{◌≡◌, ◌≢◌, ℕ, suc, zero, ◌+◌, ◌<◌, ◌≤◌, ◌⊎◌, Bool, true, false, not, cond, eqb, List, []}
use Rattle.std.proofs.Common.{◌∷◌, ◌++◌, map, length, get_or, slice_get, unwrap_or, ◌↔◌, Option, None, Some, IsSome}
use Rattle.std.proofs.Common.{arith, refl, sym, ◌∙◌, ap, subst, inl, inr}
use Rattle.std.specs.List.{All, IsDistinct}
use Rattle.std.specs.Map.{keys_of, lookup}
use Rattle.std.specs.Option.{option_map}
use Rattle.std.proofs.lemmas.List.Elements.{All-from_recursion}
use Rattle.std.proofs.lemmas.Option.{slice_get_within, get_or_from_slice_get}
use Rattle.std.proofs.lemmas.Map.Keys.{apart_from_distinct}
use Rattle.ev_types.specs.declared.value.Value.{Value}
use Rattle.ev_types.specs.Key.{same_key}
use Rattle.ev_types.proofs.Values.{same_key_decides}
use Rattle.linked_slots.specs.IdLists.{list_at, times, times_in}
use Rattle.linked_slots.proofs.ListLaws.{bool_cases, eqb-same, eqb-true, eqb-false, eqb-apart, times_in-remove}
use Rattle.fork_by.specs.declared.slots.Change.{Change}
use Rattle.fork_by.specs.declared.slots.Change.TheVariants.{Added, Removed}
use Rattle.fork_by.specs.declared.slots.Slot.{Slot}
use Rattle.fork_by.specs.Labels.{Label, label_at, index_at, last_moment_at, AreSound, number_of}
use Rattle.fork_by.specs.Register.{AreKept, key_in, label_of, labels_of, number_at, numbers_from, removed}
use Rattle.fork_by.specs.Slots.{slot_at, index_in, place_in, moment_in, held}
use Rattle.fork_by.proofs.LabelLaws.{label_found, label_absent, all_labels, numbers_differ, keys_differ}
use Rattle.fork_by.proofs.ListLaws.{times-head, times-tail, times-rest, map-twice, map-length}

-- ---- one change more
pub numbers-added : (numbers : List ℕ) (changes : List (Change × Unit {0})) (number : ℕ)
    → numbers_from numbers (changes ++ (Added number, tt) ∷ []) ≡ numbers_from numbers changes ++ number ∷ []
numbers-added numbers [] number = refl
numbers-added numbers ((Added n, u) ∷ changes) number = numbers-added (numbers ++ n ∷ []) changes number
numbers-added numbers ((Removed n, u) ∷ changes) number = numbers-added (removed n numbers) changes number

pub numbers-removed : (numbers : List ℕ) (changes : List (Change × Unit {0})) (number : ℕ)
    → numbers_from numbers (changes ++ (Removed number, tt) ∷ []) ≡ removed number (numbers_from numbers changes)
numbers-removed numbers [] number = refl
numbers-removed numbers ((Added n, u) ∷ changes) number = numbers-removed (numbers ++ n ∷ []) changes number
numbers-removed numbers ((Removed n, u) ∷ changes) number = numbers-removed (removed n numbers) changes number

-- ---- slots
pub held_one : (slot : Option Slot) → held slot ≤ 1
held_one None = omega arith
held_one (Some slot) = omega arith

pub held_some : (slot : Option Slot) → 0 < held slot → (s : Slot) × (slot ≡ Some s)
held_some None h = absurd (omega (arith, h))
held_some (Some s) h = (s, refl)

pub is_some_held : (slot : Option Slot) → IsSome slot → 0 < held slot
is_some_held None h = absurd (cc)
is_some_held (Some s) h = omega arith

pub not_held : (slot : Option Slot) → held slot ≡ 0 → slot ≡ None
not_held None h = refl
not_held (Some s) h = absurd (omega (arith, h))

pub place_held : (slot : Option Slot) (i : ℕ) → place_in slot ≡ Some i → 0 < held slot
place_held None i h = absurd (cc)
place_held (Some s) i h = omega arith

pub placed_index : (slot : Option Slot) → 0 < held slot → place_in slot ≡ Some (index_in slot)
placed_index None h = absurd (omega (arith, h))
placed_index (Some s) h = refl

-- ---- lists
pub one_list : (q : ℕ) (lists : List (List ℕ)) → length lists ≡ 1 → times q lists ≡ times_in q (list_at lists 0)
one_list q [] h = absurd (omega (arith, h))
one_list q (xs ∷ []) h = omega arith
one_list q (xs ∷ (ys ∷ lists)) h = absurd (omega (arith, h))

pub length-removed : (n : ℕ) (xs : List ℕ) → length (removed n xs) + times_in n xs ≡ length xs
length-removed n [] = refl
length-removed n (x ∷ xs) =
    let rest : length (removed n xs) + times_in n xs ≡ length xs = length-removed n xs in
    elim (eqb x n) as (λ b. length (cond (not b) (x ∷ removed n xs) (removed n xs))
    + cond b (suc (times_in n xs)) (times_in n xs)
    ≡ suc (length xs))
    [ true ↦ omega (arith, rest) | false ↦ omega (arith, rest) ]

pub in_removed : (n q : ℕ) (xs : List ℕ) → 0 < times_in q (removed n xs) → (eqb q n ≡ false) × (0 < times_in q xs)
in_removed n q xs more =
    let is : times_in q (removed n xs) ≡ cond (eqb q n) 0 (times_in q xs) = times_in-remove n q xs in
    elim (bool_cases (eqb q n)) [
      | inl same ↦ absurd (let none : times_in q (removed n xs) ≡ 0 = is ∙ rw same refl in omega (arith, none, more))
      | inr apart ↦
          (apart, let at : times_in q (removed n xs) ≡ times_in q xs = is ∙ rw apart refl in omega (arith, at, more))
    ]

-- ---- keys by index
key-at : (entries : List (List Value × ℕ)) (index : ℕ) (entry : List Value × ℕ) → slice_get entries index ≡ Some entry
    → slice_get (keys_of entries) index ≡ Some entry.0
key-at [] index entry h = absurd (cc)
key-at (first ∷ entries) zero entry h = let is : first ≡ entry = cc in ap (λ (e : List Value × ℕ). Some e.0) is
key-at (first ∷ entries) (suc index) entry h = key-at entries index entry h

pub entry_at : (entries : List (List Value × ℕ)) (index number : ℕ) → number_at index entries ≡ Some number
    → (key : List Value) × (slice_get entries index ≡ Some (key, number))
entry_at entries index number h = known (slice_get entries index) refl
  where
    known : (entry : Option (List Value × ℕ)) → slice_get entries index ≡ entry
        → (key : List Value) × (slice_get entries index ≡ Some (key, number))
    known None e =
        absurd (let none : number_at index entries ≡ None =
        ap (λ (o : Option (List Value × ℕ)). option_map (λ entry. entry.1) o) e in
        cc)
    known (Some entry) e =
        let some : number_at index entries ≡ Some entry.1 =
        ap (λ (o : Option (List Value × ℕ)). option_map (λ entry. entry.1) o) e in
        let is : entry.1 ≡ number = cc in
        (entry.0, e ∙ ap (λ n. Some (entry.0, n)) is)

pub number_within : (entries : List (List Value × ℕ)) (index number : ℕ) → number_at index entries ≡ Some number
    → index < length entries
number_within entries index number h =
    let e = entry_at entries index number h in slice_get_within entries index (e.0, number) e.1

pub keys_apart : (entries : List (List Value × ℕ)) (i j : ℕ) (a b : List Value × ℕ)
    → IsDistinct same_key (keys_of entries)
    → slice_get entries i ≡ Some a → slice_get entries j ≡ Some b
    → i ≢ j → same_key a.0 b.0 ≡ false
keys_apart entries i j a b distinct at_i at_j apart =
    let is_i : get_or (keys_of entries) i [] ≡ a.0 =
    get_or_from_slice_get (keys_of entries) i a.0 [] (key-at entries i a at_i) in
    let is_j : get_or (keys_of entries) j [] ≡ b.0 =
    get_or_from_slice_get (keys_of entries) j b.0 [] (key-at entries j b at_j) in
    let in_i : i < length (keys_of entries) = slice_get_within (keys_of entries) i a.0 (key-at entries i a at_i) in
    let in_j : j < length (keys_of entries) = slice_get_within (keys_of entries) j b.0 (key-at entries j b at_j) in
    elim (order i j apart) [
      | inl less ↦
          ap (λ (k : List Value). same_key k b.0) (sym is_i) ∙ ap (same_key (get_or (keys_of entries) i [])) (sym is_j)
          ∙ apart_from_distinct same_key (keys_of entries) i j [] distinct less in_j
      | inr more ↦ differ (same_key a.0 b.0) refl
          (ap (λ (k : List Value). same_key k a.0) (sym is_j) ∙ ap (same_key (get_or (keys_of entries) j [])) (sym is_i)
          ∙ apart_from_distinct same_key (keys_of entries) j i [] distinct more in_i)
    ]
  where
    order : (i j : ℕ) → i ≢ j → (i < j) ⊎ (j < i)
    order i j h = grind arith

    differ : (t : Bool) → same_key a.0 b.0 ≡ t → same_key b.0 a.0 ≡ false → t ≡ false
    differ true same other = absurd (
        let is : a.0 ≡ b.0 = (same_key_decides a.0 b.0).0 same in
        let yes : same_key b.0 a.0 ≡ true =
        ap (λ (k : List Value). same_key k a.0) (sym is) ∙ ap (same_key a.0) is ∙ same in
        cc)
    differ false same other = refl

-- ---- look-ups
pub lookup_index : (test : List Value → Bool) (es : List (List Value × ℕ)) (v : ℕ) → lookup test es ≡ Some v
    → (i : ℕ) × (key : List Value) × (slice_get es i ≡ Some (key, v)) × (test key ≡ true)
lookup_index test [] v h = absurd (cc)
lookup_index test (e ∷ es) v h =
    elim (bool_cases (test e.0)) [
      | inl here ↦
          (let is : e.1 ≡ v = let some : lookup test (e ∷ es) ≡ Some e.1 = rw here refl in cc in
          (0, e.0, ap (λ n. Some (e.0, n)) is, here))
      | inr apart ↦
          (let rest = lookup_index test es v (sym (ap (λ b. cond b (Some e.1) (lookup test es)) apart) ∙ h) in
          (suc rest.0, rest.1, rest.2, rest.3))
    ]

pub lookup_some : (test : List Value → Bool) (es : List (List Value × ℕ)) (i v : ℕ) (key : List Value)
    → slice_get es i ≡ Some (key, v) → test key ≡ true → lookup test es ≡ None → ⊥
lookup_some test [] i v key h passes none = absurd (cc)
lookup_some test (e ∷ es) zero v key h passes none =
    let is : e ≡ (key, v) = cc in
    let here : test e.0 ≡ true = ap (λ (x : List Value × ℕ). test x.0) is ∙ passes in
    let some : lookup test (e ∷ es) ≡ Some e.1 = rw here refl in absurd (cc)
lookup_some test (e ∷ es) (suc i) v key h passes none =
    elim (bool_cases (test e.0)) [
      | inl here ↦ (let some : lookup test (e ∷ es) ≡ Some e.1 = rw here refl in absurd (cc))
      | inr apart ↦
          lookup_some test es i v key h passes (sym (ap (λ b. cond b (Some e.1) (lookup test es)) apart) ∙ none)
    ]

pairs_found : (test : List Value → Bool) (f : ℕ → List Value) (n : ℕ) (numbers : List ℕ) → 0 < times_in n numbers
    → test (f n) ≡ true
    → ((q : ℕ) → 0 < times_in q numbers → eqb q n ≡ false → test (f q) ≡ false)
    → lookup test (map (λ q. (f q, q)) numbers) ≡ Some n
pairs_found test f n [] more passes others = absurd (omega (arith, more))
pairs_found test f n (q ∷ numbers) more passes others =
    elim (bool_cases (eqb q n)) [
      | inl here ↦ (let is : q ≡ n = eqb-true q n here in
          let yes : test (f q) ≡ true = ap (λ m. test (f m)) is ∙ passes in
          ap (λ b. cond b (Some q) (lookup test (map (λ q. (f q, q)) numbers))) yes ∙ ap Some is)
      | inr apart ↦
          ap (λ b. cond b (Some q) (lookup test (map (λ q. (f q, q)) numbers))) (others q (times-head q numbers) apart)
          ∙ pairs_found test f n numbers (times-rest n q numbers apart more) passes
          (λ r in_r. others r (times-tail r q numbers in_r))
    ]

pairs_none : (test : List Value → Bool) (f : ℕ → List Value) (numbers : List ℕ)
    → ((q : ℕ) → 0 < times_in q numbers → test (f q) ≡ false) → lookup test (map (λ q. (f q, q)) numbers) ≡ None
pairs_none test f [] others = refl
pairs_none test f (q ∷ numbers) others =
    ap (λ b. cond b (Some q) (lookup test (map (λ q. (f q, q)) numbers))) (others q (times-head q numbers))
    ∙ pairs_none test f numbers (λ r in_r. others r (times-tail r q numbers in_r))

-- ---- the labels
module _ (entries : List (List Value × ℕ)) (slots : List (Option Slot)) (lists : List (List ℕ)) (due : List (ℕ × ℕ))
    (next : ℕ) (numbers : List ℕ)
    (k : AreKept entries slots lists due next numbers) where
  pub slot_held : (number : ℕ) → 0 < times_in number numbers → 0 < held (slot_at number slots)
  slot_held number more =
      let same : times_in number numbers ≡ held (slot_at number slots) = k.live number in omega (arith, same, more)

  pub once : (number : ℕ) → times_in number numbers ≤ 1
  once number =
      let same : times_in number numbers ≡ held (slot_at number slots) = k.live number in
      let one : held (slot_at number slots) ≤ 1 = held_one (slot_at number slots) in
      omega (arith, same, one)

  pub numbered : (number : ℕ) → 0 < times_in number numbers
      → number_at (index_in (slot_at number slots)) entries ≡ Some number
  numbered number more =
      k.tied.placed number (index_in (slot_at number slots))
      (placed_index (slot_at number slots) (slot_held number more))

  indices_apart : (a b : ℕ) → 0 < times_in a numbers → 0 < times_in b numbers
      → eqb (index_in (slot_at a slots)) (index_in (slot_at b slots)) ≡ eqb a b
  indices_apart a b in_a in_b =
      elim (bool_cases (eqb a b)) [
        | inl same ↦ (let is : a ≡ b = eqb-true a b same in
            ap (λ n. eqb (index_in (slot_at n slots)) (index_in (slot_at b slots))) is
            ∙ eqb-same (index_in (slot_at b slots)) ∙ sym same)
        | inr apart ↦
            eqb-false (index_in (slot_at a slots)) (index_in (slot_at b slots)) (λ e.
            let at_a : number_at (index_in (slot_at a slots)) entries ≡ Some a = numbered a in_a in
            let at_b : number_at (index_in (slot_at b slots)) entries ≡ Some b = numbered b in_b in
            let same : number_at (index_in (slot_at a slots)) entries ≡ number_at (index_in (slot_at b slots)) entries =
            ap (λ i. number_at i entries) e in
            let is : a ≡ b = cc in eqb-apart a b apart is)
            ∙ sym apart
      ]

  pub sound : AreSound (labels_of entries slots due numbers)
  sound = record {
    keys = subst (IsDistinct same_key) (sym (map-twice (λ (l : Label). l.key) (label_of entries slots due) numbers))
        (keys_differ (λ n. key_in (slice_get entries (index_in (slot_at n slots)))) numbers once (λ a b in_a in_b apart.
        let at_a = entry_at entries (index_in (slot_at a slots)) a (numbered a in_a) in
        let at_b = entry_at entries (index_in (slot_at b slots)) b (numbered b in_b) in
        ap
        (λ (o : Option (List Value × ℕ)). same_key (key_in o) (key_in (slice_get entries (index_in (slot_at b slots)))))
        at_a.1
        ∙ ap (λ (o : Option (List Value × ℕ)). same_key at_a.0 (key_in o)) at_b.1
        ∙ keys_apart entries (index_in (slot_at a slots)) (index_in (slot_at b slots)) (at_a.0, a) (at_b.0, b) k.keys
        at_a.1 at_b.1
        (eqb-apart (index_in (slot_at a slots)) (index_in (slot_at b slots)) (indices_apart a b in_a in_b ∙ apart))));
    numbers =
        subst (IsDistinct eqb)
        (sym (map-twice (λ (l : Label). l.number) (label_of entries slots due) numbers ∙ numbers-same numbers))
        (numbers_differ numbers once);
    indices =
        All-from_recursion
        (λ one.
        All (λ other. eqb one.index other.index ≡ eqb one.number other.number) (labels_of entries slots due numbers))
        (labels_of entries slots due numbers)
        (all_labels (label_of entries slots due) (λ n. refl)
        (λ one.
        All (λ other. eqb one.index other.index ≡ eqb one.number other.number) (labels_of entries slots due numbers))
        numbers (λ a in_a.
        All-from_recursion (λ other. eqb (index_in (slot_at a slots)) other.index ≡ eqb a other.number)
        (labels_of entries slots due numbers)
        (all_labels (label_of entries slots due) (λ n. refl)
        (λ other. eqb (index_in (slot_at a slots)) other.index ≡ eqb a other.number) numbers
        (λ b in_b. indices_apart a b in_a in_b))));
    within =
        All-from_recursion (λ (l : Label). l.index < length (labels_of entries slots due numbers))
        (labels_of entries slots due numbers)
        (all_labels (label_of entries slots due) (λ n. refl)
        (λ (l : Label). l.index < length (labels_of entries slots due numbers)) numbers (λ n more.
        let in_entries : index_in (slot_at n slots) < length entries =
        number_within entries (index_in (slot_at n slots)) n (numbered n more) in
        let many : length entries ≡ length numbers = k.many in
        let same : length (labels_of entries slots due numbers) ≡ length numbers =
        map-length (label_of entries slots due) numbers in
        omega (arith, in_entries, many, same)));
  }
    where
      numbers-same : (ns : List ℕ) → map (λ (n : ℕ). n) ns ≡ ns
      numbers-same [] = refl
      numbers-same (n ∷ ns) = ap (λ rest. n ∷ rest) (numbers-same ns)

  -- ---- what the labels tell
  pub found : (number : ℕ) → 0 < times_in number numbers
      → label_at number (labels_of entries slots due numbers) ≡ Some (label_of entries slots due number)
  found number more = label_found (label_of entries slots due) (λ n. refl) number numbers more

  pub absent : (number : ℕ) → times_in number numbers ≡ 0 → label_at number (labels_of entries slots due numbers) ≡ None
  absent number none = label_absent (label_of entries slots due) (λ n. refl) number numbers none

  pub live_in : (number : ℕ) → IsSome (label_at number (labels_of entries slots due numbers))
      → 0 < times_in number numbers
  live_in number some =
      elim (bool_cases (eqb (times_in number numbers) 0)) [
        | inl none ↦
            absurd (let is : label_at number (labels_of entries slots due numbers) ≡ None =
            absent number (eqb-true (times_in number numbers) 0 none) in
            none_some (label_at number (labels_of entries slots due numbers)) is some)
        | inr more ↦
            (let differ : times_in number numbers ≢ 0 = eqb-apart (times_in number numbers) 0 more in
            omega (arith, differ))
      ]
    where
      none_some : (l : Option Label) → l ≡ None → IsSome l → ⊥
      none_some None e h = absurd (cc)
      none_some (Some l) e h = absurd (cc)

  pub index_is : (number : ℕ)
      → unwrap_or (index_at number (labels_of entries slots due numbers)) 0 ≡ index_in (slot_at number slots)
  index_is number =
      elim (bool_cases (eqb (times_in number numbers) 0)) [
        | inl none ↦ (
            let zero_times : times_in number numbers ≡ 0 = eqb-true (times_in number numbers) 0 none in
            ap (λ (l : Option Label). unwrap_or (option_map (λ label. label.index) l) 0) (absent number zero_times)
            ∙ sym (ap index_in (not_held (slot_at number slots) (sym (k.live number) ∙ zero_times))))
        | inr more ↦ (let differ : times_in number numbers ≢ 0 = eqb-apart (times_in number numbers) 0 more in
            ap (λ (l : Option Label). unwrap_or (option_map (λ label. label.index) l) 0)
            (found number (omega (arith, differ))))
      ]

  pub moment_is : (number : ℕ)
      → unwrap_or (last_moment_at number (labels_of entries slots due numbers)) 0 ≡ moment_in (slot_at number slots)
  moment_is number =
      elim (bool_cases (eqb (times_in number numbers) 0)) [
        | inl none ↦ (
            let zero_times : times_in number numbers ≡ 0 = eqb-true (times_in number numbers) 0 none in
            ap (λ (l : Option Label). unwrap_or (option_map (λ label. label.moment) l) 0) (absent number zero_times)
            ∙ sym (ap moment_in (not_held (slot_at number slots) (sym (k.live number) ∙ zero_times))))
        | inr more ↦ (let differ : times_in number numbers ≢ 0 = eqb-apart (times_in number numbers) 0 more in
            ap (λ (l : Option Label). unwrap_or (option_map (λ label. label.moment) l) 0)
            (found number (omega (arith, differ))))
      ]

  pub live_is : (number : ℕ)
      → IsSome (slot_at number slots) ↔ IsSome (label_at number (labels_of entries slots due numbers))
  live_is number = (
    λ some. (let more : 0 < times_in number numbers =
        let is_held : 0 < held (slot_at number slots) = is_some_held (slot_at number slots) some in
        let same : times_in number numbers ≡ held (slot_at number slots) = k.live number in
        omega (arith, is_held, same) in
        subst (λ (l : Option Label). IsSome l) (sym (found number more)) refl),
    λ some. (let slot = held_some (slot_at number slots) (slot_held number (live_in number some)) in
        subst (λ (o : Option Slot). IsSome o) (sym slot.1) refl),
  )

  -- ---- the number of a key
  pub find_is : (key : List Value) → lookup (same_key key) entries ≡ number_of key (labels_of entries slots due numbers)
  find_is key =
      known (lookup (same_key key) entries) refl
      ∙ ap (lookup (same_key key))
      (sym (map-twice (λ (l : Label). (l.key, l.number)) (label_of entries slots due) numbers))
    where
      not_there : (q : ℕ) (other : List Value) → slice_get entries (index_in (slot_at q slots)) ≡ Some (other, q)
          → lookup (same_key key) entries ≡ None
          → (b : Bool) → same_key key (key_in (slice_get entries (index_in (slot_at q slots)))) ≡ b → b ≡ false
      not_there q other at_q none true passes =
          absurd (lookup_some (same_key key) entries (index_in (slot_at q slots)) q other at_q
          (sym (ap (λ (o : Option (List Value × ℕ)). same_key key (key_in o)) at_q) ∙ passes) none)
      not_there q other at_q none false passes = refl

      place_index : (slot : Option Slot) (i : ℕ) → place_in slot ≡ Some i → index_in slot ≡ i
      place_index None i h = absurd (cc)
      place_index (Some s) i h = cc

      placed_live : (n i : ℕ) → place_in (slot_at n slots) ≡ Some i → 0 < times_in n numbers
      placed_live n i h =
          let more : 0 < held (slot_at n slots) = place_held (slot_at n slots) i h in
          let same : times_in n numbers ≡ held (slot_at n slots) = k.live n in
          omega (arith, more, same)

      known : (o : Option ℕ) → lookup (same_key key) entries ≡ o
          → lookup (same_key key) entries
          ≡ lookup (same_key key) (map (λ n. (key_in (slice_get entries (index_in (slot_at n slots))), n)) numbers)
      known None none =
          none
          ∙ sym
          (pairs_none (same_key key) (λ n. key_in (slice_get entries (index_in (slot_at n slots)))) numbers (λ q in_q.
          let at_q = entry_at entries (index_in (slot_at q slots)) q (numbered q in_q) in
          not_there q at_q.0 at_q.1 none (same_key key (key_in (slice_get entries (index_in (slot_at q slots))))) refl))
      known (Some n) some =
          let at_n = lookup_index (same_key key) entries n some in
          let is : key ≡ at_n.1 = (same_key_decides key at_n.1).0 at_n.3 in
          let number : number_at at_n.0 entries ≡ Some n =
          ap (λ (o : Option (List Value × ℕ)). option_map (λ entry. entry.1) o) at_n.2 in
          let place : place_in (slot_at n slots) ≡ Some at_n.0 = k.tied.owned n at_n.0 number in
          let in_n : 0 < times_in n numbers = placed_live n at_n.0 place in
          let index : index_in (slot_at n slots) ≡ at_n.0 = place_index (slot_at n slots) at_n.0 place in
          let entry : slice_get entries (index_in (slot_at n slots)) ≡ Some (at_n.1, n) =
          ap (slice_get entries) index ∙ at_n.2 in
          some
          ∙ sym
          (pairs_found (same_key key) (λ n. key_in (slice_get entries (index_in (slot_at n slots)))) n numbers in_n
          (ap (λ (o : Option (List Value × ℕ)). same_key key (key_in o)) entry ∙ at_n.3)
          (λ q in_q apart.
          let at_q = entry_at entries (index_in (slot_at q slots)) q (numbered q in_q) in
          ap (λ (o : Option (List Value × ℕ)). same_key key (key_in o)) at_q.1
          ∙ ap (λ (j : List Value). same_key j at_q.0) is
          ∙ keys_apart entries (index_in (slot_at n slots)) (index_in (slot_at q slots)) (at_n.1, n) (at_q.0, q) k.keys
          entry at_q.1
          (λ e. eqb-apart q n apart
          (let both : number_at (index_in (slot_at q slots)) entries ≡ number_at (index_in (slot_at n slots)) entries =
          ap (λ i. number_at i entries) (sym e) in
          let one : number_at (index_in (slot_at q slots)) entries ≡ Some q = numbered q in_q in
          let two : number_at (index_in (slot_at n slots)) entries ≡ Some n = numbered n in_n in
          cc))))
