-- What the changes of the nodes do to the lists.
use Rattle.std.proofs.Common.{◌≡◌, ◌≢◌, ℕ, suc, zero, ◌<◌, Bool, true, false, cond, eqb, List, [], ◌∷◌, ◌++◌, length}
use Rattle.std.proofs.Common.{replicate, Option, None, Some, arith, refl, sym, ◌∙◌, ap, subst, inl, inr}
use Rattle.std.proofs.Common.{get_or}
use Rattle.std.proofs.lemmas.Grind.{get_or_default_zero}
use Rattle.std.proofs.lemmas.List.{get_or_append_left}
use Rattle.slab.specs.Slab.{Slab, Updates}
use Rattle.linked_slots.specs.Table.{value_at}
use Rattle.linked_slots.specs.IdLists.{list_at, times_in, times, IsListed, without, append_to, first_of, last_of}
use Rattle.linked_slots.specs.IdLists.{following}
use Rattle.linked_slots.specs.Nodes.{next_of, previous_of, kind_of, next_at, previous_at, kind_at, id_of, AreMutual}
use Rattle.linked_slots.specs.Nodes.{Leads, head_at, AreRings, IsLinked, changed, lists_after, Cuts, Ties, Adds}
use Rattle.linked_slots.specs.declared.nodes.Node.{Node}
use Rattle.linked_slots.specs.declared.nodes.Change.{Change}
use Rattle.linked_slots.specs.declared.nodes.Change.TheVariants.{Append, Remove}
use Rattle.linked_slots.proofs.ListLaws.{bool_cases, eqb-same, eqb-true, eqb-false, eqb-apart, times-without, at-empty}
use Rattle.linked_slots.proofs.ListLaws.{times-empty, length-empty, length-without, listed_at, all_listed}
use Rattle.linked_slots.proofs.RingLaws.{rings-cut, rings-tied, leads-first, leads-last, leads-following}

-- ---- one change more
pub changed-append : (lists : List (List ℕ)) (changes : List (Change × Unit {0})) (number id : ℕ)
    → changed lists (changes ++ (Append number id, tt) ∷ []) ≡ append_to number id (changed lists changes)
changed-append lists [] number id = refl
changed-append lists ((Append m i, u) ∷ changes) number id = changed-append (append_to m i lists) changes number id
changed-append lists ((Remove i, u) ∷ changes) number id = changed-append (without i lists) changes number id

pub changed-remove : (lists : List (List ℕ)) (changes : List (Change × Unit {0})) (id : ℕ)
    → changed lists (changes ++ (Remove id, tt) ∷ []) ≡ without id (changed lists changes)
changed-remove lists [] id = refl
changed-remove lists ((Append m i, u) ∷ changes) id = changed-remove (append_to m i lists) changes id
changed-remove lists ((Remove i, u) ∷ changes) id = changed-remove (without i lists) changes id

-- ---- kinds
still_next : (o : Option Node) (key : ℕ) → kind_of o ≡ None → next_of key o ≡ key
still_next None key h = refl
still_next (Some node) key h = absurd (cc)

still_previous : (o : Option Node) (key : ℕ) → kind_of o ≡ None → previous_of key o ≡ key
still_previous None key h = refl
still_previous (Some node) key h = absurd (cc)

absent : (a b : Option Bool) → a ≡ None → b ≡ Some true → b ≢ a
absent a b h k e = absurd (cc)

absent_id : (a : Option Bool) → a ≡ None → a ≢ Some false
absent_id a h e = absurd (cc)

head_off : (lists : List (List ℕ)) (next previous : ℕ → ℕ) (kind : ℕ → Option Bool) (heads : List ℕ) (id : ℕ)
    → AreRings lists next previous kind heads
    → kind id ≢ Some true → (m : ℕ) → m < length lists → head_at heads m ≢ id
head_off lists next previous kind heads id r is_not m h c = is_not (ap kind (sym c) ∙ r.are_heads m h)

not_true : (a : Option Bool) → a ≡ Some false → a ≢ Some true
not_true a h e = absurd (cc)

none_true : (a : Option Bool) → a ≡ None → a ≢ Some true
none_true a h e = absurd (cc)

-- ---- the functions
pub linked-unlinked : (lists : List (List ℕ)) (old mid new : Slab Node) (heads : List ℕ) (id : ℕ)
    → IsLinked lists old.slots heads → IsListed id lists
    → Cuts old mid id → Updates mid new id None → IsLinked (without id lists) new.slots heads
linked-unlinked lists old mid new heads id r listed c u =
    let next_kept : (q : ℕ) → next_at new.slots q ≡ next_at mid.slots q = λ q. elim (bool_cases (eqb q id)) [
      | inl here ↦ (let is : q ≡ id = eqb-true q id here in
          rw is (ap (next_of id) u.changed ∙ sym (c.next_is id ∙ rw (eqb-same id) refl)))
      | inr apart ↦ ap (next_of q) (u.others q (eqb-apart q id apart))
    ] in
    let previous_kept : (q : ℕ) → previous_at new.slots q ≡ previous_at mid.slots q =
    λ q. elim (bool_cases (eqb q id)) [
      | inl here ↦ (let is : q ≡ id = eqb-true q id here in
          rw is (ap (previous_of id) u.changed ∙ sym (c.previous_is id ∙ rw (eqb-same id) refl)))
      | inr apart ↦ ap (previous_of q) (u.others q (eqb-apart q id apart))
    ] in
    rings-cut lists (next_at old.slots) (previous_at old.slots) (next_at new.slots) (previous_at new.slots)
    (kind_at old.slots) (kind_at new.slots) heads id r
    (r.are_ids id listed) (λ q. next_kept q ∙ c.next_is q) (λ q. previous_kept q ∙ c.previous_is q)
    (λ q no. ap kind_of (u.others q no) ∙ c.rest.kind q)

pub linked-cut : (lists : List (List ℕ)) (old new : Slab Node) (heads : List ℕ) (id : ℕ)
    → IsLinked lists old.slots heads → IsListed id lists
    → Cuts old new id → IsLinked (without id lists) new.slots heads
linked-cut lists old new heads id r listed c =
    rings-cut lists (next_at old.slots) (previous_at old.slots) (next_at new.slots) (previous_at new.slots)
    (kind_at old.slots) (kind_at new.slots) heads id r
    (r.are_ids id listed) c.next_is c.previous_is (λ q no. c.rest.kind q)

pub linked-moved : (lists : List (List ℕ)) (old mid new : Slab Node) (heads : List ℕ) (number id : ℕ)
    → IsLinked lists old.slots heads → number < length lists
    → IsListed id lists → Cuts old mid id → Ties mid new id (head_at heads number)
    → IsLinked (append_to number id (without id lists)) new.slots heads
linked-moved lists old mid new heads number id r h listed c t =
    let cut : IsLinked (without id lists) mid.slots heads = linked-cut lists old mid heads id r listed c in
    let is_id : kind_at mid.slots id ≡ Some false = c.rest.kind id ∙ r.are_ids id listed in
    rings-tied (without id lists) (next_at mid.slots) (previous_at mid.slots) (next_at new.slots)
    (previous_at new.slots) (kind_at mid.slots) (kind_at new.slots) heads number id
    cut (let len : length (without id lists) ≡ length lists = length-without id lists in omega (arith, h, len))
    (times-without id id lists ∙ rw (eqb-same id) refl)
    (c.next_is id ∙ rw (eqb-same id) refl) (c.previous_is id ∙ rw (eqb-same id) refl) (t.rest.kind id ∙ is_id)
    (head_off (without id lists) (next_at mid.slots) (previous_at mid.slots) (kind_at mid.slots) heads id cut
    (not_true (kind_at mid.slots id) is_id))
    t.next_is t.previous_is (λ q no. t.rest.kind q)

pub fresh_id : (lists : List (List ℕ)) (old : Slab Node) (heads : List ℕ) (id : ℕ) → IsLinked lists old.slots heads
    → kind_at old.slots id ≡ None → times id lists ≡ 0
fresh_id lists old heads id r vacant =
    elim (bool_cases (eqb (times id lists) 0)) [
      | inl none ↦ eqb-true (times id lists) 0 none
      | inr some ↦ (let more : times id lists ≢ 0 = eqb-apart (times id lists) 0 some in
          absurd (absent_id (kind_at old.slots id) vacant (r.are_ids id (omega (arith, more)))))
    ]

pub mutual-added : (old new : Slab Node) (id : ℕ) (b : Bool) → AreMutual (next_at old.slots) (previous_at old.slots)
    → Adds old new id b
    → AreMutual (next_at new.slots) (previous_at new.slots)
mutual-added old new id b m a = record {
  back = λ q. a.previous_kept (next_at new.slots q) ∙ ap (previous_at old.slots) (a.next_kept q) ∙ m.back q;
  forth = λ q. a.next_kept (previous_at new.slots q) ∙ ap (next_at old.slots) (a.previous_kept q) ∙ m.forth q;
}

pub linked-inserted : (lists : List (List ℕ)) (old mid new : Slab Node) (heads : List ℕ) (number id : ℕ)
    → IsLinked lists old.slots heads → number < length lists
    → Adds old mid id false → Ties mid new id (head_at heads number)
    → IsLinked (append_to number id lists) new.slots heads
linked-inserted lists old mid new heads number id r h a t =
    let s = head_at heads number in
    rings-tied lists (next_at old.slots) (previous_at old.slots) (next_at new.slots) (previous_at new.slots)
    (kind_at old.slots) (kind_at new.slots) heads number id
    r h (fresh_id lists old heads id r a.vacant)
    (still_next (value_at old.slots id) id a.vacant) (still_previous (value_at old.slots id) id a.vacant)
    (t.rest.kind id ∙ a.kind_is id ∙ rw (eqb-same id) refl)
    (head_off lists (next_at old.slots) (previous_at old.slots) (kind_at old.slots) heads id r
    (none_true (kind_at old.slots id) a.vacant))
    (λ q. t.next_is q ∙ ap (λ x. cond (eqb q id) s (cond (eqb q x) id (next_at mid.slots q))) (a.previous_kept s)
    ∙ ap (λ x. cond (eqb q id) s (cond (eqb q (previous_at old.slots s)) id x)) (a.next_kept q))
    (λ q.
    t.previous_is q ∙ ap (λ x. cond (eqb q id) x (cond (eqb q s) id (previous_at mid.slots q))) (a.previous_kept s)
    ∙ ap (λ x. cond (eqb q id) (previous_at old.slots s) (cond (eqb q s) id x)) (a.previous_kept q))
    (λ q no. t.rest.kind q ∙ a.kind_is q ∙ rw (eqb-false q id no) refl)

-- ---- a head more
head_at-more : (heads : List ℕ) (key number : ℕ) → number < length heads
    → head_at (heads ++ key ∷ []) number ≡ head_at heads number
head_at-more heads key number h = get_or_append_left heads (key ∷ []) 0 number h

head_at-last : (heads : List ℕ) (key : ℕ) → head_at (heads ++ key ∷ []) (length heads) ≡ key
head_at-last [] key = refl
head_at-last (x ∷ heads) key = head_at-last heads key

length-push : (heads : List ℕ) (key : ℕ) → length (heads ++ key ∷ []) ≡ suc (length heads)
length-push [] key = refl
length-push (x ∷ heads) key = ap suc (length-push heads key)

data IsPlace (n number : ℕ) : Type 0 where
  Before : number < n → IsPlace n number
  Last : number ≡ n → IsPlace n number

place : (n number : ℕ) → number < suc n → IsPlace n number
place n number h = elim (bool_cases (eqb number n)) [
  | inl here ↦ Last (eqb-true number n here)
  | inr apart ↦ (let no : number ≢ n = eqb-apart number n apart in Before (omega (arith, h, no)))
]

pub linked-headed : (old new : Slab Node) (heads : List ℕ) (key : ℕ)
    → IsLinked (replicate (length heads) []) old.slots heads → Adds old new key true
    → IsLinked (replicate (length (heads ++ key ∷ [])) []) new.slots (heads ++ key ∷ [])
linked-headed old new heads key r a =
    let n = length heads in
    let more : List ℕ = heads ++ key ∷ [] in
    let len : length more ≡ suc n = length-push heads key in
    let full : length (replicate {A = List ℕ} (length more) []) ≡ suc n = length-empty (length more) ∙ len in
    let was : length (replicate {A = List ℕ} n []) ≡ n = length-empty n in
    let place_of : (m : ℕ) → m < length (replicate {A = List ℕ} (length more) []) → IsPlace n m =
    λ m h. place n m (omega (arith, h, full)) in
    let before_kind : (m : ℕ) → m < n → kind_at old.slots (head_at heads m) ≡ Some true =
    λ m h. r.are_heads m (omega (arith, h, was)) in
    let apart : (m : ℕ) → m < n → head_at heads m ≢ key =
    λ m h c. absent (kind_at old.slots key) (kind_at old.slots (head_at heads m)) a.vacant (before_kind m h)
    (ap (kind_at old.slots) c) in
    let at_before : (m : ℕ) → m < n → head_at more m ≡ head_at heads m = λ m h. head_at-more heads key m h in
    let at_last : (m : ℕ) → m ≡ n → head_at more m ≡ key = λ m h. ap (head_at more) h ∙ head_at-last heads key in
    let still : next_at new.slots key ≡ key = a.next_kept key ∙ still_next (value_at old.slots key) key a.vacant in
    record {
      mutual_links = mutual-added old new key true r.mutual_links a;
      count = len ∙ sym full;
      rings = λ m h. rw (at-empty (length more) m) (elim (place_of m h) [
        | Before b ↦
            (let same : Leads (next_at old.slots) (head_at heads m) (list_at (replicate n []) m) (head_at heads m) =
            r.rings m (omega (arith, b, was)) in
            let ring : next_at old.slots (head_at heads m) ≡ head_at heads m = rw (at-empty n m) at same in
            rw (at_before m b) (a.next_kept (head_at heads m) ∙ ring))
        | Last l ↦ rw (at_last m l) still
      ]);
      are_heads = λ m h. elim (place_of m h) [
        | Before b ↦
            rw (at_before m b)
            (a.kind_is (head_at heads m) ∙ rw (eqb-false (head_at heads m) key (apart m b)) (before_kind m b))
        | Last l ↦ rw (at_last m l) (a.kind_is key ∙ rw (eqb-same key) refl)
      ];
      heads_differ = λ m o h j e. elim (place_of m h) [
        | Before b ↦ elim (place_of o j) [
          | Before d ↦
              r.heads_differ m o (omega (arith, b, was)) (omega (arith, d, was))
              (sym (at_before m b) ∙ e ∙ at_before o d)
          | Last l ↦ absurd (apart m b (sym (at_before m b) ∙ e ∙ at_last o l))
        ]
        | Last l ↦ elim (place_of o j) [
          | Before d ↦ absurd (apart o d (sym (at_before o d) ∙ sym e ∙ at_last m l))
          | Last k ↦ l ∙ sym k
        ]
      ];
      are_ids =
          λ q h. absurd
          (let none : times q (replicate (length more) []) ≡ 0 = times-empty (length more) q in omega (arith, h, none));
      apart =
          λ q.
          (let none : times q (replicate (length more) []) ≡ 0 = times-empty (length more) q in omega (arith, none));
    }

-- ---- what follows
module _ (lists : List (List ℕ)) (slots : List (Option Node)) (heads : List ℕ) (r : IsLinked lists slots heads) where
  pub first-is : (number : ℕ) → number < length lists
      → id_of (kind_at slots (next_at slots (head_at heads number))) (next_at slots (head_at heads number))
      ≡ first_of (list_at lists number)
  first-is number h =
      leads-first (next_at slots) (kind_at slots) (head_at heads number) (list_at lists number) (head_at heads number)
      (r.are_heads number h)
      (all_listed (λ x. kind_at slots x ≡ Some false) (list_at lists number)
      (λ x more. r.are_ids x (listed_at x number lists more)))
      (r.rings number h)

  pub last-is : (number : ℕ) → number < length lists
      → id_of (kind_at slots (previous_at slots (head_at heads number))) (previous_at slots (head_at heads number))
      ≡ last_of (list_at lists number)
  last-is number h =
      leads-last (next_at slots) (previous_at slots) (kind_at slots) r.mutual_links.back (head_at heads number)
      (list_at lists number) (r.are_heads number h)
      (all_listed (λ x. kind_at slots x ≡ Some false) (list_at lists number)
      (λ x more. r.are_ids x (listed_at x number lists more)))
      (r.rings number h)

  within : (id number : ℕ) (all : List (List ℕ)) → 0 < times_in id (list_at all number) → number < length all
  within id number [] h = absurd (omega (arith, h))
  within id zero (xs ∷ all) h = omega arith
  within id (suc number) (xs ∷ all) h = omega (arith, within id number all h)

  pub following-is : (id number : ℕ) → 0 < times_in id (list_at lists number)
      → id_of (kind_at slots (next_at slots id)) (next_at slots id) ≡ following id (list_at lists number)
  following-is id number h =
      let into : number < length lists = within id number lists h in
      leads-following (next_at slots) (kind_at slots) id (head_at heads number) (list_at lists number)
      (head_at heads number) (r.are_heads number into)
      (all_listed (λ x. kind_at slots x ≡ Some false) (list_at lists number)
      (λ x more. r.are_ids x (listed_at x number lists more)))
      (r.rings number into) h

-- ---- as the functions use them
pub head-is : (heads : List ℕ) (lists : List (List ℕ)) (number head : ℕ) → length heads ≡ length lists
    → number < length lists
    → head ≡ get_or heads number head → head ≡ head_at heads number
head-is heads lists number head count h is = is ∙ get_or_default_zero heads number head (omega (arith, h, count))

pub tied-to : (mid new : Slab Node) (id after head : ℕ) → after ≡ head → Ties mid new id after → Ties mid new id head
tied-to mid new id after head is t = let P : ℕ → Type 0 = λ x. Ties mid new id x in subst P is t

pub listed-in : (id : ℕ) (lists view : List (List ℕ)) → lists ≡ view → IsListed id view → IsListed id lists
listed-in id lists view is h = rw is h

pub number-in : (number : ℕ) (lists view : List (List ℕ)) → lists ≡ view → number < length view → number < length lists
number-in number lists view is h = rw is h

pub appended-more : (heads : List ℕ) (changes more : List (Change × Unit {0})) (number id : ℕ)
    → more ≡ changes ++ (Append number id, tt) ∷ []
    → lists_after heads more ≡ append_to number id (lists_after heads changes)
appended-more heads changes more number id is =
    ap (lists_after heads) is ∙ changed-append (replicate (length heads) []) changes number id

pub removed-more : (heads : List ℕ) (changes more : List (Change × Unit {0})) (id : ℕ)
    → more ≡ changes ++ (Remove id, tt) ∷ []
    → lists_after heads more ≡ without id (lists_after heads changes)
removed-more heads changes more id is =
    ap (lists_after heads) is ∙ changed-remove (replicate (length heads) []) changes id

pub linked-nothing : (slots : List (Option Node)) (heads : List ℕ) → slots ≡ [] → heads ≡ []
    → IsLinked (replicate (length heads) []) slots heads
linked-nothing slots heads a b = rw (a, b) (record {
  mutual_links = record { back = λ q. refl; forth = λ q. refl };
  count = refl;
  rings = λ m h. absurd (omega (arith, h));
  are_heads = λ m h. absurd (omega (arith, h));
  heads_differ = λ m o h. absurd (omega (arith, h));
  are_ids = λ q h. absurd (omega (arith, h));
  apart = λ q. omega arith;
})
