-- Laws of the lists of ids under numbers.
use Rattle.std.proofs.Common.{◌≡◌, ◌≢◌, ℕ, ◌<◌, ◌↔◌, Bool, true, false, cond, List, [], ◌∷◌, ◌++◌, length, Option, None}
use Rattle.std.proofs.Common.{Some, MatchOption, IsTrue, refl, sym, ◌∙◌, ap, subst, inl, inr}
use Rattle.std.specs.Map.{keys_of}
use Rattle.std.specs.Option.{IsSome}
use Rattle.std.specs.Ordering.{nat_cmp}
use Rattle.std.specs.BTreeMap.{is_at}
use Rattle.std.proofs.lemmas.Bool.{cases_eq}
use Rattle.tick_schedule.specs.declared.due_lists.DueList.{DueList}
use Rattle.tick_schedule.specs.Lists.{AddsAt, HaveIds, IsEarliest, IsFirst, ListChange, Removes, RemovesAt, id_at}
use Rattle.tick_schedule.specs.Lists.{id_in, list_at}
use Rattle.tick_schedule.specs.Numbers.{AreNumbered, IsFirstNumber, IsListOf, Relists, ids_in, list_under, list_with}
use Rattle.tick_schedule.specs.Numbers.{lists_of, number_at}
use Rattle.tick_schedule.proofs.QueueLaws.{at-same, at-true}
use Rattle.tick_schedule.proofs.ListLaws.{adds, bool_cases, earliest, get-within, removes}

some-is : {A : Type 0} (a b : A) → Some a ≡ Some b → a ≡ b
some-is a b h = cc

pub none-is-not-some : {A : Type 0} (x : Option A) → x ≡ None → IsSome x → ⊥
none-is-not-some {A} x none some = let no : IsSome {T = A} None = subst IsSome none some in absurd (cc)

-- the ids of the list under a number, if there is a number
abbrev pub ids_under : Option ℕ → List (Option DueList) → Option (List ℕ)
ids_under None slots = None
ids_under (Some number) slots = Some (ids_in (list_under number slots))

pub list-of : (moment : ℕ) (numbers : List (ℕ × ℕ)) (slots : List (Option DueList))
    → list_at moment (lists_of numbers slots) ≡ ids_under (number_at moment numbers) slots
list-of moment [] slots = refl
list-of moment (e ∷ es) slots =
    elim (is_at (nat_cmp moment) e.0) as
    (λ b. cond b (Some (ids_in (list_under e.1 slots))) (list_at moment (lists_of es slots))
    ≡ ids_under (cond b (Some e.1) (number_at moment es)) slots) [ true ↦ refl | false ↦ list-of moment es slots ]

pub list-with : (moment number : ℕ) (slot : Option DueList) (numbers : List (ℕ × ℕ)) (slots : List (Option DueList))
    → number_at moment numbers ≡ Some number → list_under number slots ≡ slot
    → list_at moment (lists_of numbers slots) ≡ Some (ids_in slot)
list-with moment number slot numbers slots at is =
    list-of moment numbers slots ∙ ap (λ k. ids_under k slots) at ∙ ap (λ s. Some (ids_in s)) is

pub list-none : (moment : ℕ) (numbers : List (ℕ × ℕ)) (slots : List (Option DueList)) → number_at moment numbers ≡ None
    → list_at moment (lists_of numbers slots) ≡ None
list-none moment numbers slots none = list-of moment numbers slots ∙ ap (λ k. ids_under k slots) none

pub keys-of : (numbers : List (ℕ × ℕ)) (slots : List (Option DueList))
    → keys_of (lists_of numbers slots) ≡ keys_of numbers
keys-of [] slots = refl
keys-of (e ∷ es) slots = ap (λ rest. e.0 ∷ rest) (keys-of es slots)

-- a moment with a list has a number
pub has-number : (moment : ℕ) (numbers : List (ℕ × ℕ)) (slots : List (Option DueList))
    → IsSome (list_at moment (lists_of numbers slots))
    → IsSome (number_at moment numbers)
has-number moment numbers slots h = found (number_at moment numbers) refl
  where
    found : (known : Option ℕ) → number_at moment numbers ≡ known → IsSome (number_at moment numbers)
    found None is =
        absurd (none-is-not-some (list_at moment (lists_of numbers slots)) (list-none moment numbers slots is) h)
    found (Some number) is = subst IsSome (sym is) refl

-- the least moment that has a number is the earliest at which an id is due
pub first-of : (numbers : List (ℕ × ℕ)) (slots : List (Option DueList)) (first : Option ℕ)
    → HaveIds (lists_of numbers slots)
    → IsFirstNumber numbers first → IsFirst (lists_of numbers slots) first
first-of numbers slots None have none = ap (λ n. lists_of n slots) none
first-of numbers slots (Some moment) have is = found (number_at moment numbers) refl
  where
    found : (known : Option ℕ) → number_at moment numbers ≡ known → IsEarliest (lists_of numbers slots) moment
    found None at = absurd (none-is-not-some (number_at moment numbers) at is.0)
    found (Some number) at =
        earliest (lists_of numbers slots) moment (ids_in (list_under number slots)) have
        (list-with moment number (list_under number slots) numbers slots at refl)
        (λ m some. is.1 m (has-number m numbers slots some))

-- ---- a change of one list, and of the number of its moment
module _ (numbers numbers' : List (ℕ × ℕ)) (slots slots' : List (Option DueList)) (moment number : ℕ)
    (n : AreNumbered numbers slots)
    (one : (k : ℕ) → number_at moment numbers ≡ Some k → k ≡ number)
    (differ : (m k : ℕ) → is_at (nat_cmp moment) m ≡ false → number_at m numbers ≡ Some k → k ≢ number)
    (same-numbers : (m : ℕ) → is_at (nat_cmp moment) m ≡ false → number_at m numbers' ≡ number_at m numbers)
    (same-lists : (k : ℕ) → k ≢ number → list_under k slots' ≡ list_under k slots) where
  lists-apart : (m : ℕ) → is_at (nat_cmp moment) m ≡ false
      → list_at m (lists_of numbers' slots') ≡ list_at m (lists_of numbers slots)
  lists-apart m apart =
      list-of m numbers' slots' ∙ ap (λ k. ids_under k slots') (same-numbers m apart) ∙ under (number_at m numbers) refl
      ∙ sym (list-of m numbers slots)
    where
      under : (known : Option ℕ) → number_at m numbers ≡ known → ids_under known slots' ≡ ids_under known slots
      under None is = refl
      under (Some k) is = ap (λ s. Some (ids_in s)) (same-lists k (differ m k apart is))

  numbered-apart : (m k : ℕ) → is_at (nat_cmp moment) m ≡ false → number_at m numbers' ≡ Some k
      → IsListOf m (list_under k slots')
  numbered-apart m k apart is =
      let was : number_at m numbers ≡ Some k = sym (same-numbers m apart) ∙ is in
      subst (IsListOf m) (sym (same-lists k (differ m k apart was))) (n.numbered m k was)

  listed-apart : (k : ℕ) (list : DueList) → k ≢ number → list_under k slots' ≡ Some list
      → number_at list.moment numbers' ≡ Some k
  listed-apart k list other is =
      let was : number_at list.moment numbers ≡ Some k = n.listed k list (sym (same-lists k other) ∙ is) in
      elim (bool_cases (is_at (nat_cmp moment) list.moment)) [
        | inl same ↦ absurd (other (one k (ap (λ m. number_at m numbers) (at-true moment list.moment same) ∙ was)))
        | inr apart ↦ same-numbers list.moment apart ∙ was
      ]

  change : (given : Option (List ℕ)) → list_at moment (lists_of numbers' slots') ≡ given
      → ListChange (lists_of numbers slots) (lists_of numbers' slots') moment given
  change given here m =
      elim (bool_cases (is_at (nat_cmp moment) m)) [
        | inl same ↦ rw same (ap (λ x. list_at x (lists_of numbers' slots')) (sym (at-true moment m same)) ∙ here)
        | inr apart ↦ rw apart (lists-apart m apart)
      ]

  pub filled : (ids : List ℕ) → number_at moment numbers' ≡ Some number
      → list_under number slots' ≡ Some (list_with moment ids)
      → ListChange (lists_of numbers slots) (lists_of numbers' slots') moment (Some ids)
  filled ids at is = change (Some ids) (list-with moment number (Some (list_with moment ids)) numbers' slots' at is)

  pub filled-numbered : (ids : List ℕ) → number_at moment numbers' ≡ Some number
      → list_under number slots' ≡ Some (list_with moment ids)
      → AreNumbered numbers' slots'
  filled-numbered ids at is = record {
    numbered = λ m k h.
        elim (bool_cases (is_at (nat_cmp moment) m)) [
          | inl same ↦
              (let k_is : number ≡ k =
              some-is number k (sym at ∙ ap (λ x. number_at x numbers') (at-true moment m same) ∙ h) in
              subst (IsListOf m) (sym (ap (λ x. list_under x slots') (sym k_is) ∙ is)) (at-true moment m same))
          | inr apart ↦ numbered-apart m k apart h
        ];
    listed = λ k list h.
        elim (cases_eq k number) [
          | inl same ↦
              (let list_is : list_with moment ids ≡ list =
              some-is (list_with moment ids) list (sym is ∙ ap (λ x. list_under x slots') (sym same) ∙ h) in
              ap (λ (l : DueList). number_at l.moment numbers') (sym list_is) ∙ at ∙ ap Some (sym same))
          | inr other ↦ listed-apart k list other h
        ];
  }

  pub emptied : number_at moment numbers' ≡ None
      → ListChange (lists_of numbers slots) (lists_of numbers' slots') moment None
  emptied none = change None (list-none moment numbers' slots' none)

  pub emptied-numbered : number_at moment numbers' ≡ None → list_under number slots' ≡ None
      → AreNumbered numbers' slots'
  emptied-numbered none vacant = record {
    numbered = λ m k h.
        elim (bool_cases (is_at (nat_cmp moment) m)) [
          | inl same ↦
              absurd (let no : number_at m numbers' ≡ None =
              ap (λ x. number_at x numbers') (sym (at-true moment m same)) ∙ none in
              cc)
          | inr apart ↦ numbered-apart m k apart h
        ];
    listed = λ k list h.
        elim (cases_eq k number) [
          | inl same ↦ absurd (let no : list_under k slots' ≡ None = ap (λ x. list_under x slots') same ∙ vacant in cc)
          | inr other ↦ listed-apart k list other h
        ];
  }

-- ---- the numbers of other moments
one-moment : (slot : Option DueList) (a b : ℕ) → IsListOf a slot → IsListOf b slot → a ≡ b
one-moment None a b h k = absurd h
one-moment (Some list) a b h k = sym h ∙ k

module _ (numbers : List (ℕ × ℕ)) (slots : List (Option DueList)) (moment number : ℕ)
    (n : AreNumbered numbers slots) where
  pub one-of : number_at moment numbers ≡ Some number → (k : ℕ) → number_at moment numbers ≡ Some k → k ≡ number
  one-of at k is = some-is k number (sym is ∙ at)

  pub differ-of : number_at moment numbers ≡ Some number → (m k : ℕ) → is_at (nat_cmp moment) m ≡ false
      → number_at m numbers ≡ Some k → k ≢ number
  differ-of at m k apart is same =
      let there : IsListOf m (list_under number slots) =
      subst (λ x. IsListOf m (list_under x slots)) same (n.numbered m k is) in
      let m_is : moment ≡ m = one-moment (list_under number slots) moment m (n.numbered moment number at) there in
      let yes : is_at (nat_cmp moment) m ≡ true = ap (is_at (nat_cmp moment)) (sym m_is) ∙ at-same moment in absurd (cc)

  pub one-new : number_at moment numbers ≡ None → (k : ℕ) → number_at moment numbers ≡ Some k → k ≡ number
  one-new none k is = absurd (cc)

  pub differ-new : list_under number slots ≡ None → (m k : ℕ) → is_at (nat_cmp moment) m ≡ false
      → number_at m numbers ≡ Some k → k ≢ number
  differ-new vacant m k apart is same =
      let there : IsListOf m (list_under number slots) =
      subst (λ x. IsListOf m (list_under x slots)) same (n.numbered m k is) in
      subst (IsListOf m) vacant there

-- ---- a list is made or removed
-- the moment has this number or none now, and every other moment has what it had
abbrev pub NumberChange : List (ℕ × ℕ) → List (ℕ × ℕ) → ℕ → Option ℕ → Type 0
NumberChange old new moment given = (m : ℕ) → number_at m new ≡ cond (is_at (nat_cmp moment) m) given (number_at m old)

number-here : (old new : List (ℕ × ℕ)) (moment : ℕ) (given : Option ℕ) → NumberChange old new moment given
    → number_at moment new ≡ given
number-here old new moment given sets = sets moment ∙ ap (λ b. cond b given (number_at moment old)) (at-same moment)

number-apart : (old new : List (ℕ × ℕ)) (moment : ℕ) (given : Option ℕ) → NumberChange old new moment given
    → (m : ℕ) → is_at (nat_cmp moment) m ≡ false → number_at m new ≡ number_at m old
number-apart old new moment given sets m apart = sets m ∙ ap (λ b. cond b given (number_at m old)) apart

module _ (numbers numbers' : List (ℕ × ℕ)) (slots slots' : List (Option DueList)) (moment number : ℕ)
    (n : AreNumbered numbers slots) where
  module _ (ids : List ℕ) (none : number_at moment numbers ≡ None) (vacant : list_under number slots ≡ None)
      (sets : NumberChange numbers numbers' moment (Some number))
      (r : Relists slots slots' number (Some (list_with moment ids))) where
    pub opened-changes : ListChange (lists_of numbers slots) (lists_of numbers' slots') moment (Some ids)
    opened-changes =
        filled numbers numbers' slots slots' moment number n (one-new numbers slots moment number n none)
        (differ-new numbers slots moment number n vacant)
        (number-apart numbers numbers' moment (Some number) sets) r.others ids
        (number-here numbers numbers' moment (Some number) sets) r.changed

    pub opened-numbered : AreNumbered numbers' slots'
    opened-numbered =
        filled-numbered numbers numbers' slots slots' moment number n (one-new numbers slots moment number n none)
        (differ-new numbers slots moment number n vacant)
        (number-apart numbers numbers' moment (Some number) sets) r.others ids
        (number-here numbers numbers' moment (Some number) sets) r.changed

  module _ (at : number_at moment numbers ≡ Some number) (sets : NumberChange numbers numbers' moment None)
      (r : Relists slots slots' number None) where
    pub closed-changes : ListChange (lists_of numbers slots) (lists_of numbers' slots') moment None
    closed-changes =
        emptied numbers numbers' slots slots' moment number n (one-of numbers slots moment number n at)
        (differ-of numbers slots moment number n at)
        (number-apart numbers numbers' moment None sets) r.others (number-here numbers numbers' moment None sets)

    pub closed-numbered : AreNumbered numbers' slots'
    closed-numbered =
        emptied-numbered numbers numbers' slots slots' moment number n (one-of numbers slots moment number n at)
        (differ-of numbers slots moment number n at)
        (number-apart numbers numbers' moment None sets) r.others (number-here numbers numbers' moment None sets)
        r.changed

-- ---- a moment without ids has no list
pub have-changed : (old new : List (ℕ × List ℕ)) (moment : ℕ) (given : Option (List ℕ)) → HaveIds old
    → ListChange old new moment given
    → given ≢ Some [] → HaveIds new
have-changed old new moment given have change some m h =
    elim (bool_cases (is_at (nat_cmp moment) m)) [
      | inl same ↦ some (sym (change m ∙ ap (λ b. cond b given (list_at m old)) same) ∙ h)
      | inr apart ↦ have m (sym (change m ∙ ap (λ b. cond b given (list_at m old)) apart) ∙ h)
    ]

-- ---- an id is added to a list
some-pushed : (ids : List ℕ) (id : ℕ) → Some (ids ++ id ∷ []) ≢ Some []
some-pushed [] id h = absurd (cc)
some-pushed (x ∷ ids) id h = absurd (cc)

-- the ids of the moment are these now
pub record Follows (numbers : List (ℕ × ℕ)) (slots slots' : List (Option DueList)) (moment : ℕ)
    (ids : List ℕ) : Type 0 where
  pub changes : ListChange (lists_of numbers slots) (lists_of numbers slots') moment (Some ids)
  pub numbered : AreNumbered numbers slots'

follows : (numbers : List (ℕ × ℕ)) (slots slots' : List (Option DueList)) (moment number : ℕ) (list : DueList)
    (ids : List ℕ)
    → AreNumbered numbers slots → number_at moment numbers ≡ Some number → list_under number slots ≡ Some list
    → Relists slots slots' number (Some (list_with list.moment ids)) → Follows numbers slots slots' moment ids
follows numbers slots slots' moment number list ids n at is r =
    let m_is : list.moment ≡ moment = subst (IsListOf moment) is (n.numbered moment number at) in
    let fills : list_under number slots' ≡ Some (list_with moment ids) =
    r.changed ∙ ap (λ m. Some (list_with m ids)) m_is in
    record {
      changes = filled numbers numbers slots slots' moment number n (one-of numbers slots moment number n at)
          (differ-of numbers slots moment number n at) (λ m apart. refl) r.others ids at fills;
      numbered = filled-numbered numbers numbers slots slots' moment number n (one-of numbers slots moment number n at)
          (differ-of numbers slots moment number n at) (λ m apart. refl) r.others ids at fills;
    }

module _ (numbers : List (ℕ × ℕ)) (slots slots' : List (Option DueList)) (moment number index : ℕ)
    (n : AreNumbered numbers slots)
    (at : number_at moment numbers ≡ Some number) where
  pub is-list : IsSome (list_under number slots)
  is-list = found (list_under number slots) (n.numbered moment number at)
    where
      found : (slot : Option DueList) → IsListOf moment slot → IsSome slot
      found None h = absurd h
      found (Some list) h = refl

  pub record Pushed (id : ℕ) : Type 0 where
    pub adds : AddsAt (lists_of numbers slots) (lists_of numbers slots') moment index id
    pub numbered : AreNumbered numbers slots'
    pub have_ids : HaveIds (lists_of numbers slots) → HaveIds (lists_of numbers slots')

  pub pushed : (id : ℕ)
      → MatchOption (list_under number slots) ⊥
      (λ list.
      (index ≡ length list.ids) × Relists slots slots' number (Some (list_with list.moment (list.ids ++ id ∷ []))))
      → Pushed id
  pushed id h = found (list_under number slots) refl h
    where
      found : (slot : Option DueList) → list_under number slots ≡ slot
          → MatchOption slot ⊥ (λ list.
          (index ≡ length list.ids) × Relists slots slots' number (Some (list_with list.moment (list.ids ++ id ∷ []))))
          → Pushed id
      found None is h = absurd h
      found (Some list) is h =
          let f : Follows numbers slots slots' moment (list.ids ++ id ∷ []) =
          follows numbers slots slots' moment number list (list.ids ++ id ∷ []) n at is h.1 in
          let P : ℕ → Type 0 = λ i. AddsAt (lists_of numbers slots) (lists_of numbers slots') moment i id in
          record {
            adds = subst P (sym h.0)
                (adds (lists_of numbers slots) (lists_of numbers slots') moment list.ids id
                (list-with moment number (Some list) numbers slots at is) f.changes);
            numbered = f.numbered;
            have_ids =
                λ have. have-changed (lists_of numbers slots) (lists_of numbers slots') moment
                (Some (list.ids ++ id ∷ [])) have f.changes (some-pushed list.ids id);
          }

  -- ---- an id leaves its list
  pub within : IsSome (id_at moment index (lists_of numbers slots))
      → MatchOption (list_under number slots) ⊥ (λ list. index < length list.ids)
  within h = found (list_under number slots) refl (n.numbered moment number at)
    where
      found : (slot : Option DueList) → list_under number slots ≡ slot → IsListOf moment slot
          → MatchOption slot ⊥ (λ list. index < length list.ids)
      found None is none = none
      found (Some list) is of =
          get-within list.ids index
          (subst IsSome (ap (id_in index) (list-with moment number (Some list) numbers slots at is)) h)

  pub record Removed (moved : Option ℕ) (is_empty : Bool) : Type 0 where
    pub left : List ℕ
    pub removes : RemovesAt (lists_of numbers slots) (lists_of numbers slots') moment index moved
    pub changes : ListChange (lists_of numbers slots) (lists_of numbers slots') moment (Some left)
    pub numbered : AreNumbered numbers slots'
    pub empty : IsTrue is_empty ↔ (left ≡ [])

  pub removed : (moved : Option ℕ) (is_empty : Bool)
      → MatchOption (list_under number slots) ⊥ (λ list. (left : List ℕ) × Removes list.ids left index moved
      × Relists slots slots' number (Some (list_with list.moment left)) × (IsTrue is_empty ↔ (left ≡ [])))
      → Removed moved is_empty
  removed moved is_empty h = found (list_under number slots) refl h
    where
      found : (slot : Option DueList) → list_under number slots ≡ slot
          → MatchOption slot ⊥ (λ list. (left : List ℕ) × Removes list.ids left index moved
          × Relists slots slots' number (Some (list_with list.moment left)) × (IsTrue is_empty ↔ (left ≡ [])))
          → Removed moved is_empty
      found None is h = absurd h
      found (Some list) is h =
          let f : Follows numbers slots slots' moment h.0 =
          follows numbers slots slots' moment number list h.0 n at is h.2 in
          record {
            left = h.0;
            removes = removes (lists_of numbers slots) (lists_of numbers slots') moment list.ids h.0 index moved
                (list-with moment number (Some list) numbers slots at is) f.changes h.1;
            changes = f.changes;
            numbered = f.numbered;
            empty = h.3;
          }

-- what the moment has after a change
pub here : (old new : List (ℕ × List ℕ)) (moment : ℕ) (ids : List ℕ) → ListChange old new moment (Some ids)
    → list_at moment new ≡ Some ids
here old new moment ids changes = changes moment ∙ ap (λ b. cond b (Some ids) (list_at moment old)) (at-same moment)

-- the list that is left has ids
pub some-left : (old new : List (ℕ × List ℕ)) (moment : ℕ) (left : List ℕ) (is_empty : Bool) → HaveIds old
    → ListChange old new moment (Some left)
    → (IsTrue is_empty ↔ (left ≡ [])) → is_empty ≡ false → HaveIds new
some-left old new moment left is_empty have changes empty full =
    have-changed old new moment (Some left) have changes (λ h.
    let yes : is_empty ≡ true = empty.1 (some-is left [] h) in absurd (cc))

-- a list that has none is removed
pub none-left : (old new last : List (ℕ × List ℕ)) (moment : ℕ) (left : List ℕ) → HaveIds old
    → ListChange old new moment (Some left)
    → ListChange new last moment None → HaveIds last
none-left old new last moment left have change close m h =
    elim (bool_cases (is_at (nat_cmp moment) m)) [
      | inl same ↦ absurd (let no : list_at m last ≡ None = close m ∙ ap (λ b. cond b None (list_at m new)) same in cc)
      | inr apart ↦
          have m (sym (close m ∙ ap (λ b. cond b None (list_at m new)) apart ∙ change m
          ∙ ap (λ b. cond b (Some left) (list_at m old)) apart)
          ∙ h)
    ]
