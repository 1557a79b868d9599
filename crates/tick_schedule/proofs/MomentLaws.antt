-- Laws of the places of ids, and of their moments.
use Rattle.std.proofs.Common.{◌≡◌, ℕ, suc, zero, ◌+◌, ◌<◌, true, false, cond, eqb, List, [], ◌∷◌, ◌++◌, length}
use Rattle.std.proofs.Common.{slice_index_or, slice_set, Option, None, Some, arith, refl, sym, ◌∙◌, ap}
use Rattle.std.specs.List.{AllByRecursion}
use Rattle.std.specs.List.Sorted.{IsStrictlySortedBy}
use Rattle.std.specs.Map.{keys_of}
use Rattle.std.specs.Ordering.{nat_cmp}
use Rattle.std.specs.declared.cmp.Ordering.TheVariants.{Less}
use Rattle.std.specs.BTreeMap.{is_at}
use Rattle.std.proofs.lemmas.Bool.Decides.{nat_tests}
use Rattle.std.proofs.lemmas.List.{get_or-set_other}
use Rattle.std.proofs.lemmas.Grind.{get_or-set_at}
use Rattle.tick_schedule.specs.Moments.{Place, moment_in, moments_from, place_at}
use Rattle.tick_schedule.specs.Queue.{moment_at, without, IsRising, Sets}
use Rattle.tick_schedule.proofs.QueueLaws.{keeps_all}

-- ---- the ids of a list rise from its first on
all_above : (low id : ℕ) (slots : List (Option Place)) → low < id
    → AllByRecursion (λ k. nat_cmp low k ≡ Less) (keys_of (moments_from id slots))
all_above low id [] h = tt
all_above low id (None ∷ slots) h = all_above low (suc id) slots (omega (arith, h))
all_above low id (Some place ∷ slots) h = (grind (arith, nat_tests, h), all_above low (suc id) slots (omega (arith, h)))

rising_from : (id : ℕ) (slots : List (Option Place)) → IsRising (moments_from id slots)
unfolding IsStrictlySortedBy
rising_from id [] = tt
rising_from id (None ∷ slots) = rising_from (suc id) slots
rising_from id (Some place ∷ slots) = (all_above id (suc id) slots (omega (arith)), rising_from (suc id) slots)

pub rising : (slots : List (Option Place)) → IsRising (moments_from 0 slots)
rising slots = rising_from 0 slots

-- ---- the moment of an id is that of its place
none_below : (q id : ℕ) (slots : List (Option Place)) → q < id → moment_at q (moments_from id slots) ≡ None
none_below q id [] h = refl
none_below q id (None ∷ slots) h = none_below q (suc id) slots (omega (arith, h))
none_below q id (Some place ∷ slots) h =
    let apart : is_at (nat_cmp q) id ≡ false = grind (arith, nat_tests, h) in
    rw apart (none_below q (suc id) slots (omega (arith, h)))

held_from : (id q at : ℕ) (slots : List (Option Place)) → at ≡ id + q
    → moment_at at (moments_from id slots) ≡ moment_in (slice_index_or slots q None)
held_from id q at [] h = refl
held_from id zero at (None ∷ slots) h = none_below at (suc id) slots (omega (arith, h))
held_from id zero at (Some place ∷ slots) h =
    let here : is_at (nat_cmp at) id ≡ true = grind (arith, nat_tests, h) in
    rw here refl
held_from id (suc q) at (None ∷ slots) h = held_from (suc id) q at slots (omega (arith, h))
held_from id (suc q) at (Some place ∷ slots) h =
    let apart : is_at (nat_cmp at) id ≡ false = grind (arith, nat_tests, h) in
    rw apart (held_from (suc id) q at slots (omega (arith, h)))

pub held : (id : ℕ) (slots : List (Option Place)) → moment_at id (moments_from 0 slots) ≡ moment_in (place_at id slots)
held id slots = held_from 0 id id slots (omega (arith))

-- an id with a place has a slot
pub has_slot : (id : ℕ) (slots : List (Option Place)) (place : Place) → place_at id slots ≡ Some place
    → id < length slots
has_slot id [] place h = absurd (cc)
has_slot zero (slot ∷ slots) place h = omega (arith)
has_slot (suc id) (slot ∷ slots) place h =
    let rest : id < length slots = has_slot id slots place h in omega (arith, rest)

-- ---- changes of a slot
pub set_place : (slots : List (Option Place)) (id other : ℕ) (slot : Option Place) → id < length slots
    → place_at other (slice_set slots id slot) ≡ cond (eqb other id) slot (place_at other slots)
set_place slots id other slot h =
    elim (eqb other id) as
    (λ b. eqb other id ≡ b → place_at other (slice_set slots id slot) ≡ cond b slot (place_at other slots)) [
      | true ↦ λ same. get_or-set_at slots id other slot None (grind (arith, nat_tests, same)) h
      | false ↦ λ apart. get_or-set_other slots id other slot None (grind (arith, nat_tests, apart))
    ] refl

pub set_moment : (slots : List (Option Place)) (id : ℕ) (slot : Option Place) → id < length slots
    → Sets (moments_from 0 slots) (moments_from 0 (slice_set slots id slot)) id (moment_in slot)
set_moment slots id slot h other =
    held other (slice_set slots id slot) ∙ ap moment_in (set_place slots id other slot h)
    ∙ elim (eqb other id) as
    (λ b.
    moment_in (cond b slot (place_at other slots)) ≡ cond b (moment_in slot) (moment_at other (moments_from 0 slots)))
    [ true ↦ refl | false ↦ sym (held other slots) ]

-- another place at the same moment
same_from : (id q : ℕ) (slots : List (Option Place)) (old new : Place) → slice_index_or slots q None ≡ Some old
    → new.moment ≡ old.moment
    → moments_from id (slice_set slots q (Some new)) ≡ moments_from id slots
same_from id q [] old new h same = absurd (cc)
same_from id zero (None ∷ slots) old new h same = absurd (cc)
same_from id zero (Some place ∷ slots) old new h same =
    let is : place ≡ old = cc in
    ap (λ (moment : ℕ). (id, moment) ∷ moments_from (suc id) slots) (same ∙ ap (λ (p : Place). p.moment) (sym is))
same_from id (suc q) (None ∷ slots) old new h same = same_from (suc id) q slots old new h same
same_from id (suc q) (Some place ∷ slots) old new h same =
    ap (λ rest. (id, place.moment) ∷ rest) (same_from (suc id) q slots old new h same)

pub same_moment : (id : ℕ) (slots : List (Option Place)) (old new : Place) → place_at id slots ≡ Some old
    → new.moment ≡ old.moment
    → moments_from 0 (slice_set slots id (Some new)) ≡ moments_from 0 slots
same_moment id slots old new h same = same_from 0 id slots old new h same

without_from : (id q at : ℕ) (slots : List (Option Place)) → at ≡ id + q
    → without at (moments_from id slots) ≡ moments_from id (slice_set slots q None)
without_from id q at [] h = refl
without_from id zero at (None ∷ slots) h =
    keeps_all at (moments_from (suc id) slots) (all_above at (suc id) slots (omega (arith, h)))
without_from id zero at (Some place ∷ slots) h =
    let here : eqb id at ≡ true = grind (arith, nat_tests, h) in
    rw here (keeps_all at (moments_from (suc id) slots) (all_above at (suc id) slots (omega (arith, h))))
without_from id (suc q) at (None ∷ slots) h = without_from (suc id) q at slots (omega (arith, h))
without_from id (suc q) at (Some place ∷ slots) h =
    let apart : eqb id at ≡ false = grind (arith, nat_tests, h) in
    rw apart (ap (λ rest. (id, place.moment) ∷ rest) (without_from (suc id) q at slots (omega (arith, h))))

pub without_slot : (id : ℕ) (slots : List (Option Place))
    → moments_from 0 (slice_set slots id None) ≡ without id (moments_from 0 slots)
without_slot id slots = sym (without_from 0 id id slots (omega (arith)))

none_at : (id : ℕ) → place_at id [] ≡ None
none_at zero = refl
none_at (suc id) = refl

-- the place of every id after one of them was set, where it may have had a slot or none
pub clear_place : (slots : List (Option Place)) (id other : ℕ)
    → place_at other (slice_set slots id None) ≡ cond (eqb other id) None (place_at other slots)
clear_place [] id other =
    elim (eqb other id) as (λ b. place_at other [] ≡ cond b None (place_at other []))
    [ true ↦ none_at other | false ↦ refl ]
clear_place (slot ∷ slots) zero zero = refl
clear_place (slot ∷ slots) zero (suc other) =
    let is : eqb (suc other) 0 ≡ false = grind (arith, nat_tests) in rw is refl
clear_place (slot ∷ slots) (suc id) zero = let is : eqb 0 (suc id) ≡ false = grind (arith, nat_tests) in rw is refl
clear_place (slot ∷ slots) (suc id) (suc other) =
    let is : eqb (suc other) (suc id) ≡ eqb other id = grind (arith, nat_tests) in
    rw is (clear_place slots id other)

pub clear_moment : (slots : List (Option Place)) (id other : ℕ)
    → moment_at other (moments_from 0 (slice_set slots id None))
    ≡ cond (eqb other id) None (moment_at other (moments_from 0 slots))
clear_moment slots id other =
    held other (slice_set slots id None) ∙ ap moment_in (clear_place slots id other)
    ∙ elim (eqb other id) as
    (λ b. moment_in (cond b None (place_at other slots)) ≡ cond b None (moment_at other (moments_from 0 slots)))
    [ true ↦ refl | false ↦ sym (held other slots) ]

grown_from : (id : ℕ) (slots : List (Option Place)) → moments_from id (slots ++ None ∷ []) ≡ moments_from id slots
grown_from id [] = refl
grown_from id (None ∷ slots) = grown_from (suc id) slots
grown_from id (Some place ∷ slots) = ap (λ rest. (id, place.moment) ∷ rest) (grown_from (suc id) slots)

-- one more slot
pub grown : (slots : List (Option Place)) → moments_from 0 (slots ++ None ∷ []) ≡ moments_from 0 slots
grown slots = grown_from 0 slots

pub grown_place : (id : ℕ) (slots : List (Option Place)) → place_at id (slots ++ None ∷ []) ≡ place_at id slots
grown_place zero [] = refl
grown_place (suc id) [] = refl
grown_place zero (slot ∷ slots) = refl
grown_place (suc id) (slot ∷ slots) = grown_place id slots
