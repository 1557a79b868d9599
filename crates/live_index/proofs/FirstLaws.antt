-- The first events that are found, where a search stops at a limit.
use Rattle.std.proofs.Common.{◌≡◌, ℕ, suc, ◌+◌, ◌<◌, ◌≤◌, Bool, true, false, cond, List, [], ◌∷◌, ◌++◌, filter, take}
use Rattle.std.proofs.Common.{drop, length, get_or, Option, None, Some, sym, ap, ◌∙◌, arith, length-append}
use denote.Ref.{Bor}
use Rattle.std.proofs.Math.Seq.{take-append_seam}
use Rattle.std.proofs.lemmas.List.{take-append-drop, take_all, length-map}
use Rattle.std.specs.Map.{values_of}
use Rattle.ev_types.specs.declared.event.Event.{Event}
use Rattle.ev_types.specs.declared.value.Value.{Value}
use Rattle.key_map.specs.Keys.{Numbers}
use Rattle.linked_slots.specs.Table.{value_at}
use Rattle.live_index.specs.Index.{events_lent}
use Rattle.live_index.specs.Slots.{also, events_at, events_in, numbers_of_value, IsLinked}
use Rattle.live_index.proofs.CopyLaws.{events-append, filter-append, found-more}
use Rattle.live_index.proofs.HostLaws.{AllNeed, asked-search}

-- one event is found at most under each number
pub found-at_most : (p : Event → Bool) (table : List (Option Event)) (ns : List ℕ)
    → length (filter p (events_at table ns)) ≤ length ns
found-at_most p table [] = omega arith
found-at_most p table (n ∷ ns) = also_at_most (value_at table n) (found-at_most p table ns)
  where
    one_at_most : (b : Bool) (e : Event) → length (filter p (events_at table ns)) ≤ length ns
        → length (cond b (e ∷ filter p (events_at table ns)) (filter p (events_at table ns))) ≤ suc (length ns)
    one_at_most true e ih = omega (arith, ih)
    one_at_most false e ih = omega (arith, ih)

    also_at_most : (slot : Option Event) → length (filter p (events_at table ns)) ≤ length ns
        → length (filter p (also slot (events_at table ns))) ≤ suc (length ns)
    also_at_most None ih = omega (arith, ih)
    also_at_most (Some e) ih = one_at_most (p e) e ih

-- one more number is visited before the limit
pub few_on : (p : Event → Bool) (table : List (Option Event)) (ns : List ℕ) (i limit : ℕ) → i < length ns
    → length (filter p (events_at table (take i ns))) < limit
    → length (filter p (events_at table (take (i + 1) ns))) ≤ limit
few_on p table ns i limit lt few =
    let here = filter p (events_at table (take i ns)) in
    let next = filter p (events_at table (get_or ns i 0 ∷ [])) in
    omega (
      arith,
      few,
      ap length (found-more p table ns i lt),
      length-append here next,
      found-at_most p table (get_or ns i 0 ∷ []),
    )

-- at the limit the search stops
pub first_are : (p : Event → Bool) (table : List (Option Event)) (ns : List ℕ) (i limit : ℕ)
    → length (filter p (events_at table (take i ns))) ≡ limit
    → filter p (events_at table (take i ns)) ≡ take limit (filter p (events_at table ns))
first_are p table ns i limit full =
    let here = filter p (events_at table (take i ns)) in
    let rest = filter p (events_at table (drop i ns)) in
    sym (ap (λ ns. take limit (filter p (events_at table ns))) (sym (take-append-drop i ns))
    ∙ ap (λ es. take limit (filter p es)) (events-append table (take i ns) (drop i ns))
    ∙ ap (take limit) (filter-append p (events_at table (take i ns)) (events_at table (drop i ns)))
    ∙ ap (λ n. take n (here ++ rest)) (sym full)
    ∙ take-append_seam here rest)

-- how many events were found since
pub found_since : (xs ys : List (Bor Event)) (more : List Event) → events_lent ys ≡ events_lent xs ++ more
    → length ys ≡ length xs + length more
found_since xs ys more is =
    sym (length-map ys (λ (e : Bor Event). e.now)) ∙ ap length is ∙ length-append (events_lent xs) more
    ∙ ap (λ n. n + length more) (length-map xs (λ (e : Bor Event). e.now))

-- the first that are found under the numbers that a predicate asks for are the first of all that are found
pub asked-first : (numbers : Numbers) (table : List (Option Event)) → IsLinked numbers table → (p : Event → Bool)
    (asked : Option Value) (ns : List ℕ) (limit : ℕ) → ns ≡ values_of (numbers_of_value asked numbers) → AllNeed p asked
    → take limit (filter p (events_at table ns)) ≡ take limit (filter p (events_in numbers table))
asked-first numbers table linked p asked ns limit is need =
    ap (λ ns. take limit (filter p (events_at table ns))) is
    ∙ ap (take limit) (asked-search numbers table linked p asked need)

-- where there are no more numbers than the limit, they are all
pub asked-whole : (numbers : Numbers) (table : List (Option Event)) → IsLinked numbers table → (p : Event → Bool)
    (asked : Option Value) (ns : List ℕ) (limit : ℕ) → ns ≡ values_of (numbers_of_value asked numbers) → AllNeed p asked
    → length ns ≤ limit → take limit (filter p (events_at table ns)) ≡ filter p (events_in numbers table)
asked-whole numbers table linked p asked ns limit is need small =
    take_all limit (filter p (events_at table ns)) (omega (arith, found-at_most p table ns, small))
    ∙ ap (λ ns. filter p (events_at table ns)) is
    ∙ asked-search numbers table linked p asked need
