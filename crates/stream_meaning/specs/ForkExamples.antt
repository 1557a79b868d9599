-- Small plans that fork by one field or two, and forks in forks.
use Rattle.std.specs.Prelude.{◌≡◌, ℕ, codes, [], ◌∷◌, Some, None}
use Prim.Native.String.{String}
use Rattle.ev_types.specs.declared.event.Event.{Event}
use Rattle.ev_types.specs.declared.field.Field.TheVariants.{Host, State}
use Rattle.stream_plan.specs.Tree.{KindTree, By, Stable, FixedEvent, Coalesce, StreamTrees}
use Rattle.stream_meaning.specs.History.{since}
use Rattle.stream_meaning.specs.Outputs.{due_forks, forks_given}
use Rattle.stream_meaning.specs.Deadlines.{plan_deadline}
use Rattle.stream_meaning.specs.Small.{bare, above, alone, noticing, followed, of_many, Gives, a, b, Wait, Comes}

abbrev pub of_both : String → String → ℕ → Event
of_both host state time = record (bare time) { host = Some (codes host); state = Some (codes state) }

-- forks are in the order in which their keys first appeared
abbrev pub ForkOrderExample : Type 0
ForkOrderExample =
    Gives (alone (above (By (Host ∷ []) None) (noticing (Coalesce 10)))) 100
    (Wait 1 ∷ Comes (b 101) ∷ Comes (a 101) ∷ Wait 9 ∷ [])
    (of_many 110 (b 101 ∷ []) ∷ of_many 110 (a 101 ∷ []) ∷ [])

-- a key of two fields is both values
abbrev pub TwoFieldsExample : Type 0
TwoFieldsExample = Gives (alone (above (By (Host ∷ State ∷ []) None) (noticing (FixedEvent 2)))) 0
    (Comes (of_both "a" "ok" 1) ∷ Comes (of_both "a" "bad" 2) ∷ Comes (of_both "b" "ok" 3)
    ∷ Comes (of_both "a" "ok" 4) ∷ [])
    (of_many 0 (of_both "a" "ok" 1 ∷ of_both "a" "ok" 4 ∷ []) ∷ [])

-- and not what they give together
abbrev pub ApartFieldsExample : Type 0
ApartFieldsExample =
    Gives (alone (above (By (Host ∷ State ∷ []) None) (noticing (FixedEvent 2)))) 0
    (Comes (of_both "ab" "c" 1) ∷ Comes (of_both "a" "bc" 2) ∷ []) []

-- a fork for each host, and in it one for each state
abbrev pub nested : KindTree → StreamTrees
nested kind = alone (above (By (Host ∷ []) None) (alone (above (By (State ∷ []) None) (noticing kind))))

-- two forks of hosts, and three of states in them
abbrev pub NestedDueExample : Type 0
NestedDueExample =
    due_forks (nested (Coalesce 10))
    (followed (since 100)
    (Comes (of_both "a" "ok" 100) ∷ Comes (of_both "a" "bad" 100) ∷ Comes (of_both "b" "ok" 100) ∷ Wait 10 ∷ [])) ≡ 5

-- one run has held for ten seconds, so only its fork is due, and the one that it is in
abbrev pub NestedOneDueExample : Type 0
NestedOneDueExample =
    due_forks (nested (Stable 10 State))
    (followed (since 100)
    (Comes (of_both "a" "ok" 100) ∷ Wait 3 ∷ Comes (of_both "a" "bad" 103) ∷ Comes (of_both "b" "ok" 103)
    ∷ Wait 7 ∷ [])) ≡ 2

-- the item comes to the outer `by` and to the inner one
abbrev pub NestedGivenExample : Type 0
NestedGivenExample = forks_given (nested (Coalesce 10)) (followed (since 100) (Comes (of_both "a" "ok" 100) ∷ [])) ≡ 2

-- the least deadline of all forks in forks
abbrev pub NestedDeadlineExample : Type 0
NestedDeadlineExample =
    plan_deadline (nested (Stable 10 State))
    (followed (since 100) (Wait 1 ∷ Comes (of_both "b" "ok" 101) ∷ Wait 1 ∷ Comes (of_both "a" "ok" 102) ∷ []))
    ≡ Some 111
