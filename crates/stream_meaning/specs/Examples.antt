-- Small plans, and the notices that they give.
use Rattle.std.specs.Prelude.{◌≡◌, codes, [], ◌∷◌, Some, None}
use Rattle.ev_types.specs.declared.field.Field.TheVariants.{Host, State}
use Rattle.ev_types.specs.declared.item.Item.TheVariants.{One, Many}
use Rattle.ev_types.specs.declared.settings.Fold.TheVariants.{Sum, Minimum, Maximum, Count}
use Rattle.ev_types.specs.declared.value.Value.TheVariants.{Text}
use Rattle.pred_eval.specs.Tree.{Equal}
use Rattle.stream_plan.specs.Tree.{Notice as notice_kind, Where, Tag, By, Changed, Runs, Throttle, Rollup, Batch}
use Rattle.stream_plan.specs.Tree.{Stable, FixedEvent, MovingEvent, FixedTime, MovingTime, Coalesce, Smap, StreamTrees}
use Rattle.stream_plan.specs.Tree.{stream, none, also}
use Rattle.stream_meaning.specs.History.{since, ◌▸◌, In}
use Rattle.stream_meaning.specs.Images.{folded}
use Rattle.stream_meaning.specs.Outputs.{outputs_of, due_forks, forks_given}
use Rattle.stream_meaning.specs.Deadlines.{plan_deadline}
use Rattle.stream_meaning.specs.Arrivals.{notices_among}
use Rattle.stream_meaning.specs.Small.{followed, bare, above, alone, noticed, noticing, given, of_many, of_one, Gives}
use Rattle.stream_meaning.specs.Small.{a, b, ok, bad, measuring, Wait, Comes}

-- a notice has the moment at which the item came
abbrev pub NoticeExample : Type 0
NoticeExample =
    Gives (noticed "n") 100 (Comes (a 100) ∷ Wait 36 ∷ Comes (a 136) ∷ Wait 36 ∷ Comes (a 172) ∷ [])
    (of_one 100 (a 100) ∷ of_one 136 (a 136) ∷ of_one 172 (a 172) ∷ [])

abbrev pub TagExample : Type 0
TagExample =
    Gives (noticing (Tag (codes "x" ∷ codes "y" ∷ []))) 0 (Comes (record (a 1) { tags = codes "y" ∷ [] }) ∷ [])
    (of_one 0 (record (a 1) { tags = codes "y" ∷ codes "x" ∷ [] }) ∷ [])

-- without a first value the first event passes
abbrev pub ChangedExample : Type 0
ChangedExample =
    Gives (noticing (Changed State None)) 0 (Comes (ok 0) ∷ Wait 1 ∷ Comes (ok 1) ∷ Wait 1 ∷ Comes (bad 2) ∷ [])
    (of_one 0 (ok 0) ∷ of_one 2 (bad 2) ∷ [])

-- with one it is compared
abbrev pub ChangedFromExample : Type 0
ChangedFromExample =
    Gives (noticing (Changed State (Some (Text (codes "ok"))))) 0
    (Comes (ok 0) ∷ Wait 1 ∷ Comes (ok 1) ∷ Wait 1 ∷ Comes (bad 2) ∷ [])
    (of_one 2 (bad 2) ∷ [])

abbrev pub RunsExample : Type 0
RunsExample =
    Gives (noticing (Runs 2 State)) 0 (Comes (ok 0) ∷ Wait 1 ∷ Comes (bad 1) ∷ Wait 1 ∷ Comes (bad 2) ∷ [])
    (of_one 2 (bad 2) ∷ [])

-- windows begin with the history: the second event of 104 is one too many, 105 is in the next window
abbrev pub ThrottleExample : Type 0
ThrottleExample =
    Gives (noticing (Throttle 1 5)) 100 (Wait 4 ∷ Comes (a 104) ∷ Comes (a 104) ∷ Wait 1 ∷ Comes (a 105) ∷ [])
    (of_one 104 (a 104) ∷ of_one 105 (a 105) ∷ [])

-- of three a window and five events in one: three one by one and then two at once, which count in the next window
abbrev pub RollupExample : Type 0
RollupExample = Gives (noticing (Rollup 3 10)) 100
    (Wait 1 ∷ Comes (a 101) ∷ Wait 1 ∷ Comes (a 102) ∷ Wait 1 ∷ Comes (a 103) ∷ Wait 1 ∷ Comes (a 104) ∷ Wait 1
    ∷ Comes (a 105)
    ∷ Wait 6 ∷ Comes (a 111) ∷ Wait 1 ∷ Comes (a 112) ∷ Wait 1 ∷ Comes (a 113) ∷ Wait 7 ∷ [])
    (of_many 101 (a 101 ∷ []) ∷ of_many 102 (a 102 ∷ []) ∷ of_many 103 (a 103 ∷ []) ∷ of_many 110 (a 104 ∷ a 105 ∷ [])
    ∷ of_many 111 (a 111 ∷ []) ∷ of_many 112 (a 112 ∷ []) ∷ of_many 120 (a 113 ∷ []) ∷ [])

-- of one a window: a vector that was rolled up leaves no room in the next
abbrev pub RollupOfOneExample : Type 0
RollupOfOneExample =
    Gives (noticing (Rollup 1 10)) 0 (Wait 1 ∷ Comes (a 1) ∷ Wait 1 ∷ Comes (a 2) ∷ Wait 9 ∷ Comes (a 11) ∷ Wait 9 ∷ [])
    (of_many 1 (a 1 ∷ []) ∷ of_many 10 (a 2 ∷ []) ∷ of_many 20 (a 11 ∷ []) ∷ [])

abbrev pub BatchExample : Type 0
BatchExample =
    Gives (noticing (Batch 2 10)) 0 (Wait 1 ∷ Comes (a 1) ∷ Wait 1 ∷ Comes (a 2) ∷ Wait 1 ∷ Comes (a 3) ∷ Wait 7 ∷ [])
    (of_many 2 (a 1 ∷ a 2 ∷ []) ∷ of_many 10 (a 3 ∷ []) ∷ [])

-- a run passes once it has held for five seconds, and what goes on with it passes as it comes
abbrev pub StableExample : Type 0
StableExample = Gives (noticing (Stable 5 State)) 100
    (Comes (ok 100) ∷ Wait 3 ∷ Comes (bad 103) ∷ Wait 1 ∷ Comes (ok 104) ∷ Wait 2 ∷ Comes (ok 106) ∷ Wait 6
    ∷ Comes (ok 112)
    ∷ Wait 1 ∷ Comes (bad 113) ∷ Wait 5 ∷ Comes (ok 118) ∷ [])
    (of_one 109 (ok 104) ∷ of_one 109 (ok 106) ∷ of_one 112 (ok 112) ∷ of_one 118 (bad 113) ∷ [])

-- each emission goes to all children before the next one
abbrev pub DeliveryExample : Type 0
DeliveryExample = Gives (alone (above (Stable 5 State) (also (above (notice_kind (codes "a")) none) (noticed "b")))) 0
    (Comes (a 0) ∷ Wait 1 ∷ Comes (a 1) ∷ Wait 4 ∷ [])
    (given "a" 5 (One (a 0)) ∷ given "b" 5 (One (a 0)) ∷ given "a" 5 (One (a 1)) ∷ given "b" 5 (One (a 1)) ∷ [])

-- a tick goes to the children before what the stream passes on at it
abbrev pub TickFirstExample : Type 0
TickFirstExample =
    Gives (alone (above (Stable 5 State) (noticing (Coalesce 5)))) 0 (Comes (a 0) ∷ Wait 10 ∷ [])
    (of_many 10 (a 0 ∷ []) ∷ [])

-- what was passed on at an entry has come when the next is
abbrev pub BothComeExample : Type 0
BothComeExample =
    Gives (alone (above (Stable 5 State) (noticing (FixedEvent 2)))) 0
    (Comes (a 0) ∷ Wait 1 ∷ Comes (a 1) ∷ Wait 4 ∷ []) (of_many 5 (a 0 ∷ a 1 ∷ []) ∷ [])

abbrev pub FixedEventExample : Type 0
FixedEventExample =
    Gives (noticing (FixedEvent 2)) 0 (Wait 1 ∷ Comes (a 1) ∷ Wait 1 ∷ Comes (a 2) ∷ Wait 1 ∷ Comes (a 3) ∷ [])
    (of_many 2 (a 1 ∷ a 2 ∷ []) ∷ [])

-- the event of a stretch that has passed is dropped
abbrev pub FixedTimeExample : Type 0
FixedTimeExample =
    Gives (noticing (FixedTime 10)) 0 (Comes (a 100) ∷ Comes (a 112) ∷ Comes (a 105) ∷ Comes (a 125) ∷ [])
    (of_many 0 (a 100 ∷ []) ∷ of_many 0 (a 112 ∷ []) ∷ [])

abbrev pub MovingTimeExample : Type 0
MovingTimeExample =
    Gives (noticing (MovingTime 10)) 0
    (Comes (a 100) ∷ Comes (a 105) ∷ Comes (a 112) ∷ Comes (a 101) ∷ Comes (a 103) ∷ [])
    (of_many 0 (a 100 ∷ []) ∷ of_many 0 (a 100 ∷ a 105 ∷ []) ∷ of_many 0 (a 105 ∷ a 112 ∷ [])
    ∷ of_many 0 (a 105 ∷ a 112 ∷ a 103 ∷ []) ∷ [])

-- an event that has expired passes once more, and not again
abbrev pub CoalesceExample : Type 0
CoalesceExample =
    let brief = record (a 1) { ttl = Some 3 } in
    Gives (noticing (Coalesce 10)) 0 (Wait 1 ∷ Comes brief ∷ Wait 19 ∷ []) (of_many 10 (brief ∷ []) ∷ [])

-- each fork has all ticks, also those before its first event, and each key has one
abbrev pub ForksExample : Type 0
ForksExample =
    Gives (alone (above (By (Host ∷ []) None) (noticing (Coalesce 10)))) 100
    (Wait 1 ∷ Comes (a 101) ∷ Wait 6 ∷ Comes (b 107) ∷ Wait 1 ∷ Comes (a 108) ∷ Wait 2 ∷ [])
    (of_many 110 (a 108 ∷ []) ∷ of_many 110 (b 107 ∷ []) ∷ [])

abbrev pub SumExample : Type 0
SumExample =
    Gives (alone (above (MovingEvent 2) (noticing (Smap Sum)))) 0
    (Wait 1 ∷ Comes (measuring 5 1) ∷ Wait 1 ∷ Comes (measuring 7 2) ∷ [])
    (of_one 1 (measuring 5 1) ∷ of_one 2 (measuring 12 1) ∷ [])

-- the first of the events with the least metric; events without a metric do not count
abbrev pub LeastExample : Type 0
LeastExample = folded Minimum (bare 1 ∷ measuring 5 2 ∷ measuring 3 3 ∷ measuring 3 4 ∷ []) ≡ Some (measuring 3 3)

abbrev pub GreatestExample : Type 0
GreatestExample = folded Maximum (measuring 5 1 ∷ bare 2 ∷ measuring 7 3 ∷ measuring 7 4 ∷ []) ≡ Some (measuring 7 3)

-- the number of all events in the first one, whose metric had another form
abbrev pub CountExample : Type 0
CountExample =
    folded Count (record (a 1) { raw_d = Some 0; raw_f = Some 0 } ∷ measuring 3 2 ∷ []) ≡ Some (measuring 2 1)

-- a sum stays within 64 signed bits
abbrev pub GreatSumExample : Type 0
GreatSumExample =
    folded Sum (measuring 9223372036854775807 1 ∷ measuring 1 2 ∷ []) ≡ Some (measuring 9223372036854775807 1)

-- no metric, no event
abbrev pub NoSumExample : Type 0
NoSumExample = folded Sum (bare 1 ∷ bare 2 ∷ []) ≡ None

abbrev pub SortedOutExample : Type 0
SortedOutExample = Gives (alone (stream (Where (Equal State (Text (codes "ok")))) (noticed "yes") (noticed "no"))) 0
    (Comes (bad 1) ∷ Comes (ok 2) ∷ Comes (bare 3) ∷ [])
    (given "no" 0 (One (bad 1)) ∷ given "yes" 0 (One (ok 2)) ∷ given "no" 0 (One (bare 3)) ∷ [])

-- what comes to a stream of events as a vector counts for nothing
abbrev pub VectorExample : Type 0
VectorExample =
    notices_among (outputs_of (noticing (Runs 1 State)) (since 0 ▸ In (Many (ok 1 ∷ [])) ▸ In (One (ok 2))))
    ≡ of_one 0 (ok 2) ∷ []

abbrev pub forks_of_hosts : StreamTrees
forks_of_hosts = alone (above (By (Host ∷ []) None) (noticing (Coalesce 10)))

-- both forks are due at the tick at which they pass something on, and none at the one before
abbrev pub DueExample : Type 0
DueExample = due_forks forks_of_hosts (followed (since 100) (Comes (a 101) ∷ Comes (b 102) ∷ Wait 10 ∷ [])) ≡ 2

abbrev pub NotDueExample : Type 0
NotDueExample = due_forks forks_of_hosts (followed (since 100) (Comes (a 101) ∷ Comes (b 102) ∷ Wait 9 ∷ [])) ≡ 0

abbrev pub GivenExample : Type 0
GivenExample = forks_given forks_of_hosts (followed (since 100) (Comes (a 101) ∷ Comes (b 102) ∷ [])) ≡ 1

abbrev pub DeadlineExample : Type 0
DeadlineExample = plan_deadline forks_of_hosts (followed (since 100) (Wait 3 ∷ Comes (a 101) ∷ [])) ≡ Some 110
