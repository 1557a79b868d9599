-- Small histories, and the forks of hosts in them that end after five seconds without an event.
use Rattle.std.specs.Prelude.{◌≡◌, ℕ, Bool, true, false, codes, List, [], ◌∷◌, Option, Some, None}
use Prim.Native.String.{String}
use Rattle.ev_types.specs.declared.field.Field.TheVariants.{Host, State}
use Rattle.ev_types.specs.declared.value.Value.TheVariants.{Text}
use Rattle.stream_plan.specs.Tree.{KindTree, By, Changed, Throttle, Rollup, Batch, Stable, FixedEvent, Coalesce}
use Rattle.stream_plan.specs.Tree.{StreamTrees}
use Rattle.stream_meaning.specs.History.{since}
use Rattle.stream_meaning.specs.Ends.{KeyFork, end_of, ends_next, times_ended, live_forks}
use Rattle.stream_meaning.specs.Outputs.{due_forks}
use Rattle.stream_meaning.specs.Deadlines.{plan_deadline}
use Rattle.stream_meaning.specs.ForkExamples.{of_both}
use Rattle.stream_meaning.specs.Small.{Step, Wait, Comes, followed, above, alone, noticing, Gives, of_one, of_many, a}
use Rattle.stream_meaning.specs.Small.{b}

-- the fork of a host that had ended this often
abbrev pub fork : String → ℕ → KeyFork
fork host number = record { key = Text (codes host) ∷ []; number = number }

-- what comes from second 100 on leaves these forks
abbrev pub Leaves : Option ℕ → List Step → List KeyFork → Type 0
Leaves idle steps forks = live_forks idle (Host ∷ []) (followed (since 100) steps) ≡ forks

-- host "a" ends at the tick after all this
abbrev pub EndsNext : List Step → Bool → Type 0
EndsNext steps ends = ends_next (Some 5) (Host ∷ []) (Text (codes "a") ∷ []) (followed (since 100) steps) ≡ ends

-- the next tick is the one of second 104, then that of 105, and then that of 106
pub record EndOfKeyExample : Type 0 where
  pub moment : end_of (Some 5) (Host ∷ []) (Text (codes "a") ∷ []) (followed (since 100) (Comes (a 100) ∷ Wait 2 ∷ []))
      ≡ Some 105
  pub before : EndsNext (Comes (a 100) ∷ Wait 3 ∷ []) false
  pub at : EndsNext (Comes (a 100) ∷ Wait 4 ∷ []) true
  pub after : EndsNext (Comes (a 100) ∷ Wait 5 ∷ []) false
  pub other : EndsNext (Comes (b 100) ∷ Wait 4 ∷ []) false
  pub unseen : EndsNext (Wait 4 ∷ []) false

-- a fork is live one second before its end, and no more at it
pub record EndOfForkExample : Type 0 where
  pub before : Leaves (Some 5) (Comes (a 100) ∷ Wait 4 ∷ []) (fork "a" 0 ∷ [])
  pub at : Leaves (Some 5) (Comes (a 100) ∷ Wait 5 ∷ []) []
  pub without : Leaves None (Comes (a 100) ∷ Wait 5 ∷ []) (fork "a" 0 ∷ [])

-- an event one second before the end puts it off
pub record PutOffExample : Type 0 where
  pub before : Leaves (Some 5) (Comes (a 100) ∷ Wait 4 ∷ Comes (a 104) ∷ Wait 4 ∷ []) (fork "a" 0 ∷ [])
  pub at : Leaves (Some 5) (Comes (a 100) ∷ Wait 4 ∷ Comes (a 104) ∷ Wait 5 ∷ []) []

-- an event at the second of the end comes after the tick, so it begins a new fork, which ends in its turn
pub record SecondEndExample : Type 0 where
  pub again : Leaves (Some 5) (Comes (a 100) ∷ Wait 5 ∷ Comes (a 105) ∷ Wait 4 ∷ []) (fork "a" 1 ∷ [])
  pub ended : Leaves (Some 5) (Comes (a 100) ∷ Wait 5 ∷ Comes (a 105) ∷ Wait 5 ∷ []) []
  pub count : times_ended (Some 5) (Host ∷ []) (Text (codes "a") ∷ [])
      (followed (since 100) (Comes (a 100) ∷ Wait 5 ∷ Comes (a 105) ∷ Wait 9 ∷ [])) ≡ 2

-- each key ends by itself; two that came at one second end at one
pub record TwoKeysExample : Type 0 where
  pub apart : Leaves (Some 5) (Comes (a 100) ∷ Wait 1 ∷ Comes (b 101) ∷ Wait 4 ∷ []) (fork "b" 0 ∷ [])
  pub tie : Leaves (Some 5) (Comes (a 100) ∷ Comes (b 100) ∷ Wait 4 ∷ []) (fork "a" 0 ∷ fork "b" 0 ∷ [])
  pub both : Leaves (Some 5) (Comes (a 100) ∷ Comes (b 100) ∷ Wait 5 ∷ []) []

-- the order is that of the first events of forks: a later event leaves it, and a new fork of a key comes last
pub record LiveOrderExample : Type 0 where
  pub kept : Leaves (Some 5) (Comes (a 100) ∷ Comes (b 100) ∷ Wait 1 ∷ Comes (a 101) ∷ [])
      (fork "a" 0 ∷ fork "b" 0 ∷ [])
  pub last : Leaves (Some 5) (Comes (a 100) ∷ Wait 1 ∷ Comes (b 101) ∷ Wait 4 ∷ Comes (a 105) ∷ [])
      (fork "b" 0 ∷ fork "a" 1 ∷ [])

-- a stream of this kind for each host, until this many seconds have passed without an event of the host
abbrev pub idle_by : ℕ → KindTree → StreamTrees
idle_by secs kind = alone (above (By (Host ∷ []) (Some secs)) (noticing kind))

-- a new fork has forgotten what the one before it held; one that goes on has not
pub record NewForkExample : Type 0 where
  pub new : Gives (idle_by 5 (Changed State None)) 100
      (Comes (a 100) ∷ Wait 4 ∷ Comes (a 104) ∷ Wait 5 ∷ Comes (a 109) ∷ [])
      (of_one 100 (a 100) ∷ of_one 109 (a 109) ∷ [])
  pub same : Gives (idle_by 5 (Changed State None)) 100
      (Comes (a 100) ∷ Wait 4 ∷ Comes (a 104) ∷ Wait 4 ∷ Comes (a 108) ∷ []) (of_one 100 (a 100) ∷ [])
  pub counted : Gives (idle_by 5 (FixedEvent 2)) 100 (Comes (a 100) ∷ Wait 5 ∷ Comes (a 105) ∷ Comes (a 105) ∷ [])
      (of_many 105 (a 105 ∷ a 105 ∷ []) ∷ [])

-- windows of a new fork are those of the whole history, not of its first event
abbrev pub NewForkWindowExample : Type 0
NewForkWindowExample =
    Gives (idle_by 3 (Throttle 1 10)) 100
    (Wait 6 ∷ Comes (a 106) ∷ Wait 3 ∷ Comes (a 109) ∷ Comes (a 109) ∷ Wait 1 ∷ Comes (a 110) ∷ [])
    (of_one 106 (a 106) ∷ of_one 109 (a 109) ∷ of_one 110 (a 110) ∷ [])

-- what is owed at the second of the end is given, and what is owed one second later is not
pub record LastTickExample : Type 0 where
  pub batch : Gives (idle_by 7 (Batch 10 8)) 100 (Wait 1 ∷ Comes (a 101) ∷ Wait 20 ∷ []) (of_many 108 (a 101 ∷ []) ∷ [])
  pub no_batch : Gives (idle_by 6 (Batch 10 8)) 100 (Wait 1 ∷ Comes (a 101) ∷ Wait 20 ∷ []) []
  pub rollup : Gives (idle_by 8 (Rollup 1 10)) 100 (Wait 2 ∷ Comes (a 102) ∷ Comes (a 102) ∷ Wait 20 ∷ [])
      (of_many 102 (a 102 ∷ []) ∷ of_many 110 (a 102 ∷ []) ∷ [])
  pub no_rollup : Gives (idle_by 7 (Rollup 1 10)) 100 (Wait 2 ∷ Comes (a 102) ∷ Comes (a 102) ∷ Wait 20 ∷ [])
      (of_many 102 (a 102 ∷ []) ∷ [])
  pub stable : Gives (idle_by 5 (Stable 5 State)) 100 (Wait 1 ∷ Comes (a 101) ∷ Wait 20 ∷ []) (of_one 106 (a 101) ∷ [])
  pub no_stable : Gives (idle_by 4 (Stable 5 State)) 100 (Wait 1 ∷ Comes (a 101) ∷ Wait 20 ∷ []) []
  pub coalesce : Gives (idle_by 4 (Coalesce 5)) 100 (Wait 1 ∷ Comes (a 101) ∷ Wait 20 ∷ [])
      (of_many 105 (a 101 ∷ []) ∷ [])
  pub no_coalesce : Gives (idle_by 3 (Coalesce 5)) 100 (Wait 1 ∷ Comes (a 101) ∷ Wait 20 ∷ []) []

-- the deadline of a fork counts up to its end, and a fork that has ended is not due
pub record LastDeadlineExample : Type 0 where
  pub within : plan_deadline (idle_by 7 (Batch 10 8)) (followed (since 100) (Wait 1 ∷ Comes (a 101) ∷ [])) ≡ Some 108
  pub after : plan_deadline (idle_by 6 (Batch 10 8)) (followed (since 100) (Wait 1 ∷ Comes (a 101) ∷ [])) ≡ None
  pub other : plan_deadline (idle_by 6 (Batch 10 8))
      (followed (since 100) (Wait 1 ∷ Comes (a 101) ∷ Wait 1 ∷ Comes (b 102) ∷ [])) ≡ Some 108
  pub due : due_forks (idle_by 7 (Batch 10 8)) (followed (since 100) (Wait 1 ∷ Comes (a 101) ∷ Wait 7 ∷ [])) ≡ 1
  pub ended : due_forks (idle_by 6 (Batch 10 8)) (followed (since 100) (Wait 1 ∷ Comes (a 101) ∷ Wait 7 ∷ [])) ≡ 0

-- below it a stream of this kind for each state, whose fork goes when that of its host does
abbrev pub idle_nested : ℕ → KindTree → StreamTrees
idle_nested secs kind =
    alone (above (By (Host ∷ []) (Some secs)) (alone (above (By (State ∷ []) None) (noticing kind))))

-- a state of which nothing comes has its fork as long as its host has, with all that it held
pub record NestedEndExample : Type 0 where
  pub kept : Gives (idle_nested 5 (FixedEvent 2)) 100
      (Comes (of_both "a" "ok" 100) ∷ Wait 4 ∷ Comes (of_both "a" "bad" 104) ∷ Wait 4
      ∷ Comes (of_both "a" "ok" 108) ∷ [])
      (of_many 108 (of_both "a" "ok" 100 ∷ of_both "a" "ok" 108 ∷ []) ∷ [])
  pub gone : Gives (idle_nested 5 (FixedEvent 2)) 100
      (Comes (of_both "a" "ok" 100) ∷ Wait 5 ∷ Comes (of_both "a" "ok" 105) ∷ []) []
  pub last_tick : Gives (idle_nested 7 (Batch 10 8)) 100 (Wait 1 ∷ Comes (of_both "a" "ok" 101) ∷ Wait 20 ∷ [])
      (of_many 108 (of_both "a" "ok" 101 ∷ []) ∷ [])
  pub no_last_tick : Gives (idle_nested 6 (Batch 10 8)) 100 (Wait 1 ∷ Comes (of_both "a" "ok" 101) ∷ Wait 20 ∷ []) []
  pub due : due_forks (idle_nested 7 (Batch 10 8))
      (followed (since 100) (Wait 1 ∷ Comes (of_both "a" "ok" 101) ∷ Wait 7 ∷ [])) ≡ 2
  pub ended : due_forks (idle_nested 6 (Batch 10 8))
      (followed (since 100) (Wait 1 ∷ Comes (of_both "a" "ok" 101) ∷ Wait 7 ∷ [])) ≡ 0
  pub deadline : plan_deadline (idle_nested 7 (Batch 10 8))
      (followed (since 100) (Wait 1 ∷ Comes (of_both "a" "ok" 101) ∷ [])) ≡ Some 108
  pub no_deadline : plan_deadline (idle_nested 6 (Batch 10 8))
      (followed (since 100) (Wait 1 ∷ Comes (of_both "a" "ok" 101) ∷ [])) ≡ None
