-- What the deadline of a whole plan says, and which forks are due.
use Rattle.std.specs.Prelude.{◌≡◌, ℕ, ◌+◌, ◌<◌, ◌≤◌, Bool, true, false, List, [], ◌∷◌, ◌++◌, map, Option, Some, None}
use Rattle.std.specs.Prelude.{IfSome, All, Contains}
use Rattle.std.specs.List.{list_any, flat_map}
use Rattle.stream_plan.specs.Faults.{first_fault}
use Rattle.stream_plan.specs.Tree.{StreamTree, StreamTrees, stream, none, also}
use Rattle.stream_meaning.specs.History.{History, ◌▸◌, Tick, moment_of, is_at}
use Rattle.stream_meaning.specs.Emission.{Branch, Children, Otherwise, Fork}
use Rattle.stream_meaning.specs.Branches.{child_history, branches}
use Rattle.stream_meaning.specs.Outputs.{Effect, Emits, Due, Given, Put, plan_effects}
use Rattle.stream_meaning.specs.Deadlines.{next_deadline, branch_end, until, plan_deadline}
use Rattle.stream_meaning.specs.DeadlineLaws.{HasRange, waited}

abbrev pub is_emission : Effect → Bool
is_emission Emits = true
is_emission Due = false
is_emission Given = false
is_emission (Put output) = false

abbrev pub has_effects : List Effect → Bool
has_effects [] = false
has_effects (first ∷ more) = true

-- some stream of the plan, at any depth, passes something on at the tick that is the last entry
abbrev pub some_emits : StreamTrees → History → Bool
some_emits plan h = list_any is_emission (plan_effects plan h)

-- a tick has effects exactly where some stream passes something on, so those forks are due in which one does
abbrev pub TicksActByEmissions : Type 0
TicksActByEmissions =
    (plan : StreamTrees) (h : History) → has_effects (plan_effects plan (h ▸ Tick)) ≡ some_emits plan (h ▸ Tick)

-- the numbers of all streams of a plan are in their ranges
abbrev mutual
  pub HasStreamRanges : StreamTree → Type 0
  HasStreamRanges (stream kind children otherwise) = HasRange kind × HasRanges children × HasRanges otherwise

  pub HasRanges : StreamTrees → Type 0
  HasRanges none = Unit {0}
  HasRanges (also first more) = HasStreamRanges first × HasRanges more

abbrev pub PlanDeadlinesLieAhead : Type 0
PlanDeadlinesLieAhead = (plan : StreamTrees) (h : History) → HasRanges plan
    → IfSome (plan_deadline plan h) (λ deadline. moment_of h < deadline)

-- at the next tick some stream passes something on exactly where that is the plan's deadline
abbrev pub PlanDeadlinesAreMet : Type 0
PlanDeadlinesAreMet = (plan : StreamTrees) (h : History) → HasRanges plan
    → some_emits plan (h ▸ Tick) ≡ is_at (moment_of h + 1) (plan_deadline plan h)

-- a tick at which none does leaves the deadline
abbrev pub PlanDeadlinesStay : Type 0
PlanDeadlinesStay =
    (plan : StreamTrees) (h : History) → HasRanges plan → some_emits plan (h ▸ Tick) ≡ false
    → plan_deadline plan (h ▸ Tick) ≡ plan_deadline plan h

-- no stream of the plan passed anything on at the first n ticks that followed
abbrev pub IsPlanStill : StreamTrees → History → ℕ → Type 0
IsPlanStill plan h n = (k : ℕ) → k < n → some_emits plan (waited k h ▸ Tick) ≡ false

-- where only ticks follow, the first one at which some stream passes something on is the one at the plan's deadline,
-- and there is none without
abbrev pub PlanDeadlinesAreFirst : Type 0
PlanDeadlinesAreFirst = (plan : StreamTrees) (h : History) (n : ℕ) → HasRanges plan → IsPlanStill plan h n →
    some_emits plan (waited n h ▸ Tick) ≡ is_at (moment_of h + n + 1) (plan_deadline plan h)

abbrev pub deadlines_of : (History → List (Option ℕ)) → (History → List (Option ℕ)) → Branch → History → List (Option ℕ)
deadlines_of children otherwise Children = children
deadlines_of children otherwise Otherwise = otherwise
deadlines_of children otherwise (Fork fork) = children

-- the deadline of each stream of a plan, of those in forks for each fork up to its end
abbrev mutual
  pub stream_deadlines : StreamTree → History → List (Option ℕ)
  stream_deadlines (stream kind children otherwise) h =
      next_deadline kind h
      ∷ flat_map
      (λ branch. map (until (branch_end kind branch h))
      (deadlines_of (plan_deadlines children) (plan_deadlines otherwise) branch (child_history kind branch h)))
      (branches kind h)

  pub plan_deadlines : StreamTrees → History → List (Option ℕ)
  plan_deadlines none h = []
  plan_deadlines (also first more) h = stream_deadlines first h ++ plan_deadlines more h

-- one of the deadlines, of which none is earlier, or nothing where no stream has one
abbrev pub IsEarliest : List (Option ℕ) → Option ℕ → Type 0
IsEarliest deadlines None = All (λ deadline. deadline ≡ None) deadlines
IsEarliest deadlines (Some first) =
    Contains deadlines (Some first) × All (λ deadline. IfSome deadline (λ moment. first ≤ moment)) deadlines

-- the deadline of a plan is the least of those of its streams
abbrev pub PlanDeadlinesAreEarliest : Type 0
PlanDeadlinesAreEarliest =
    (plan : StreamTrees) (h : History) → IsEarliest (plan_deadlines plan h) (plan_deadline plan h)

-- a plan without faults, as each checked plan is, has its numbers in their ranges
abbrev pub FaultlessPlansHaveRanges : Type 0
FaultlessPlansHaveRanges = (plan : StreamTrees) → first_fault plan ≡ None → HasRanges plan

-- all of this is so for a plan after any history
pub record MeetsDeadlines (plan : StreamTrees) : Type 0 where
  pub ahead : (h : History) → IfSome (plan_deadline plan h) (λ deadline. moment_of h < deadline)
  pub first : (h : History) (n : ℕ) → IsPlanStill plan h n
      → some_emits plan (waited n h ▸ Tick) ≡ is_at (moment_of h + n + 1) (plan_deadline plan h)

abbrev pub FaultlessPlansMeetDeadlines : Type 0
FaultlessPlansMeetDeadlines = (plan : StreamTrees) → first_fault plan ≡ None → MeetsDeadlines plan
