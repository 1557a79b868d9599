-- What one entry does to streams, to one stream, and to what is below a stream.
use Rattle.std.specs.Prelude.{◌≡◌, ℕ, zero, suc, ◌≤◌, ◌^◌, Bool, true, false, not, eqb, if◌then◌else◌, List, [], ◌∷◌}
use Rattle.std.specs.Prelude.{◌++◌, map, filter, take, Option, Some, None}
use Rattle.std.specs.List.{AllByRecursion, flat_map}
use Rattle.ev_types.specs.declared.item.Output.{Output}
use Rattle.ev_types.specs.declared.value.Value.{Value}
use Rattle.ev_types.specs.Key.{same_key}
use Rattle.fork_by.specs.declared.table.ForkTable.{ForkTable}
use Rattle.fork_by.specs.Table.{KeptFork, kept_forks, HasFork, IsTable}
use Rattle.step_count.specs.Count.{StepCount}
use Rattle.pred_eval.specs.Search.{AreReadFrom}
use Rattle.regex.specs.declared.string.regex.Regex.{Regex}
use Rattle.stream_plan.specs.declared.plan.Stream.{Stream}
use Rattle.stream_plan.specs.Tree.{KindTree, StreamTree, StreamTrees, stream, none, also, list_trees}
use Rattle.stream_meaning.specs.Branches.{same_branch, after_emissions, ticked, with_key}
use Rattle.stream_meaning.specs.declared.entry.Entry.{Entry}
use Rattle.stream_meaning.specs.declared.entry.Entry.TheVariants.{Tick, Item as In}
use Rattle.stream_meaning.specs.Deadlines.{plan_deadline, until}
use Rattle.stream_meaning.specs.Emission.{Branch, Children, Otherwise, Fork, Emission}
use Rattle.stream_meaning.specs.Ends.{idle_after}
use Rattle.stream_meaning.specs.History.{History, ◌▸◌, begun, moment_of, is_at, TicksAlone}
use Rattle.stream_meaning.specs.Laws.{is_among}
use Rattle.stream_meaning.specs.Outputs.{Effect, Given, BranchEffects, branch_effects, due_if_any, at_tick}
use Rattle.stream_meaning.specs.Outputs.{at_emissions, stream_effects, plan_effects, outputs_at}
use Rattle.stream_step.specs.declared.state.State.{State}
use Rattle.stream_tree.specs.declared.forest.Forest.{Forest}
use Rattle.stream_tree.specs.declared.forest.Node.{Node}
use Rattle.stream_plan.specs.Nesting.{AllEndOutermost}
use Rattle.list_laws.specs.Prefix.{IsPrefix}
use Rattle.stream_tree.specs.Forest.{nodes_of, Below, LiveKeys, forked_by, key_fork, AreInRange, AllBare}
use Rattle.stream_tree.specs.Forest.{ForksRepresent, BelowRepresents, PartsRepresent, NodeRepresents, ForestRepresents}
use Rattle.stream_tree.specs.Tree.{Performs, PerformsPart}

-- ---- an entry that comes

-- the entry brings this moment to a history that began at this one
pub record ComesAt (start moment : ℕ) (h : History) (x : Entry) : Type 0 where
  pub begins : begun h ≡ start
  pub comes : moment_of (h ▸ x) ≡ moment
  pub small : moment ≤ 2 ^ 40

-- a part of the effects is performed, and these are not the effects of a quiet tick
pub record Stops {G : Type 0} (old : List Output) (before : StepCount G) (new : List Output) (after : StepCount G)
    (x : Entry) (effects : List Effect) : Type 0 where
  pub part : PerformsPart old before new after effects
  pub busy : x ≡ Tick → effects ≡ [] → ⊥

-- ---- streams without nodes

-- wherever the streams are bare, their outputs are put
abbrev pub BareRun : List Regex → ℕ → ℕ → List Output → List Output → Entry → StreamTrees → Type 0
BareRun patterns start moment old new x streams = (texts : List (List ℕ)) (h : History) → AreReadFrom texts patterns →
    AllBare streams → ComesAt start moment h x → new ≡ old ++ outputs_at streams (h ▸ x)

-- the call ran out of memory: a prefix of their outputs was put
abbrev pub BareStop : List Regex → ℕ → ℕ → List Output → List Output → Entry → StreamTrees → Type 0
BareStop patterns start moment old new x streams = (texts : List (List ℕ)) (h : History) → AreReadFrom texts patterns →
    AllBare streams → ComesAt start moment h x → IsPrefix new (old ++ outputs_at streams (h ▸ x))

-- ---- what is below a stream

abbrev pub kind_of : StreamTree → KindTree
kind_of (stream kind children otherwise) = kind

abbrev pub children_of : StreamTree → StreamTrees
children_of (stream kind children otherwise) = children

abbrev pub otherwise_of : StreamTree → StreamTrees
otherwise_of (stream kind children otherwise) = otherwise

-- what each branch has received
abbrev pub Received : Type 0
Received = Branch → History

abbrev pub BelowIs : List (List ℕ) → StreamTree → ℕ → LiveKeys → Received → Below → Type 0
BelowIs texts s first live received below =
    BelowRepresents texts (children_of s) first (ForestRepresents texts (children_of s))
    (ForestRepresents texts (otherwise_of s)) (forked_by (kind_of s)) live received below

abbrev pub effects_below : StreamTree → BranchEffects
effects_below s = branch_effects (plan_effects (children_of s)) (plan_effects (otherwise_of s))

-- the branches below a stream
abbrev pub branches_by : Option (Option ℕ) → LiveKeys → List Branch
branches_by None live = Children ∷ (Otherwise ∷ [])
branches_by (Some idle) live = map (key_fork live) live.keys

-- an emission of the stream can go to this branch, if each key ended so often
abbrev pub FitsBranch : Option (Option ℕ) → (List Value → ℕ) → Branch → Type 0
FitsBranch None ended (Fork fork) = ⊥
FitsBranch None ended branch = Unit {0}
FitsBranch (Some idle) ended (Fork fork) = fork.number ≡ ended fork.key
FitsBranch (Some idle) ended branch = ⊥

abbrev pub FitAll : Option (Option ℕ) → (List Value → ℕ) → List Emission → Type 0
FitAll shape ended [] = Unit {0}
FitAll shape ended (emission ∷ more) = FitsBranch shape ended emission.branch × FitAll shape ended more

-- an item comes to the branch at this moment
abbrev pub with_branch : ℕ → Branch → LiveKeys → LiveKeys
with_branch now Children live = live
with_branch now Otherwise live = live
with_branch now (Fork fork) live = record {
  keys = with_key fork.key live.keys;
  ended = live.ended;
  last = λ key. if same_key fork.key key then Some now else live.last key;
}

abbrev pub with_branches : ℕ → List Emission → LiveKeys → LiveKeys
with_branches now [] live = live
with_branches now (emission ∷ more) live = with_branches now more (with_branch now emission.branch live)

-- a key does not end at this moment
abbrev pub lives_on : Option ℕ → ℕ → Option ℕ → Bool
lives_on idle now last = not (is_at now (idle_after idle last))

-- after a tick at this moment the keys are gone that end at it
abbrev pub keys_left : Option ℕ → ℕ → LiveKeys → List (List Value)
keys_left idle now live = filter (λ key. lives_on idle now (live.last key)) live.keys

abbrev pub after_tick : Option (Option ℕ) → ℕ → Entry → LiveKeys → LiveKeys
after_tick None now x live = live
after_tick (Some idle) now (In item) live = live
after_tick (Some idle) now Tick live = record { keys = keys_left idle now live; ended = live.ended; last = live.last }

-- the fork of a key that is not there has received nothing but ticks
abbrev pub UnseenHaveTicks : Option (Option ℕ) → LiveKeys → Received → Type 0
UnseenHaveTicks None live received = Unit {0}
UnseenHaveTicks (Some idle) live received =
    (key : List Value) → is_among key live.keys ≡ false → TicksAlone (received (key_fork live key))

-- one more entry for one branch
abbrev pub extended : Branch → Entry → Received → Received
extended branch x received other = if same_branch branch other then received other ▸ x else received other

-- an item that is handed to a fork counts
abbrev pub given_to : Branch → List Effect
given_to Children = []
given_to Otherwise = []
given_to (Fork fork) = Given ∷ []

-- the effects of what comes to a branch
abbrev pub entering : BranchEffects → BranchEffects
entering effects_in branch h = given_to branch ++ effects_in branch h

-- the first `i` nodes represent one entry more than the others
abbrev pub FirstRepresent : List (List ℕ) → ℕ → StreamTrees → List Node → History → Entry → Type 0
FirstRepresent texts zero streams nodes h x = ForestRepresents texts streams nodes h
FirstRepresent texts (suc i) none nodes h x = ForestRepresents texts none nodes h
FirstRepresent texts (suc i) (also first more) [] h x = ⊥
FirstRepresent texts (suc i) (also first more) (node ∷ nodes) h x =
    NodeRepresents texts first node (h ▸ x) × FirstRepresent texts i more nodes h x

-- a fork that got an entry: what it keeps, and the moment at which it is due, up to its end
abbrev pub fork_after : Option ℕ → ℕ → Forest → Option ℕ → KeptFork Forest → KeptFork Forest
fork_after idle number fork deadline kept =
    if eqb kept.number number
    then record kept { fork = fork; due = until (idle_after idle (Some kept.moment)) deadline } else kept

-- the fork of the number represents this history, and all else is as it was
pub record ForkRan (texts : List (List ℕ)) (streams : StreamTrees) (idle : Option ℕ) (number : ℕ)
    (forks forks' : ForkTable Forest) (h : History) : Type 0 where
  pub is_table : IsTable forks'
  pub has_forks : (other : ℕ) → HasFork other forks → HasFork other forks'
  pub fork : Forest
  pub represents : ForestRepresents texts streams (nodes_of fork) h
  pub kept : kept_forks forks' ≡ map (fork_after idle number fork (plan_deadline streams h)) (kept_forks forks)

-- the fork of the number represents a history to which the entry comes
pub record ForkComes (start moment : ℕ) (texts : List (List ℕ)) (streams : StreamTrees) (number : ℕ)
    (forks : ForkTable Forest) (h : History) (x : Entry) : Type 0 where
  pub is_table : IsTable forks
  pub has_fork : HasFork number forks
  pub fork : AllByRecursion
      (λ kept. eqb kept.number number ≡ true → ForestRepresents texts streams (nodes_of kept.fork) h) (kept_forks forks)
  pub comes : ComesAt start moment h x

-- the entry comes to each branch
pub record AllCome (start moment : ℕ) (received : Received) (x : Entry) : Type 0 where
  pub each : (branch : Branch) → ComesAt start moment (received branch) x

-- no branch has come past this moment
abbrev pub NonePast : ℕ → Received → Type 0
NonePast moment received = (branch : Branch) → moment_of (received branch) ≤ moment

-- each branch has come to this moment
pub record AllAreAt (start moment : ℕ) (received : Received) : Type 0 where
  pub begins : (branch : Branch) → begun (received branch) ≡ start
  pub represents : (branch : Branch) → moment_of (received branch) ≡ moment
  pub small : moment ≤ 2 ^ 40

module _ {G : Type 0} (patterns : List Regex) (start moment : ℕ) (old : List Output) (before : StepCount G)
    (new : List Output) (after : StepCount G) where
  -- ---- streams, and one stream

  -- wherever the streams represented a history, they represent the longer one
  abbrev pub ForestRuns : Entry → StreamTrees → List Node → List Node → Type 0
  ForestRuns x streams nodes nodes' = (texts : List (List ℕ)) (h : History) → AreReadFrom texts patterns →
      ForestRepresents texts streams nodes h → ComesAt start moment h x →
      ForestRepresents texts streams nodes' (h ▸ x) × Performs old before new after (plan_effects streams (h ▸ x))

  -- the call ran out of memory
  abbrev pub ForestStops : Entry → StreamTrees → List Node → Type 0
  ForestStops x streams nodes = (texts : List (List ℕ)) (h : History) → AreReadFrom texts patterns →
      ForestRepresents texts streams nodes h → ComesAt start moment h x →
      Stops old before new after x (plan_effects streams (h ▸ x))

  -- wherever the streams represented a history, the first `count` streams represent the longer one
  abbrev pub FirstRun : Entry → List Stream → List Node → ℕ → List Node → Type 0
  FirstRun x streams nodes count nodes' = (texts : List (List ℕ)) (h : History) → AreReadFrom texts patterns →
      ForestRepresents texts (list_trees streams) nodes h → ComesAt start moment h x →
      FirstRepresent texts count (list_trees streams) nodes' h x
      × Performs old before new after (plan_effects (list_trees (take count streams)) (h ▸ x))

  abbrev pub StreamRuns : Entry → StreamTree → State → Below → State → Below → Type 0
  StreamRuns x s state below state' below' = (texts : List (List ℕ)) (h : History) → AreReadFrom texts patterns →
      PartsRepresent texts s state below h → ComesAt start moment h x →
      PartsRepresent texts s state' below' (h ▸ x) × Performs old before new after (stream_effects s (h ▸ x))

  abbrev pub StreamStops : Entry → StreamTree → State → Below → Type 0
  StreamStops x s state below = (texts : List (List ℕ)) (h : History) → AreReadFrom texts patterns →
      PartsRepresent texts s state below h → ComesAt start moment h x →
      Stops old before new after x (stream_effects s (h ▸ x))

  -- ---- one fork

  abbrev pub ForkRuns : Entry → StreamTrees → Option ℕ → ℕ → ForkTable Forest → ForkTable Forest → Type 0
  ForkRuns x streams idle number forks forks' = (texts : List (List ℕ)) (h : History) → AreReadFrom texts patterns →
      ForkComes start moment texts streams number forks h x →
      ForkRan texts streams idle number forks forks' (h ▸ x)
      × Performs old before new after (Given ∷ plan_effects streams (h ▸ x))

  abbrev pub ForkStops : Entry → StreamTrees → ℕ → ForkTable Forest → Type 0
  ForkStops x streams number forks = (texts : List (List ℕ)) (h : History) → AreReadFrom texts patterns →
      ForkComes start moment texts streams number forks h x →
      PerformsPart old before new after (Given ∷ plan_effects streams (h ▸ x))

  -- ---- what is below a stream

  -- a tick comes to each fork, also to those that are not entered; then the forks are dropped that end at it
  abbrev pub DueRuns : StreamTrees → Option ℕ → ForkTable Forest → ForkTable Forest → Type 0
  DueRuns streams idle forks forks' =
      (texts : List (List ℕ)) (live : LiveKeys) (received : List Value → History) → AreReadFrom texts patterns →
      AreInRange streams → AllEndOutermost true streams →
      ForksRepresent (ForestRepresents texts streams) (plan_deadline streams) idle live.keys live.last received forks →
      ((key : List Value) → ComesAt start moment (received key) Tick) →
      ForksRepresent (ForestRepresents texts streams) (plan_deadline streams) idle (keys_left idle moment live)
      live.last (λ key. received key ▸ Tick) forks'
      × Performs old before new after
      (flat_map (λ key. due_if_any (plan_effects streams (received key ▸ Tick))) live.keys)

  abbrev pub DueStops : StreamTrees → Option ℕ → ForkTable Forest → Type 0
  DueStops streams idle forks =
      (texts : List (List ℕ)) (live : LiveKeys) (received : List Value → History) → AreReadFrom texts patterns →
      AreInRange streams → AllEndOutermost true streams →
      ForksRepresent (ForestRepresents texts streams) (plan_deadline streams) idle live.keys live.last received forks →
      ((key : List Value) → ComesAt start moment (received key) Tick) →
      Stops old before new after Tick
      (flat_map (λ key. due_if_any (plan_effects streams (received key ▸ Tick))) live.keys)

  -- a tick comes to each branch, and an item to none
  abbrev pub TickRuns : Entry → StreamTree → ℕ → Below → Below → Type 0
  TickRuns x s first below below' =
      (texts : List (List ℕ)) (live : LiveKeys) (received : Received) → AreReadFrom texts patterns →
      BelowIs texts s first live received below → AllCome start moment received x →
      BelowIs texts s first (after_tick (forked_by (kind_of s)) moment x live)
      (λ branch. ticked x (received branch)) below'
      × Performs old before new after (at_tick x (effects_below s) received (branches_by (forked_by (kind_of s)) live))

  abbrev pub TickStops : Entry → StreamTree → ℕ → Below → Type 0
  TickStops x s first below =
      (texts : List (List ℕ)) (live : LiveKeys) (received : Received) → AreReadFrom texts patterns →
      BelowIs texts s first live received below → AllCome start moment received x →
      Stops old before new after x (at_tick x (effects_below s) received (branches_by (forked_by (kind_of s)) live))

  -- wherever the branches represented what they had received, an entry for one of them comes to it
  abbrev pub BranchRuns : Entry → StreamTree → ℕ → Branch → Below → Below → Type 0
  BranchRuns x s first branch below below' =
      (texts : List (List ℕ)) (live : LiveKeys) (received : Received) → AreReadFrom texts patterns →
      FitsBranch (forked_by (kind_of s)) live.ended branch → BelowIs texts s first live received below →
      UnseenHaveTicks (forked_by (kind_of s)) live received →
      NonePast moment received → ComesAt start moment (received branch) x →
      BelowIs texts s first (with_branch moment branch live) (extended branch x received) below'
      × Performs old before new after (entering (effects_below s) branch (received branch ▸ x))

  abbrev pub BranchStops : Entry → StreamTree → ℕ → Branch → Below → Type 0
  BranchStops x s first branch below =
      (texts : List (List ℕ)) (live : LiveKeys) (received : Received) → AreReadFrom texts patterns →
      FitsBranch (forked_by (kind_of s)) live.ended branch → BelowIs texts s first live received below →
      UnseenHaveTicks (forked_by (kind_of s)) live received →
      NonePast moment received → ComesAt start moment (received branch) x →
      PerformsPart old before new after (entering (effects_below s) branch (received branch ▸ x))

  -- these emissions come, each to its branch
  abbrev pub EmissionsRun : List Emission → StreamTree → ℕ → Below → Below → Type 0
  EmissionsRun es s first below below' =
      (texts : List (List ℕ)) (live : LiveKeys) (received : Received) → AreReadFrom texts patterns →
      FitAll (forked_by (kind_of s)) live.ended es → BelowIs texts s first live received below →
      UnseenHaveTicks (forked_by (kind_of s)) live received →
      AllAreAt start moment received →
      BelowIs texts s first (with_branches moment es live)
      (λ branch. after_emissions branch es (received branch)) below'
      × Performs old before new after (at_emissions (entering (effects_below s)) received es)

  -- a part of the effects is performed, and there are emissions
  abbrev pub EmissionsStop : List Emission → StreamTree → ℕ → Below → Type 0
  EmissionsStop es s first below =
      (texts : List (List ℕ)) (live : LiveKeys) (received : Received) → AreReadFrom texts patterns →
      FitAll (forked_by (kind_of s)) live.ended es → BelowIs texts s first live received below →
      UnseenHaveTicks (forked_by (kind_of s)) live received →
      AllAreAt start moment received →
      PerformsPart old before new after (at_emissions (entering (effects_below s)) received es) × (es ≡ [] → ⊥)
