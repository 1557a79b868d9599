-- Laws of what streams mean.
use Rattle.std.specs.Prelude.{◌≡◌, ℕ, ◌+◌, ◌-◌, ◌%◌, ◌<◌, ◌==◌, Bool, if◌then◌else◌, IsFalse, List, [], ◌∷◌, ◌++◌}
use Rattle.std.specs.Prelude.{Option}
use Rattle.std.specs.List.{flat_map, list_any, IsDistinct}
use Rattle.ev_types.specs.declared.field.Field.{Field}
use Rattle.ev_types.specs.declared.item.Item.{Item}
use Rattle.ev_types.specs.declared.item.Item.TheVariants.{One, Many}
use Rattle.ev_types.specs.declared.item.Output.{Output}
use Rattle.ev_types.specs.declared.value.Value.{Value}
use Rattle.ev_types.specs.Key.{same_key, event_key}
use Rattle.stream_plan.specs.Tree.{KindTree, StreamTree, StreamTrees, stream, none, also}
use Rattle.stream_meaning.specs.History.{History, since, ◌▸◌, Entry, Tick, In, begun, moment_of, window_of, TicksAlone}
use Rattle.stream_meaning.specs.Ends.{KeyFork, same_fork, fork_of, forks_that_came, live_forks}
use Rattle.stream_meaning.specs.Emission.{Branch, Children, Otherwise, Fork, Emission, emissions}
use Rattle.stream_meaning.specs.Branches.{ticked, child_history, branches, fork_keys, fork_history}
use Rattle.stream_meaning.specs.Outputs.{at_item, received_more, outputs_among, plan_effects, outputs_at, outputs_of}

abbrev pub TicksEmitNothing : Type 0
TicksEmitNothing = (kind : KindTree) (h : History) → TicksAlone h → emissions kind h ≡ []

abbrev pub TicksReachBranches : Type 0
TicksReachBranches = (kind : KindTree) (branch : Branch) (h : History) → TicksAlone h → child_history kind branch h ≡ h

abbrev pub TicksMakeNoFork : Type 0
TicksMakeNoFork = (idle : Option ℕ) (fields : List Field) (h : History) → TicksAlone h → live_forks idle fields h ≡ []

abbrev pub TicksAreQuiet : Type 0
TicksAreQuiet = (plan : StreamTrees) (h : History) → TicksAlone h → plan_effects plan h ≡ []

-- what the children of a branch are
abbrev pub below : StreamTrees → StreamTrees → Branch → StreamTrees
below children otherwise Children = children
below children otherwise Otherwise = otherwise
below children otherwise (Fork fork) = children

-- the outputs of a stream itself: an index writes an event, a notice gives an item
abbrev pub own_outputs : KindTree → History → List Output
own_outputs kind (since start) = []
own_outputs kind (h ▸ Tick) = []
own_outputs kind (h ▸ In item) = outputs_among (at_item kind (h ▸ In item))

-- the outputs below at a tick, branch by branch
abbrev pub outputs_at_tick : Entry → (Branch → StreamTrees) → (Branch → History) → List Branch → List Output
outputs_at_tick Tick below received branches =
    flat_map (λ branch. outputs_at (below branch) (received branch ▸ Tick)) branches
outputs_at_tick (In item) below received branches = []

-- the outputs below at each emission, in order
abbrev pub outputs_at_emissions : (Branch → StreamTrees) → (Branch → History) → List Emission → List Output
outputs_at_emissions below received [] = []
outputs_at_emissions below received (emission ∷ more) =
    outputs_at (below emission.branch) (received emission.branch ▸ In emission.item)
    ++ outputs_at_emissions below (received_more emission received) more

abbrev pub OutputsAreInOrder : Type 0
OutputsAreInOrder = (kind : KindTree) (children otherwise : StreamTrees) (h : History) (x : Entry) →
    outputs_at (also (stream kind children otherwise) none) (h ▸ x)
    ≡ own_outputs kind (h ▸ x)
    ++ (outputs_at_tick x (below children otherwise) (λ branch. child_history kind branch h) (branches kind h)
    ++ outputs_at_emissions (below children otherwise) (λ branch. ticked x (child_history kind branch h))
    (emissions kind (h ▸ x)))

-- outputs come stream by stream, and over a history entry by entry
pub record OutputsGrow : Type 0 where
  pub streams : (first : StreamTree) (more : StreamTrees) (h : History)
      → outputs_at (also first more) h ≡ outputs_at (also first none) h ++ outputs_at more h
  pub nothing : (h : History) → outputs_at none h ≡ []
  pub entries : (plan : StreamTrees) (h : History) (x : Entry)
      → outputs_of plan (h ▸ x) ≡ outputs_of plan h ++ outputs_at plan (h ▸ x)

-- a history without the events of other keys
abbrev pub of_key : List Field → List Value → History → History
of_key fields key (since start) = since start
of_key fields key (h ▸ Tick) = of_key fields key h ▸ Tick
of_key fields key (h ▸ In (One event)) =
    if same_key (event_key event fields) key then of_key fields key h ▸ In (One event) else of_key fields key h
of_key fields key (h ▸ In (Many es)) = of_key fields key h

-- a history without the events of other forks
abbrev pub of_fork : Option ℕ → List Field → KeyFork → History → History
of_fork idle fields fork (since start) = since start
of_fork idle fields fork (h ▸ Tick) = of_fork idle fields fork h ▸ Tick
of_fork idle fields fork (h ▸ In (One event)) =
    if same_fork (fork_of idle fields event h) fork then of_fork idle fields fork h ▸ In (One event)
    else of_fork idle fields fork h
of_fork idle fields fork (h ▸ In (Many es)) = of_fork idle fields fork h

abbrev pub ForksHaveTheirEvents : Type 0
ForksHaveTheirEvents =
    (idle : Option ℕ) (fields : List Field) (fork : KeyFork) (h : History)
    → fork_history idle fields fork h ≡ of_fork idle fields fork h

-- no key comes twice
abbrev pub ForkKeysAreApart : Type 0
ForkKeysAreApart = (fields : List Field) (h : History) → IsDistinct same_key (fork_keys fields h)

abbrev pub is_among : List Value → List (List Value) → Bool
is_among key = list_any (λ other. same_key other key)

-- a fork has ticks alone until its first event comes
abbrev pub UnseenForksHaveTicks : Type 0
UnseenForksHaveTicks =
    (idle : Option ℕ) (fields : List Field) (fork : KeyFork) (h : History) →
    IsFalse (list_any (λ other. same_fork other fork) (forks_that_came idle fields h)) →
    TicksAlone (fork_history idle fields fork h)

-- how many ticks have come
abbrev pub tick_count : History → ℕ
tick_count (since start) = 0
tick_count (h ▸ Tick) = tick_count h + 1
tick_count (h ▸ In item) = tick_count h

abbrev pub MomentsAreCounted : Type 0
MomentsAreCounted = (h : History) → moment_of h ≡ begun h + tick_count h

pub record SameMoments (a b : History) : Type 0 where
  pub begins : begun a ≡ begun b
  pub ends : moment_of a ≡ moment_of b

abbrev pub BranchesKeepMoments : Type 0
BranchesKeepMoments = (kind : KindTree) (branch : Branch) (h : History) → SameMoments (child_history kind branch h) h

abbrev pub WindowsAreMultiples : Type 0
WindowsAreMultiples = (secs : ℕ) (h : History) → 0 < secs →
    window_of secs (h ▸ Tick)
    ≡ (if (moment_of (h ▸ Tick) - begun h) % secs == 0 then window_of secs h + 1 else window_of secs h)

-- an item that is not an empty vector
abbrev pub IsNotEmpty : Item → Type 0
IsNotEmpty (One event) = Unit {0}
IsNotEmpty (Many []) = ⊥
IsNotEmpty (Many (event ∷ es)) = Unit {0}

abbrev pub AreNotEmpty : List Emission → Type 0
AreNotEmpty [] = Unit {0}
AreNotEmpty (emission ∷ more) = IsNotEmpty emission.item × AreNotEmpty more

-- the last entry is not an empty vector
abbrev pub EndsWell : History → Type 0
EndsWell (since start) = Unit {0}
EndsWell (h ▸ Tick) = Unit {0}
EndsWell (h ▸ In item) = IsNotEmpty item

abbrev pub VectorsAreNotEmpty : Type 0
VectorsAreNotEmpty = (kind : KindTree) (h : History) → EndsWell h → AreNotEmpty (emissions kind h)
