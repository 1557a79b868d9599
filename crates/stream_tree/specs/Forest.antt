-- The nodes of a plan's streams: what each stream keeps between entries, the nodes of the streams below it, and its
-- forks.
use Rattle.std.specs.Prelude.{◌≡◌, ℕ, ◌+◌, ◌<◌, ◌≤◌, true, List, [], ◌∷◌, ◌++◌, length, map, Option, Some, None, IfSome}
use Rattle.std.specs.List.{AllByRecursion}
use Rattle.list_laws.specs.Counts.{greatest}
use Rattle.ev_types.specs.declared.value.Value.{Value}
use Rattle.fork_by.specs.declared.table.ForkTable.{ForkTable}
use Rattle.fork_by.specs.Table.{KeptFork, kept_forks, IsTable}
use Rattle.stream_plan.specs.Kinds.{is_in_range}
use Rattle.stream_plan.specs.Nesting.{AllEndOutermost}
use Rattle.stream_plan.specs.Ready.{plan_patterns}
use Rattle.stream_plan.specs.Tree.{KindTree, Index, Notice, By, StreamTree, StreamTrees, stream, none, also}
use Rattle.stream_meaning.specs.Branches.{child_history}
use Rattle.stream_meaning.specs.Deadlines.{plan_deadline, until}
use Rattle.stream_meaning.specs.Emission.{Branch, Children, Otherwise, Fork}
use Rattle.stream_meaning.specs.Ends.{last_moment, idle_after, times_ended, live_keys}
use Rattle.stream_meaning.specs.History.{History, moment_of}
use Rattle.stream_step.specs.declared.state.State.{State}
use Rattle.stream_step.specs.declared.state.State.TheVariants.{Forks}
use Rattle.stream_step.specs.Step.{StateRepresents}
use Rattle.stream_tree.specs.declared.forest.Forest.{Forest, out-Forest}
use Rattle.stream_tree.specs.declared.forest.Node.{Node, out-Node}

-- the numbers and the sets of all streams are in their ranges
abbrev mutual
  pub IsStreamInRange : StreamTree → Type 0
  IsStreamInRange (stream kind children otherwise) =
      (is_in_range kind ≡ true) × AreInRange children × AreInRange otherwise

  pub AreInRange : StreamTrees → Type 0
  AreInRange none = Unit {0}
  AreInRange (also first more) = IsStreamInRange first × AreInRange more

-- a stream that keeps nothing, passes nothing on, and has none below it
abbrev pub IsBare : StreamTree → Type 0
IsBare (stream Index none none) = Unit {0}
IsBare (stream (Notice name) none none) = Unit {0}
IsBare s = ⊥

abbrev pub AllBare : StreamTrees → Type 0
AllBare none = Unit {0}
AllBare (also first more) = IsBare first × AllBare more

-- ---- the parts of a node

abbrev pub nodes_of : Forest → List Node
nodes_of forest = (out-Forest forest).nodes.items

-- what a node has below its stream: the nodes of the children and of those of `else`, and the forks
pub record Below : Type 0 where
  pub children : List Node
  pub otherwise : List Node
  pub forks : ForkTable Forest

abbrev pub below_of : Forest → Forest → ForkTable Forest → Below
below_of children otherwise forks =
    record { children = nodes_of children; otherwise = nodes_of otherwise; forks = forks }

abbrev pub node_below : Node → Below
node_below node = below_of (out-Node node).children (out-Node node).otherwise (out-Node node).forks

-- of a `by`: the number of the first regular expression of its children
abbrev pub first_of : State → ℕ
first_of (Forks first) = first
first_of state = 0

-- ---- what nodes represent

-- of a `by`, each of whose forks is a copy of its children: after how many seconds without an item a fork ends, if one
-- does; the other kinds have two branches
abbrev pub forked_by : KindTree → Option (Option ℕ)
forked_by (By fields idle) = Some idle
forked_by kind = None

-- The keys of a `by` that have a live fork, in the order of these forks. Of each key: how often it ended, and the
-- moment of its last item.
pub record LiveKeys : Type 0 where
  pub keys : List (List Value)
  pub ended : List Value → ℕ
  pub last : List Value → Option ℕ

abbrev pub live_by : KindTree → History → LiveKeys
live_by (By fields idle) h = record {
  keys = live_keys idle fields h;
  ended = λ key. times_ended idle fields key h;
  last = λ key. last_moment fields key h;
}
live_by kind h = record { keys = []; ended = λ key. 0; last = λ key. None }

-- the fork to which the items of a key go
abbrev pub key_fork : LiveKeys → List Value → Branch
key_fork live key = Fork (record { key = key; number = live.ended key })

-- the nodes of streams have come to where they would be if all of this history had come to the streams
abbrev pub Meaning : Type 1
Meaning = List Node → History → Type 0

-- The fork is that of a key whose last item came at this moment. It represents what it has received, and the moment
-- that is kept for it is the least deadline of its streams, if that is not after the end of the fork. It has not ended.
pub record IsFork (Means : Meaning) (deadline : History → Option ℕ) (idle : Option ℕ) (last : Option ℕ)
    (received : History) (kept : KeptFork Forest) : Type 0 where
  pub represents : Means (nodes_of kept.fork) received
  pub last_is : last ≡ Some kept.moment
  pub due_is : kept.due ≡ until (idle_after idle last) (deadline received)
  pub came : kept.moment ≤ moment_of received
  pub goes_on : IfSome idle (λ secs. moment_of received < kept.moment + secs)

abbrev pub keys_in : ForkTable Forest → List (List Value)
keys_in forks = map (λ kept. kept.key) (kept_forks forks)

-- The table has exactly these keys, in this order, and for each the fork that represents what it has received.
pub record ForksRepresent (Means : Meaning) (deadline : History → Option ℕ) (idle : Option ℕ) (keys : List (List Value))
    (last : List Value → Option ℕ) (received : List Value → History) (forks : ForkTable Forest) : Type 0 where
  pub is_table : IsTable forks
  pub keys_are : keys_in forks ≡ keys
  pub each : AllByRecursion (λ kept. IsFork Means deadline idle (last kept.key) (received kept.key) kept)
      (kept_forks forks)

-- Copies of the streams can be made: their numbers are in their ranges, their own forks do not end, and their regular
-- expressions are those of all from number `first` on.
pub record CanFork (texts : List (List ℕ)) (streams : StreamTrees) (first : ℕ) : Type 0 where
  pub in_range : AreInRange streams
  pub endless : AllEndOutermost true streams
  pub before : List (List ℕ)
  pub after : List (List ℕ)
  pub begins : length before ≡ first
  pub among : texts ≡ before ++ (plan_patterns streams ++ after)
  pub few : length texts ≤ greatest

-- what is below a stream without forks: the nodes of its two branches represent what these have received
pub record PlainRepresents (Means Beside : Meaning) (received : Branch → History) (below : Below) : Type 0 where
  pub children : Means below.children (received Children)
  pub otherwise : Beside below.otherwise (received Otherwise)
  pub is_table : IsTable below.forks
  pub no_forks : kept_forks below.forks ≡ []

-- what is below a `by`: its forks represent what they have received, and are in the table and nowhere else
pub record ForkedRepresents (texts : List (List ℕ)) (children : StreamTrees) (first : ℕ) (Means : Meaning)
    (idle : Option ℕ) (live : LiveKeys) (received : Branch → History) (below : Below) : Type 0 where
  pub can_fork : CanFork texts children first
  pub lasts : IfSome idle (λ secs. 0 < secs)
  pub forks : ForksRepresent Means (plan_deadline children) idle live.keys live.last
      (λ key. received (key_fork live key)) below.forks
  pub no_children : below.children ≡ []
  pub no_otherwise : below.otherwise ≡ []

-- what is below a stream represents what its branches have received
abbrev pub BelowRepresents : List (List ℕ) → StreamTrees → ℕ → Meaning → Meaning → Option (Option ℕ) → LiveKeys
    → (Branch → History) → Below → Type 0
BelowRepresents texts children first Means Beside None live received below = PlainRepresents Means Beside received below
BelowRepresents texts children first Means Beside (Some idle) live received below =
    ForkedRepresents texts children first Means idle live received below

-- The nodes have come to where they would be if all of this history had come to their streams. There is one for each of
-- the first streams; those after them have none, and are bare. The texts are those of the regular expressions of the
-- whole plan.
abbrev mutual
  pub PartsRepresent : List (List ℕ) → StreamTree → State → Below → History → Type 0
  PartsRepresent texts (stream kind children otherwise) state below h =
      StateRepresents texts kind state h
      × BelowRepresents texts children (first_of state) (ForestRepresents texts children)
      (ForestRepresents texts otherwise) (forked_by kind) (live_by kind h) (λ branch. child_history kind branch h) below

  pub ForestRepresents : List (List ℕ) → StreamTrees → List Node → History → Type 0
  ForestRepresents texts streams [] h = AllBare streams
  ForestRepresents texts none (node ∷ nodes) h = ⊥
  ForestRepresents texts (also first more) (node ∷ nodes) h =
      PartsRepresent texts first (out-Node node).state (node_below node) h
      × ForestRepresents texts more nodes h

abbrev pub NodeRepresents : List (List ℕ) → StreamTree → Node → History → Type 0
NodeRepresents texts s node h = PartsRepresent texts s (out-Node node).state (node_below node) h
