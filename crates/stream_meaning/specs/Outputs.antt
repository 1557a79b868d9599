-- The effects of a plan at the last entry of its history: its notices and writes, and the forks that it enters.
use Rattle.std.specs.Prelude.{ℕ, ◌+◌, if◌then◌else◌, List, [], ◌∷◌, ◌++◌}
use Rattle.std.specs.List.{flat_map}
use Rattle.ev_types.specs.declared.item.Item.TheVariants.{One}
use Rattle.ev_types.specs.declared.item.Output.{Output}
use Rattle.ev_types.specs.declared.item.Output.TheVariants.{Notice as notice, Write as write}
use Rattle.stream_plan.specs.Tree.{KindTree, Index, Notice, By, StreamTree, StreamTrees, stream, none, also}
use Rattle.stream_meaning.specs.History.{History, since, ◌▸◌, Entry, Tick, In, moment_of}
use Rattle.stream_meaning.specs.Emission.{Branch, Children, Otherwise, Fork, Emission, emissions}
use Rattle.stream_meaning.specs.Branches.{same_branch, ticked, child_history, branches}

pub data Effect : Type 0 where
  -- a stream passes something on at a tick
  Emits : Effect
  -- a fork is due: a stream in it passes something on at the tick
  Due : Effect
  -- an item comes to a `by`
  Given : Effect
  -- a notice or a write
  Put : Output → Effect

-- the effects of a stream itself at an item
abbrev pub at_item : KindTree → History → List Effect
at_item Index (h ▸ In (One event)) = Put (write event) ∷ []
at_item (Notice name) (h ▸ In item) = Put (notice (record { name = name; moment = moment_of h; item = item })) ∷ []
at_item (By fields idle) (h ▸ In (One event)) = Given ∷ []
at_item kind h = []

abbrev pub emits_if_any : List Emission → List Effect
emits_if_any [] = []
emits_if_any (emission ∷ more) = Emits ∷ []

-- the effects of a stream itself at an entry
abbrev pub own_effects : KindTree → History → List Effect
own_effects kind (since start) = []
own_effects kind (h ▸ Tick) = emits_if_any (emissions kind (h ▸ Tick))
own_effects kind (h ▸ In item) = at_item kind (h ▸ In item)

abbrev pub due_if_any : List Effect → List Effect
due_if_any [] = []
due_if_any (first ∷ more) = Due ∷ (first ∷ more)

-- the effects in a branch at a tick; a fork that has some is due
abbrev pub marked : Branch → List Effect → List Effect
marked Children effects = effects
marked Otherwise effects = effects
marked (Fork fork) effects = due_if_any effects

-- the effects below a branch at the last entry of its history
abbrev pub BranchEffects : Type 0
BranchEffects = Branch → History → List Effect

-- a tick goes to each branch that was there before it, which has received this so far
abbrev pub at_tick : Entry → BranchEffects → (Branch → History) → List Branch → List Effect
at_tick Tick effects_in received below =
    flat_map (λ branch. marked branch (effects_in branch (received branch ▸ Tick))) below
at_tick (In item) effects_in received below = []

-- what a branch has received once one more emission was made
abbrev pub received_more : Emission → (Branch → History) → Branch → History
received_more emission received branch =
    if same_branch emission.branch branch then received branch ▸ In emission.item else received branch

-- each emission goes to its branch, which has received this so far, before the next one is made
abbrev pub at_emissions : BranchEffects → (Branch → History) → List Emission → List Effect
at_emissions effects_in received [] = []
at_emissions effects_in received (emission ∷ more) =
    effects_in emission.branch (received emission.branch ▸ In emission.item)
    ++ at_emissions effects_in (received_more emission received) more

-- below a `by` each fork is a copy of the children
abbrev pub branch_effects : (History → List Effect) → (History → List Effect) → BranchEffects
branch_effects children otherwise Children = children
branch_effects children otherwise Otherwise = otherwise
branch_effects children otherwise (Fork fork) = children

-- the effects of a stream and of all below it at the last entry: first its own, then those of the tick, then those of
-- its emissions
abbrev mutual
  pub stream_effects : StreamTree → History → List Effect
  stream_effects (stream kind children otherwise) (since start) = []
  stream_effects (stream kind children otherwise) (h ▸ x) =
      own_effects kind (h ▸ x)
      ++ at_tick x (branch_effects (plan_effects children) (plan_effects otherwise))
      (λ branch. child_history kind branch h) (branches kind h)
      ++ at_emissions (branch_effects (plan_effects children) (plan_effects otherwise))
      (λ branch. ticked x (child_history kind branch h)) (emissions kind (h ▸ x))

  pub plan_effects : StreamTrees → History → List Effect
  plan_effects none h = []
  plan_effects (also first more) h = stream_effects first h ++ plan_effects more h

-- the notices and writes among the effects
abbrev pub outputs_among : List Effect → List Output
outputs_among [] = []
outputs_among (Put output ∷ more) = output ∷ outputs_among more
outputs_among (first ∷ more) = outputs_among more

-- the outputs of a plan at the last entry
abbrev pub outputs_at : StreamTrees → History → List Output
outputs_at plan h = outputs_among (plan_effects plan h)

-- its outputs over the whole history
abbrev pub outputs_of : StreamTrees → History → List Output
outputs_of plan (since start) = []
outputs_of plan (h ▸ x) = outputs_of plan h ++ outputs_at plan (h ▸ x)

-- how many forks are due among the effects, nested ones too
abbrev pub due_among : List Effect → ℕ
due_among [] = 0
due_among (Due ∷ more) = due_among more + 1
due_among (first ∷ more) = due_among more

-- how often an item comes to a `by`
abbrev pub given_among : List Effect → ℕ
given_among [] = 0
given_among (Given ∷ more) = given_among more + 1
given_among (first ∷ more) = given_among more

-- how many forks are due at the last entry
abbrev pub due_forks : StreamTrees → History → ℕ
due_forks plan h = due_among (plan_effects plan h)

-- how often at the last entry an item comes to a `by`
abbrev pub forks_given : StreamTrees → History → ℕ
forks_given plan h = given_among (plan_effects plan h)
