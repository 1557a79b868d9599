-- What the children of a stream receive.
use Rattle.std.specs.Prelude.{ℕ, Bool, true, false, if◌then◌else◌, List, [], ◌∷◌, ◌++◌, map, Option}
use Rattle.std.specs.List.{list_any}
use Rattle.ev_types.specs.declared.field.Field.{Field}
use Rattle.ev_types.specs.declared.item.Item.TheVariants.{One, Many}
use Rattle.ev_types.specs.declared.value.Value.{Value}
use Rattle.ev_types.specs.Key.{same_key, event_key}
use Rattle.stream_plan.specs.Tree.{KindTree, By}
use Rattle.stream_meaning.specs.History.{History, since, ◌▸◌, Entry, Tick, In}
use Rattle.stream_meaning.specs.Ends.{KeyFork, same_fork, live_forks}
use Rattle.stream_meaning.specs.Emission.{Branch, Children, Otherwise, Fork, Emission, emissions}

abbrev pub same_branch : Branch → Branch → Bool
same_branch Children Children = true
same_branch Otherwise Otherwise = true
same_branch (Fork a) (Fork b) = same_fork a b
same_branch _ _ = false

-- a branch's history once those of these emissions that go to it have come
abbrev pub after_emissions : Branch → List Emission → History → History
after_emissions branch [] h = h
after_emissions branch (emission ∷ more) h =
    after_emissions branch more (if same_branch emission.branch branch then h ▸ In emission.item else h)

-- a branch's history once a tick came to it, where the entry is one
abbrev pub ticked : Entry → History → History
ticked Tick h = h ▸ Tick
ticked (In item) h = h

-- what a branch has received: at each entry the tick, where it is one, and then what the stream passes on to the branch
abbrev pub child_history : KindTree → Branch → History → History
child_history kind branch (since start) = since start
child_history kind branch (h ▸ x) =
    after_emissions branch (emissions kind (h ▸ x)) (ticked x (child_history kind branch h))

-- the keys, and one more where it is not among them
abbrev pub with_key : List Value → List (List Value) → List (List Value)
with_key key keys = if list_any (λ other. same_key other key) keys then keys else keys ++ key ∷ []

-- the keys of the events that came, in the order in which they first appeared
abbrev pub fork_keys : List Field → History → List (List Value)
fork_keys fields (since start) = []
fork_keys fields (h ▸ Tick) = fork_keys fields h
fork_keys fields (h ▸ In (One event)) = with_key (event_key event fields) (fork_keys fields h)
fork_keys fields (h ▸ In (Many es)) = fork_keys fields h

-- what a fork has received
abbrev pub fork_history : Option ℕ → List Field → KeyFork → History → History
fork_history idle fields fork = child_history (By fields idle) (Fork fork)

-- the branches of a stream, in their order: of a `by` the forks that are live
abbrev pub branches : KindTree → History → List Branch
branches (By fields idle) h = map Fork (live_forks idle fields h)
branches _ h = Children ∷ (Otherwise ∷ [])
