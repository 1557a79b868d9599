-- The fork of a key, which is made where there is none, and that of an event whose key is known.
use Rattle.std.specs.Prelude.{◌≡◌, ℕ, ◌≤◌, true, false, eqb, List, Option, Some}
use Rattle.std.specs.List.{AllByRecursion}
use Rattle.ev_types.specs.declared.event.Event.{Event}
use Rattle.ev_types.specs.declared.field.Field.{Field}
use Rattle.ev_types.specs.declared.item.Item.TheVariants.{One}
use Rattle.ev_types.specs.declared.value.Value.{Value}
use Rattle.ev_types.specs.Key.{same_key, event_key}
use Rattle.fork_by.specs.declared.table.ForkTable.{ForkTable}
use Rattle.fork_by.specs.Labels.{IsLive}
use Rattle.fork_by.specs.Table.{KeptFork, fork_labels, kept_forks, kept_number, HasFork, IsTable}
use Rattle.stream_plan.specs.Tree.{KindTree, By, StreamTrees}
use Rattle.stream_meaning.specs.Branches.{with_key}
use Rattle.stream_meaning.specs.Deadlines.{plan_deadline}
use Rattle.stream_meaning.specs.declared.entry.Entry.{Entry}
use Rattle.stream_meaning.specs.declared.entry.Entry.TheVariants.{Item as In}
use Rattle.stream_meaning.specs.History.{History, begun, moment_of, TicksAlone}
use Rattle.stream_meaning.specs.Laws.{is_among}
use Rattle.stream_tree.specs.declared.forest.Forest.{Forest}
use Rattle.stream_tree.specs.Forest.{Meaning, nodes_of, keys_in, CanFork, IsFork, ForksRepresent, ForestRepresents}

-- of a fork in a table in which this number is that of the key: the fork of the key has received what it had received
-- before, and its last item comes now; all others are as they were
pub record IsFound (Means : Meaning) (deadline : History → Option ℕ) (idle : Option ℕ) (key : List Value)
    (now number : ℕ) (last : List Value → Option ℕ) (received : List Value → History)
    (kept : KeptFork Forest) : Type 0 where
  pub numbered : eqb kept.number number ≡ same_key key kept.key
  pub here : same_key key kept.key ≡ true → Means (nodes_of kept.fork) (received key) × (kept.moment ≡ now)
  pub elsewhere : same_key key kept.key ≡ false → IsFork Means deadline idle (last kept.key) (received kept.key) kept

-- the number is that of the fork of the key
pub record FoundAt (texts : List (List ℕ)) (streams : StreamTrees) (idle : Option ℕ) (key : List Value) (now : ℕ)
    (keys : List (List Value)) (last : List Value → Option ℕ) (received : List Value → History)
    (forks : ForkTable Forest) (number : ℕ) : Type 0 where
  pub is_table : IsTable forks
  pub has_fork : HasFork number forks
  pub keys_are : keys_in forks ≡ with_key key keys
  pub each : AllByRecursion
      (IsFound (ForestRepresents texts streams) (plan_deadline streams) idle key now number last received)
      (kept_forks forks)

-- it is found wherever no fork has come past this moment and a fork that is not there has received nothing but ticks
abbrev pub Finds : StreamTrees → ℕ → ℕ → ℕ → List Value → ForkTable Forest → ForkTable Forest → ℕ → Type 0
Finds streams first start now key forks forks' number =
    (texts : List (List ℕ)) (idle : Option ℕ) (keys : List (List Value)) (last : List Value → Option ℕ)
    (received : List Value → History) →
    CanFork texts streams first →
    ForksRepresent (ForestRepresents texts streams) (plan_deadline streams) idle keys last received forks →
    (is_among key keys ≡ false → TicksAlone (received key)) → begun (received key) ≡ start →
    ((other : List Value) → moment_of (received other) ≤ now) →
    FoundAt texts streams idle key now keys last received forks' number

-- an event comes to a `by`, and the number is that of its key
pub record IsKnown (kind : KindTree) (x : Entry) (forks : ForkTable Forest) (number : ℕ) : Type 0 where
  pub fields : List Field
  pub idle : Option ℕ
  pub event : Event
  pub is_by : kind ≡ By fields idle
  pub comes : x ≡ In (One event)
  pub live : IsLive number (fork_labels forks)
  pub found : IsTable forks → kept_number (event_key event fields) (kept_forks forks) ≡ Some number
  pub has : IsTable forks → HasFork number forks
