-- What one `by` on host and service does for a key depends on the events of that key alone, also if its forks end.
use Rattle.std.specs.Prelude.{◌≡◌, ℕ, Bool, ◌&&◌, IsTrue, IsFalse, List, [], filter, Option}
use Rattle.std.specs.List.{AllByRecursion}
use Rattle.ev_types.specs.declared.event.Event.{Event}
use Rattle.ev_types.specs.declared.field.Field.{Field}
use Rattle.ev_types.specs.declared.item.Item.TheVariants.{One}
use Rattle.ev_types.specs.declared.item.Output.{Output}
use Rattle.ev_types.specs.declared.value.Value.{Value}
use Rattle.index_log.specs.OfKey.{are_index_fields, event_has}
use Rattle.stream_plan.specs.Tree.{By, StreamTrees, stream, none, also}
use Rattle.stream_meaning.specs.History.{History, ◌▸◌, Tick, In}
use Rattle.stream_meaning.specs.Ends.{fork_at}
use Rattle.stream_meaning.specs.Branches.{fork_history}
use Rattle.stream_meaning.specs.Outputs.{outputs_at, outputs_of}
use Rattle.stream_meaning.specs.Keys.{output_has, plan_keeps}
use Rattle.stream_meaning.specs.Laws.{of_key}

-- the plan is one `by` on these fields
abbrev pub one_by : Option ℕ → List Field → StreamTrees → StreamTrees → StreamTrees
one_by idle fields children otherwise = also (stream (By fields idle) children otherwise) none

-- its fields are the host or the service or both, and no stream below it changes them
abbrev pub keeps_keys : List Field → StreamTrees → StreamTrees → Bool
keeps_keys fields children otherwise =
    are_index_fields fields && (plan_keeps fields children && plan_keeps fields otherwise)

-- the outputs of a key at the last entry
abbrev pub outputs_for : List Field → List Value → StreamTrees → History → List Output
outputs_for fields key plan h = filter (output_has fields key) (outputs_at plan h)

-- the outputs of a key are those of the fork to which its events go, at a tick and at an event of the key; an event of
-- another key does nothing to either
pub record ActsByForks (idle : Option ℕ) (fields : List Field) (key : List Value) (children otherwise : StreamTrees)
    (h : History) : Type 0 where
  pub tick : outputs_for fields key (one_by idle fields children otherwise) (h ▸ Tick)
      ≡ outputs_at children (fork_history idle fields (fork_at idle fields key h) h ▸ Tick)
  pub own_event : (event : Event) → IsTrue (event_has fields key event) →
      outputs_for fields key (one_by idle fields children otherwise) (h ▸ In (One event))
      ≡ outputs_at children (fork_history idle fields (fork_at idle fields key h) h ▸ In (One event))
  pub other_event : (event : Event) → IsFalse (event_has fields key event)
      → outputs_for fields key (one_by idle fields children otherwise) (h ▸ In (One event)) ≡ []
  pub other_fork : (event : Event) → IsFalse (event_has fields key event)
      → fork_history idle fields (fork_at idle fields key h) (h ▸ In (One event))
      ≡ fork_history idle fields (fork_at idle fields key h) h

abbrev pub KeysActByForks : Type 0
KeysActByForks =
    (idle : Option ℕ) (fields : List Field) (key : List Value) (children otherwise : StreamTrees) (h : History) →
    IsTrue (keeps_keys fields children otherwise) →
    ActsByForks idle fields key children otherwise h

-- the outputs of a key over a history are the outputs over the ticks and the events of the key
abbrev pub KeysHaveTheirOutputs : Type 0
KeysHaveTheirOutputs =
    (idle : Option ℕ) (fields : List Field) (key : List Value) (children otherwise : StreamTrees) (h : History) →
    IsTrue (keeps_keys fields children otherwise) →
    filter (output_has fields key) (outputs_of (one_by idle fields children otherwise) h)
    ≡ outputs_of (one_by idle fields children otherwise) (of_key fields key h)

-- the output has a key, and no other
pub record HasOneKey (fields : List Field) (output : Output) : Type 0 where
  pub key : List Value
  pub has : IsTrue (output_has fields key output)
  pub only : (other : List Value) → IsTrue (output_has fields other output) → other ≡ key

abbrev pub OutputsHaveOneKey : Type 0
OutputsHaveOneKey =
    (idle : Option ℕ) (fields : List Field) (children otherwise : StreamTrees) (h : History) →
    IsTrue (keeps_keys fields children otherwise) →
    AllByRecursion (HasOneKey fields) (outputs_of (one_by idle fields children otherwise) h)
