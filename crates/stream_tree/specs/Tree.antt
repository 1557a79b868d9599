-- A tree of streams that runs, and the histories that it represents.
use Rattle.std.specs.Prelude.{◌≡◌, ◌+◌, ◌≤◌, Bool, false, if◌then◌else◌, List, [], ◌∷◌, ◌++◌}
use Rattle.ev_types.specs.declared.event.Event.{Event}
use Rattle.ev_types.specs.declared.item.Output.{Output}
use Rattle.ev_types.specs.declared.item.Output.TheVariants.{Write}
use Rattle.list_laws.specs.Prefix.{IsPrefix}
use Rattle.step_count.specs.Count.{StepCount}
use Rattle.stream_plan.specs.Ready.{plan_patterns}
use Rattle.stream_plan.specs.Tree.{StreamTrees}
use Rattle.stream_meaning.specs.History.{History, begun}
use Rattle.stream_meaning.specs.Outputs.{Effect, outputs_among, due_among, given_among}
use Rattle.stream_tree.specs.declared.tree.Tree.{Tree}
use Rattle.stream_tree.specs.Forest.{nodes_of, ForestRepresents}

-- the plan that it runs
abbrev pub plan_of : Tree → StreamTrees
plan_of tree = tree.plan

-- a call ran out of memory, so that each later call answers `Memory` too
abbrev pub is_poisoned : Tree → Bool
is_poisoned tree = tree.poisoned

-- the tree has come to where it would be if all of this history had come to it since the moment at which it began
pub record Represents (tree : Tree) (h : History) : Type 0 where
  pub alive : is_poisoned tree ≡ false
  pub begins : begun h ≡ tree.start
  pub represents : ForestRepresents (plan_patterns (plan_of tree)) (plan_of tree) (nodes_of tree.forest) h

-- the outputs, and after them the write of the event where it was answered and not appended
abbrev pub with_write : Bool → Event → List Output → List Output
with_write is_write_due event outputs = if is_write_due then outputs ++ Write event ∷ [] else outputs

-- The effects are performed in order, and counted: a fork is entered where it is due and where an item comes to it, and
-- an entry is visited for each fork that is due. The count goes on from where it began, so its ledger counts the same.
pub record Performs {G : Type 0} (old : List Output) (before : StepCount G) (new : List Output) (after : StepCount G)
    (effects : List Effect) : Type 0 where
  pub outputs : new ≡ old ++ outputs_among effects
  pub forks : after.forks ≡ before.forks + (due_among effects + given_among effects)
  pub entries : after.entries ≡ before.entries + due_among effects
  pub began : after.began ≡ before.began

-- A part of the effects is performed: a prefix of the outputs is put after what was there, no more is counted than for
-- all of the effects, and no count falls.
pub record PerformsPart {G : Type 0} (old : List Output) (before : StepCount G) (new : List Output)
    (after : StepCount G) (effects : List Effect) : Type 0 where
  pub begins : IsPrefix old new
  pub within : IsPrefix new (old ++ outputs_among effects)
  pub forks : after.forks ≤ before.forks + (due_among effects + given_among effects)
  pub entries : after.entries ≤ before.entries + due_among effects
  pub no_fewer_forks : before.forks ≤ after.forks
  pub no_fewer_entries : before.entries ≤ after.entries
  pub began : after.began ≡ before.began
