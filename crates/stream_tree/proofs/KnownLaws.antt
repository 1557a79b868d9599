-- An event that comes to a `by` and whose fork is known: it goes there as if its key had been made.
use Rattle.std.proofs.Common.{◌≡◌, ℕ, List, map, Option, refl, sym, ap, ◌∙◌, subst}
use mathlib.Core.Bool.{true≢false}
use Rattle.std.proofs.lemmas.List.{append-nil}
use Rattle.ev_types.specs.declared.event.Event.{Event}
use Rattle.ev_types.specs.declared.field.Field.{Field}
use Rattle.ev_types.specs.declared.item.Item.TheVariants.{One}
use Rattle.ev_types.specs.declared.item.Output.{Output}
use Rattle.ev_types.specs.declared.value.Value.{Value}
use Rattle.ev_types.specs.Key.{event_key}
use Rattle.fork_by.specs.declared.table.ForkTable.{ForkTable}
use Rattle.fork_by.specs.Labels.{IsLatest}
use Rattle.fork_by.specs.Table.{fork_labels, kept_forks, fork_touched, HasFork, IsTable}
use Rattle.step_count.specs.Count.{StepCount}
use Rattle.regex.specs.declared.string.regex.Regex.{Regex}
use Rattle.stream_plan.specs.declared.plan.Stream.{Stream, out-Stream}
use Rattle.stream_plan.specs.Search.{opened}
use Rattle.stream_plan.specs.Tree.{KindTree, By, kind_tree, list_trees}
use Rattle.stream_meaning.specs.declared.entry.Entry.{Entry}
use Rattle.stream_meaning.specs.declared.entry.Entry.TheVariants.{Item as In}
use Rattle.stream_meaning.specs.History.{History, ◌▸◌}
use Rattle.stream_step.specs.declared.passed.Passed.TheVariants.{Keyed}
use Rattle.stream_step.specs.declared.state.State.{State}
use Rattle.stream_step.specs.declared.state.State.TheVariants as variant
use Rattle.stream_step.specs.stream_states.Kept.{keeps}
use Rattle.stream_step.specs.Step.{StateRepresents}
use Rattle.stream_step.proofs.KeptLaws.{kept_keeps}
use Rattle.stream_step.proofs.StepLaws.{keyed}
use Rattle.stream_tree.specs.declared.forest.Forest.{Forest}
use Rattle.stream_tree.specs.Ends.{idle_by}
use Rattle.stream_tree.specs.Forest.{below_of, first_of}
use Rattle.stream_tree.specs.Forks.{Finds, IsKnown}
use Rattle.stream_tree.specs.Running.{kind_of, children_of, ForkRuns, ForkStops, StreamRuns, StreamStops}
use Rattle.stream_tree.proofs.BelowLaws.{item_waits, key_run, key_stops, keyed_run, keyed_stop}
use Rattle.stream_tree.proofs.ForkLaws.{found_known}
use Rattle.stream_tree.proofs.StreamLaws.{StateActs, stream_runs, stream_passed_stops}

-- the state of a `by` has a number alone, so it stays
by_stays : (texts : List (List ℕ)) (fields : List Field) (idle : Option ℕ) (state : State) (h : History) (x : Entry)
    → StateRepresents texts (By fields idle) state h → StateRepresents texts (By fields idle) state (h ▸ x)
by_stays texts fields idle (variant.Kept held) h x represents =
    absurd (true≢false (sym (kept_keeps held) ∙ ap keeps represents.keeps.same_kind))
by_stays texts fields idle variant.Empty h x represents =
    record { in_range = represents.in_range; keeps = represents.keeps }
by_stays texts fields idle (variant.Rule first count) h x represents =
    record { in_range = represents.in_range; keeps = represents.keeps }
by_stays texts fields idle (variant.Forks first) h x represents =
    record { in_range = represents.in_range; keeps = represents.keeps }

by_acts : (patterns : List Regex) (moment : ℕ) (fields : List Field) (idle : Option ℕ) (event : Event) (state : State)
    (a : List Output) →
    StateActs patterns moment (By fields idle) (In (One event)) state state (Keyed (event_key event fields)) a a
by_acts patterns moment fields idle event state a = λ texts h from represents at small. record {
  represents = by_stays texts fields idle state h (In (One event)) represents;
  said = sym (append-nil a);
  passes = keyed fields idle (event_key event fields) event h refl;
}

module _ (patterns : List Regex) (start moment : ℕ) (s : Stream) (x : Entry)
    (forks found : ForkTable Forest) (number : ℕ) (known : IsKnown (kind_tree (out-Stream s).kind) x forks number)
    (touched : IsLatest moment (fork_labels forks) →
    kept_forks found ≡ map (fork_touched number moment) (kept_forks forks))
    (table : IsTable forks → IsTable found)
    (still : (other : ℕ) → HasFork other forks → HasFork other found) where
  abbrev key : List Value
  key = event_key known.event known.fields

  finds : (first : ℕ) → Finds (list_trees (out-Stream s).children.items) first start moment key forks found number
  finds first =
      found_known (list_trees (out-Stream s).children.items) first start moment key forks found number
      (λ is_table. sym (known.found is_table)) known.has touched table still

  acts : (state : State) (a : List Output)
      → StateActs patterns moment (kind_tree (out-Stream s).kind) x state state (Keyed key) a a
  acts state a =
      subst (λ (y : Entry). StateActs patterns moment (kind_tree (out-Stream s).kind) y state state (Keyed key) a a)
      (sym known.comes)
      (subst (λ (kind : KindTree). StateActs patterns moment kind (In (One known.event)) state state (Keyed key) a a)
      (sym known.is_by) (by_acts patterns moment known.fields known.idle known.event state a))

  pub known_runs : {G : Type 0} (state : State) (children otherwise : Forest) (a b : List Output)
      (t u : StepCount G) (forks' : ForkTable Forest) →
      ForkRuns patterns start moment a t b u x (children_of (opened s)) (idle_by (kind_of (opened s))) number found
      forks' →
      StreamRuns patterns start moment a t b u x (opened s) state (below_of children otherwise forks) state
      (below_of children otherwise forks')
  known_runs state children otherwise a b t u forks' runs =
      let below = below_of children otherwise forks in
      let below' = below_of children otherwise forks' in
      stream_runs patterns start moment s x state state (Keyed key) a a a b t t u below below below' (acts state a)
      (λ same. refl)
      (item_waits patterns start moment (opened s) x (One known.event) a t below known.comes (first_of state))
      (keyed_run patterns start moment (opened s) (first_of state) key (One known.event) (Keyed key) x a b t u below
      below' refl known.comes
      (λ ended. key_run patterns start moment s (out-Stream s).children.items refl (first_of state) key x children
      otherwise forks found number (finds (first_of state)) ended a b t u forks' runs))

  pub known_stops : {G : Type 0} (state : State) (children otherwise : Forest) (a b : List Output)
      (t u : StepCount G) →
      ForkStops patterns start moment a t b u x (children_of (opened s)) number found →
      StreamStops patterns start moment a t b u x (opened s) state (below_of children otherwise forks)
  known_stops state children otherwise a b t u stops =
      let below = below_of children otherwise forks in
      stream_passed_stops patterns start moment s x state state (Keyed key) a a a b t t u below below (acts state a)
      (λ same. refl)
      (item_waits patterns start moment (opened s) x (One known.event) a t below known.comes (first_of state))
      (keyed_stop patterns start moment (opened s) (first_of state) key (One known.event) (Keyed key) x a b t u below
      refl known.comes
      (λ ended. key_stops patterns start moment s (out-Stream s).children.items refl (first_of state) key x children
      otherwise forks found number (finds (first_of state)) ended a b t u stops))
