-- What comes to the branches below a stream, part by part.
use Rattle.std.proofs.Common.{◌≡◌, ℕ, Bool, true, false, cond, List, [], ◌∷◌, ◌++◌, map, Option, Some, None, is_some}
use Rattle.std.proofs.Common.{sym, ap, ◌∙◌, subst}
use Rattle.std.proofs.lemmas.List.{append-nil, map-append}
use Rattle.ev_types.specs.declared.item.Emission.{Emission as CodeEmission}
use Rattle.ev_types.specs.declared.item.Item.{Item}
use Rattle.ev_types.specs.declared.item.Output.{Output}
use Rattle.ev_types.specs.declared.value.Value.{Value}
use Rattle.fork_by.specs.declared.table.ForkTable.{ForkTable}
use Rattle.step_count.specs.Count.{StepCount}
use Rattle.pred_eval.specs.Search.{AreReadFrom}
use Rattle.regex.specs.declared.string.regex.Regex.{Regex}
use Rattle.stream_plan.specs.declared.plan.Stream.{Stream, out-Stream}
use Rattle.stream_plan.specs.Search.{opened}
use Rattle.stream_plan.specs.Tree.{KindTree, StreamTree, StreamTrees, kind_tree, list_trees}
use Rattle.stream_meaning.specs.Branches.{after_emissions}
use Rattle.stream_meaning.specs.declared.entry.Entry.{Entry}
use Rattle.stream_meaning.specs.declared.entry.Entry.TheVariants.{Tick, Item as In}
use Rattle.stream_meaning.specs.Emission.{Branch, Children, Otherwise, Fork, Emission}
use Rattle.stream_meaning.specs.History.{◌▸◌}
use Rattle.stream_meaning.specs.Outputs.{Effect, branch_effects, at_tick, at_emissions, plan_effects}
use Rattle.stream_step.specs.declared.passed.Branch.{Branch as CodeBranch}
use Rattle.stream_step.specs.declared.passed.Branch.TheVariants as code
use Rattle.stream_step.specs.declared.passed.Passed.{Passed}
use Rattle.stream_step.specs.declared.passed.Passed.TheVariants.{Keyed}
use Rattle.stream_step.specs.Step.{branch_meant, branch_numbered, emission_meant, emissions_meant}
use Rattle.stream_tree.specs.declared.forest.Forest.{Forest}
use Rattle.stream_tree.specs.declared.forest.Node.{Node}
use Rattle.stream_tree.specs.Ends.{idle_by}
use Rattle.stream_tree.specs.Forest.{nodes_of, Below, LiveKeys, below_of, forked_by, key_fork, BelowRepresents}
use Rattle.stream_tree.specs.Forest.{ForestRepresents}
use Rattle.stream_tree.specs.Forks.{Finds}
use Rattle.stream_tree.specs.Running.{ComesAt, Stops, ForestRuns, ForestStops, kind_of, children_of, otherwise_of}
use Rattle.stream_tree.specs.Running.{Received, BelowIs, effects_below, branches_by, FitsBranch, with_branch}
use Rattle.stream_tree.specs.Running.{with_branches, after_tick, extended, entering, ForkRuns, ForkStops, DueRuns}
use Rattle.stream_tree.specs.Running.{DueStops, TickRuns, TickStops, BranchRuns, BranchStops, EmissionsRun}
use Rattle.stream_tree.specs.Running.{EmissionsStop}
use Rattle.stream_tree.specs.Tree.{Performs, PerformsPart}
use Rattle.stream_tree.proofs.ForkLaws.{fork_goes_on, extended_here, extended_elsewhere}
use Rattle.stream_tree.proofs.PerformLaws.{grew_none, grew_then, part_more, part_then, stops_more}
use Rattle.stream_tree.proofs.PerformLaws.{stops_then}
use Rattle.stream_tree.proofs.StillLaws.{below_same, forks_tick}
use Rattle.stream_tree.proofs.ReceivedLaws.{fork_found, holds_there, kind_of-opened, children_of-opened}
use Rattle.stream_tree.proofs.ReceivedLaws.{otherwise_of-opened, branch_of_key, idle_in, item_leaves, idle_same}
use Rattle.stream_tree.proofs.ReceivedLaws.{children_stand, otherwise_stand, children_put, otherwise_put}
use Rattle.stream_tree.proofs.ReceivedLaws.{forks_represent, forks_put, fit_front, fit_back, live-snoc, items_ended}
use Rattle.stream_tree.proofs.ReceivedLaws.{after_emissions-snoc, at_emissions-snoc, at_emissions-append, unseen_after}
use Rattle.stream_tree.proofs.ReceivedLaws.{comes_here, stand_after, none_past}

module _ {G : Type 0} (patterns : List Regex) (start moment : ℕ) where
  -- ---- the entry comes to one branch

  pub branch_children : (s : Stream) (streams : List Stream) (branch : CodeBranch) (x : Entry) (a b : List Output)
      (t u : StepCount G) (children otherwise children' : Forest) →
      branch ≡ code.Children → streams ≡ (out-Stream s).children.items →
      ForestRuns patterns start moment a t b u x (list_trees streams) (nodes_of children) (nodes_of children') →
      (first : ℕ) (forks : ForkTable Forest) →
      BranchRuns patterns start moment a t b u x (opened s) first (branch_meant branch)
      (below_of children otherwise forks) (below_of children' otherwise forks)
  branch_children s streams branch x a b t u children otherwise children' at is runs first forks =
      subst
      (λ (other : CodeBranch). BranchRuns patterns start moment a t b u x (opened s) first (branch_meant other)
      (below_of children otherwise forks) (below_of children' otherwise forks))
      (sym at)
      (λ texts live received from fits represents unseen past comes.
      let plan = children_of (opened s) in
      let Means = ForestRepresents texts plan in
      let Beside = ForestRepresents texts (otherwise_of (opened s)) in
      let shape = forked_by (kind_of (opened s)) in
      let trees : list_trees streams ≡ children_of (opened s) = ap list_trees is ∙ sym (children_of-opened s) in
      let ran =
      subst
      (λ (trees : StreamTrees).
      ForestRuns patterns start moment a t b u x trees (nodes_of children) (nodes_of children'))
      trees runs texts (received Children) from
      (children_stand texts plan first Means Beside shape live received (below_of children otherwise forks) fits
      represents)
      comes in (
        children_put texts plan first Means Beside shape live received x (nodes_of children) (nodes_of otherwise) forks
            (nodes_of children') fits represents ran.0,
        ran.1,
      ))

  pub branch_otherwise : (s : Stream) (streams : List Stream) (branch : CodeBranch) (x : Entry) (a b : List Output)
      (t u : StepCount G) (children otherwise otherwise' : Forest) →
      branch ≡ code.Otherwise → streams ≡ (out-Stream s).otherwise.items →
      ForestRuns patterns start moment a t b u x (list_trees streams) (nodes_of otherwise) (nodes_of otherwise') →
      (first : ℕ) (forks : ForkTable Forest) →
      BranchRuns patterns start moment a t b u x (opened s) first (branch_meant branch)
      (below_of children otherwise forks) (below_of children otherwise' forks)
  branch_otherwise s streams branch x a b t u children otherwise otherwise' at is runs first forks =
      subst
      (λ (other : CodeBranch). BranchRuns patterns start moment a t b u x (opened s) first (branch_meant other)
      (below_of children otherwise forks) (below_of children otherwise' forks))
      (sym at)
      (λ texts live received from fits represents unseen past comes.
      let plan = children_of (opened s) in
      let Means = ForestRepresents texts plan in
      let Beside = ForestRepresents texts (otherwise_of (opened s)) in
      let shape = forked_by (kind_of (opened s)) in
      let trees : list_trees streams ≡ otherwise_of (opened s) = ap list_trees is ∙ sym (otherwise_of-opened s) in
      let ran =
      subst
      (λ (trees : StreamTrees).
      ForestRuns patterns start moment a t b u x trees (nodes_of otherwise) (nodes_of otherwise'))
      trees runs texts (received Otherwise) from
      (otherwise_stand texts plan first Means Beside shape live received (below_of children otherwise forks) fits
      represents)
      comes in (
        otherwise_put texts plan first Means Beside shape live received x (nodes_of children) (nodes_of otherwise) forks
            (nodes_of otherwise') fits represents ran.0,
        ran.1,
      ))

  pub children_stop : (s : Stream) (streams : List Stream) (branch : CodeBranch) (x : Entry) (a b : List Output)
      (t u : StepCount G) (children otherwise : Forest) →
      branch ≡ code.Children → streams ≡ (out-Stream s).children.items →
      ForestStops patterns start moment a t b u x (list_trees streams) (nodes_of children) →
      (first : ℕ) (forks : ForkTable Forest) →
      BranchStops patterns start moment a t b u x (opened s) first (branch_meant branch)
      (below_of children otherwise forks)
  children_stop s streams branch x a b t u children otherwise at is stops first forks =
      subst
      (λ (other : CodeBranch). BranchStops patterns start moment a t b u x (opened s) first (branch_meant other)
      (below_of children otherwise forks))
      (sym at)
      (λ texts live received from fits represents unseen past comes.
      let plan = children_of (opened s) in
      let trees : list_trees streams ≡ children_of (opened s) = ap list_trees is ∙ sym (children_of-opened s) in
      (subst (λ (trees : StreamTrees). ForestStops patterns start moment a t b u x trees (nodes_of children)) trees
      stops texts (received Children) from
      (children_stand texts plan first (ForestRepresents texts plan) (ForestRepresents texts (otherwise_of (opened s)))
      (forked_by (kind_of (opened s))) live received (below_of children otherwise forks) fits represents)
      comes).part)

  pub otherwise_stop : (s : Stream) (streams : List Stream) (branch : CodeBranch) (x : Entry) (a b : List Output)
      (t u : StepCount G) (children otherwise : Forest) →
      branch ≡ code.Otherwise → streams ≡ (out-Stream s).otherwise.items →
      ForestStops patterns start moment a t b u x (list_trees streams) (nodes_of otherwise) →
      (first : ℕ) (forks : ForkTable Forest) →
      BranchStops patterns start moment a t b u x (opened s) first (branch_meant branch)
      (below_of children otherwise forks)
  otherwise_stop s streams branch x a b t u children otherwise at is stops first forks =
      subst
      (λ (other : CodeBranch). BranchStops patterns start moment a t b u x (opened s) first (branch_meant other)
      (below_of children otherwise forks))
      (sym at)
      (λ texts live received from fits represents unseen past comes.
      let plan = children_of (opened s) in
      let trees : list_trees streams ≡ otherwise_of (opened s) = ap list_trees is ∙ sym (otherwise_of-opened s) in
      (subst (λ (trees : StreamTrees). ForestStops patterns start moment a t b u x trees (nodes_of otherwise)) trees
      stops texts (received Otherwise) from
      (otherwise_stand texts plan first (ForestRepresents texts plan) (ForestRepresents texts (otherwise_of (opened s)))
      (forked_by (kind_of (opened s))) live received (below_of children otherwise forks) fits represents)
      comes).part)

  -- ---- a tick comes to both branches

  both_case : (texts : List (List ℕ)) (plan beside : StreamTrees) (first : ℕ) (shape : Option (Option ℕ))
      (live : LiveKeys) (received : Received) (a b c : List Output) (t u v : StepCount G)
      (children otherwise children' otherwise' : List Node) (forks : ForkTable Forest) → is_some shape ≡ false →
      BelowRepresents texts plan first (ForestRepresents texts plan) (ForestRepresents texts beside) shape live received
      (record { children = children; otherwise = otherwise; forks = forks }) →
      (ForestRepresents texts plan children (received Children) →
      ForestRepresents texts plan children' (received Children ▸ Tick)
      × Performs a t b u (plan_effects plan (received Children ▸ Tick))) →
      (ForestRepresents texts beside otherwise (received Otherwise) →
      ForestRepresents texts beside otherwise' (received Otherwise ▸ Tick)
      × Performs b u c v (plan_effects beside (received Otherwise ▸ Tick))) →
      BelowRepresents texts plan first (ForestRepresents texts plan) (ForestRepresents texts beside) shape
      (after_tick shape moment Tick live)
      (λ branch. received branch ▸ Tick) (record { children = children'; otherwise = otherwise'; forks = forks })
      × Performs a t c v
      (at_tick Tick (branch_effects (plan_effects plan) (plan_effects beside)) received (branches_by shape live))
  both_case texts plan beside first None live received a b c t u v children otherwise children' otherwise' forks plain
      represents one two =
      let ran = one represents.children in
      let ran' = two represents.otherwise in
      let reported = plan_effects plan (received Children ▸ Tick) in
      let reported' = plan_effects beside (received Otherwise ▸ Tick) in (
        record { children = ran.0; otherwise = ran'.0; is_table = represents.is_table; no_forks = represents.no_forks },
        subst (λ (hs : List Effect). Performs a t c v (reported ++ hs)) (sym (append-nil reported'))
            (grew_then a b c t u v reported reported' ran.1 ran'.1),
      )
  both_case texts plan beside first (Some idle) live received a b c t u v children otherwise children' otherwise'
      forks plain represents one two =
      absurd (cc)

  pub both_run : (s : Stream) (children_streams otherwise_streams : List Stream) (x : Entry) (a b c : List Output)
      (t u v : StepCount G) (children otherwise children' otherwise' : Forest) (forks : ForkTable Forest) →
      is_some (forked_by (kind_tree (out-Stream s).kind)) ≡ false → x ≡ Tick →
      children_streams ≡ (out-Stream s).children.items → otherwise_streams ≡ (out-Stream s).otherwise.items →
      ForestRuns patterns start moment a t b u x (list_trees children_streams) (nodes_of children)
      (nodes_of children') →
      ForestRuns patterns start moment b u c v x (list_trees otherwise_streams) (nodes_of otherwise)
      (nodes_of otherwise') →
      (first : ℕ) →
      TickRuns patterns start moment a t c v x (opened s) first (below_of children otherwise forks)
      (below_of children' otherwise' forks)
  both_run s children_streams otherwise_streams x a b c t u v children otherwise children' otherwise' forks plain is
      children_is otherwise_is one two first =
      subst
      (λ (y : Entry). TickRuns patterns start moment a t c v y (opened s) first (below_of children otherwise forks)
      (below_of children' otherwise' forks))
      (sym is)
      (λ texts live received from represents comes.
      let trees : list_trees children_streams ≡ children_of (opened s) =
      ap list_trees children_is ∙ sym (children_of-opened s) in
      let trees' : list_trees otherwise_streams ≡ otherwise_of (opened s) =
      ap list_trees otherwise_is ∙ sym (otherwise_of-opened s) in
      let one' =
      subst
      (λ (trees : StreamTrees).
      ForestRuns patterns start moment a t b u Tick trees (nodes_of children) (nodes_of children'))
      trees
      (subst
      (λ (y : Entry).
      ForestRuns patterns start moment a t b u y (list_trees children_streams) (nodes_of children) (nodes_of children'))
      is one) in
      let two' =
      subst
      (λ (trees : StreamTrees).
      ForestRuns patterns start moment b u c v Tick trees (nodes_of otherwise) (nodes_of otherwise'))
      trees'
      (subst
      (λ (y : Entry). ForestRuns patterns start moment b u c v y (list_trees otherwise_streams) (nodes_of otherwise)
      (nodes_of otherwise'))
      is two) in
      both_case texts (children_of (opened s)) (otherwise_of (opened s)) first (forked_by (kind_of (opened s))) live
      received a b c t u v
      (nodes_of children) (nodes_of otherwise) (nodes_of children') (nodes_of otherwise') forks
      (ap (λ (kind : KindTree). is_some (forked_by kind)) (kind_of-opened s) ∙ plain) represents
      (λ here. one' texts (received Children) from here (comes.each Children))
      (λ here. two' texts (received Otherwise) from here (comes.each Otherwise)))

  one_stops_case : (texts : List (List ℕ)) (plan beside : StreamTrees) (first : ℕ) (shape : Option (Option ℕ))
      (live : LiveKeys) (received : Received) (a b : List Output) (t u : StepCount G)
      (below : Below) → is_some shape ≡ false →
      BelowRepresents texts plan first (ForestRepresents texts plan) (ForestRepresents texts beside) shape live received
      below →
      (ForestRepresents texts plan below.children (received Children) →
      Stops a t b u Tick (plan_effects plan (received Children ▸ Tick))) →
      Stops a t b u Tick
      (at_tick Tick (branch_effects (plan_effects plan) (plan_effects beside)) received (branches_by shape live))
  one_stops_case texts plan beside first None live received a b t u below plain represents one =
      stops_more a b t u Tick (plan_effects plan (received Children ▸ Tick))
      (plan_effects beside (received Otherwise ▸ Tick) ++ []) (one represents.children)
  one_stops_case texts plan beside first (Some idle) live received a b t u below plain represents one = absurd (cc)

  pub one_stops : (s : Stream) (streams : List Stream) (x : Entry) (a b : List Output) (t u : StepCount G)
      (children otherwise : Forest) (forks : ForkTable Forest) →
      is_some (forked_by (kind_tree (out-Stream s).kind)) ≡ false → x ≡ Tick → streams ≡ (out-Stream s).children.items →
      ForestStops patterns start moment a t b u x (list_trees streams) (nodes_of children) →
      (first : ℕ) → TickStops patterns start moment a t b u x (opened s) first (below_of children otherwise forks)
  one_stops s streams x a b t u children otherwise forks plain is children_is one first =
      subst
      (λ (y : Entry). TickStops patterns start moment a t b u y (opened s) first (below_of children otherwise forks))
      (sym is)
      (λ texts live received from represents comes.
      let trees : list_trees streams ≡ children_of (opened s) =
      ap list_trees children_is ∙ sym (children_of-opened s) in
      let one' =
      subst (λ (trees : StreamTrees). ForestStops patterns start moment a t b u Tick trees (nodes_of children)) trees
      (subst (λ (y : Entry). ForestStops patterns start moment a t b u y (list_trees streams) (nodes_of children)) is
      one) in
      one_stops_case texts (children_of (opened s)) (otherwise_of (opened s)) first (forked_by (kind_of (opened s)))
      live received a b t u (below_of children otherwise forks)
      (ap (λ (kind : KindTree). is_some (forked_by kind)) (kind_of-opened s) ∙ plain) represents
      (λ here. one' texts (received Children) from here (comes.each Children)))

  two_stops_case : (texts : List (List ℕ)) (plan beside : StreamTrees) (first : ℕ) (shape : Option (Option ℕ))
      (live : LiveKeys) (received : Received) (a b c : List Output) (t u v : StepCount G)
      (below : Below) (children' : List Node) → is_some shape ≡ false →
      BelowRepresents texts plan first (ForestRepresents texts plan) (ForestRepresents texts beside) shape live received
      below →
      (ForestRepresents texts plan below.children (received Children) →
      ForestRepresents texts plan children' (received Children ▸ Tick)
      × Performs a t b u (plan_effects plan (received Children ▸ Tick))) →
      (ForestRepresents texts beside below.otherwise (received Otherwise) →
      Stops b u c v Tick (plan_effects beside (received Otherwise ▸ Tick))) →
      Stops a t c v Tick
      (at_tick Tick (branch_effects (plan_effects plan) (plan_effects beside)) received (branches_by shape live))
  two_stops_case texts plan beside first None live received a b c t u v below children' plain represents one two =
      let reported = plan_effects plan (received Children ▸ Tick) in
      let reported' = plan_effects beside (received Otherwise ▸ Tick) in
      subst (λ (hs : List Effect). Stops a t c v Tick (reported ++ hs)) (sym (append-nil reported'))
      (stops_then a b c t u v Tick reported reported' (one represents.children).1 (two represents.otherwise))
  two_stops_case texts plan beside first (Some idle) live received a b c t u v below children' plain represents one
      two =
      absurd (cc)

  pub two_stops : (s : Stream) (children_streams otherwise_streams : List Stream) (x : Entry) (a b c : List Output)
      (t u v : StepCount G) (children otherwise children' : Forest) (forks : ForkTable Forest) →
      is_some (forked_by (kind_tree (out-Stream s).kind)) ≡ false → x ≡ Tick →
      children_streams ≡ (out-Stream s).children.items → otherwise_streams ≡ (out-Stream s).otherwise.items →
      ForestRuns patterns start moment a t b u x (list_trees children_streams) (nodes_of children)
      (nodes_of children') →
      ForestStops patterns start moment b u c v x (list_trees otherwise_streams) (nodes_of otherwise) →
      (first : ℕ) → TickStops patterns start moment a t c v x (opened s) first (below_of children otherwise forks)
  two_stops s children_streams otherwise_streams x a b c t u v children otherwise children' forks plain is children_is
      otherwise_is one two first =
      subst
      (λ (y : Entry). TickStops patterns start moment a t c v y (opened s) first (below_of children otherwise forks))
      (sym is)
      (λ texts live received from represents comes.
      let trees : list_trees children_streams ≡ children_of (opened s) =
      ap list_trees children_is ∙ sym (children_of-opened s) in
      let trees' : list_trees otherwise_streams ≡ otherwise_of (opened s) =
      ap list_trees otherwise_is ∙ sym (otherwise_of-opened s) in
      let one' =
      subst
      (λ (trees : StreamTrees).
      ForestRuns patterns start moment a t b u Tick trees (nodes_of children) (nodes_of children'))
      trees
      (subst
      (λ (y : Entry).
      ForestRuns patterns start moment a t b u y (list_trees children_streams) (nodes_of children) (nodes_of children'))
      is one) in
      let two' =
      subst (λ (trees : StreamTrees). ForestStops patterns start moment b u c v Tick trees (nodes_of otherwise)) trees'
      (subst
      (λ (y : Entry). ForestStops patterns start moment b u c v y (list_trees otherwise_streams) (nodes_of otherwise))
      is two) in
      two_stops_case texts (children_of (opened s)) (otherwise_of (opened s)) first (forked_by (kind_of (opened s)))
      live received a b c t u v (below_of children otherwise forks) (nodes_of children')
      (ap (λ (kind : KindTree). is_some (forked_by kind)) (kind_of-opened s) ∙ plain) represents
      (λ here. one' texts (received Children) from here (comes.each Children))
      (λ here. two' texts (received Otherwise) from here (comes.each Otherwise)))

  -- ---- a tick comes to the forks

  due_case : (texts : List (List ℕ)) (plan beside : StreamTrees) (first : ℕ) (shape : Option (Option ℕ))
      (idle : Option ℕ) (live : LiveKeys) (received : Received) (a b : List Output) (t u : StepCount G)
      (children otherwise : List Node) (forks forks' : ForkTable Forest) → is_some shape ≡ true →
      idle_in shape ≡ idle → AreReadFrom texts patterns →
      BelowRepresents texts plan first (ForestRepresents texts plan) (ForestRepresents texts beside) shape live received
      (record { children = children; otherwise = otherwise; forks = forks }) →
      ((branch : Branch) → ComesAt start moment (received branch) Tick) →
      DueRuns patterns start moment a t b u plan idle forks forks' →
      BelowRepresents texts plan first (ForestRepresents texts plan) (ForestRepresents texts beside) shape
      (after_tick shape moment Tick live)
      (λ branch. received branch ▸ Tick) (record { children = children; otherwise = otherwise; forks = forks' })
      × Performs a t b u
      (at_tick Tick (branch_effects (plan_effects plan) (plan_effects beside)) received (branches_by shape live))
  due_case texts plan beside first None idle live received a b t u children otherwise forks forks' forked idle_is from
      represents comes runs =
      absurd (cc)
  due_case texts plan beside first (Some own) idle live received a b t u children otherwise forks forks' forked idle_is
      from represents comes runs =
      let ran =
      subst (λ (i : Option ℕ). DueRuns patterns start moment a t b u plan i forks forks') (sym idle_is) runs texts live
      (λ key. received (key_fork live key)) from represents.can_fork.in_range represents.can_fork.endless
      represents.forks
      (λ key. comes (key_fork live key)) in (
        record {
          can_fork = represents.can_fork;
          lasts = represents.lasts;
          forks = ran.0;
          no_children = represents.no_children;
          no_otherwise = represents.no_otherwise;
        },
        subst (λ (hs : List Effect). Performs a t b u hs)
            (sym (forks_tick (plan_effects plan) (plan_effects beside) received live)) ran.1,
      )

  pub due_run : (s : Stream) (x : Entry) (a b : List Output) (t u : StepCount G) (children otherwise : Forest)
      (forks forks' : ForkTable Forest) →
      is_some (forked_by (kind_tree (out-Stream s).kind)) ≡ true → x ≡ Tick →
      DueRuns patterns start moment a t b u (children_of (opened s)) (idle_by (kind_of (opened s))) forks forks' →
      (first : ℕ) →
      TickRuns patterns start moment a t b u x (opened s) first (below_of children otherwise forks)
      (below_of children otherwise forks')
  due_run s x a b t u children otherwise forks forks' forked is runs first =
      subst
      (λ (y : Entry). TickRuns patterns start moment a t b u y (opened s) first (below_of children otherwise forks)
      (below_of children otherwise forks'))
      (sym is)
      (λ texts live received from represents comes.
      due_case texts (children_of (opened s)) (otherwise_of (opened s)) first (forked_by (kind_of (opened s)))
      (idle_by (kind_of (opened s))) live
      received a b t u (nodes_of children) (nodes_of otherwise) forks forks'
      (ap (λ (kind : KindTree). is_some (forked_by kind)) (kind_of-opened s) ∙ forked) (idle_same (kind_of (opened s)))
      from represents comes.each runs)

  due_stops_case : (texts : List (List ℕ)) (plan beside : StreamTrees) (first : ℕ) (shape : Option (Option ℕ))
      (idle : Option ℕ) (live : LiveKeys) (received : Received) (a b : List Output) (t u : StepCount G)
      (below : Below) → is_some shape ≡ true → idle_in shape ≡ idle → AreReadFrom texts patterns →
      BelowRepresents texts plan first (ForestRepresents texts plan) (ForestRepresents texts beside) shape live received
      below →
      ((branch : Branch) → ComesAt start moment (received branch) Tick) →
      DueStops patterns start moment a t b u plan idle below.forks →
      Stops a t b u Tick
      (at_tick Tick (branch_effects (plan_effects plan) (plan_effects beside)) received (branches_by shape live))
  due_stops_case texts plan beside first None idle live received a b t u below forked idle_is from represents comes
      stops =
      absurd (cc)
  due_stops_case texts plan beside first (Some own) idle live received a b t u below forked idle_is from
      represents comes
      stops =
      subst (λ (hs : List Effect). Stops a t b u Tick hs)
      (sym (forks_tick (plan_effects plan) (plan_effects beside) received live))
      (subst (λ (i : Option ℕ). DueStops patterns start moment a t b u plan i below.forks) (sym idle_is) stops texts
      live (λ key. received (key_fork live key)) from represents.can_fork.in_range represents.can_fork.endless
      represents.forks
      (λ key. comes (key_fork live key)))

  pub due_stops : (s : Stream) (x : Entry) (a b : List Output) (t u : StepCount G) (children otherwise : Forest)
      (forks : ForkTable Forest) →
      is_some (forked_by (kind_tree (out-Stream s).kind)) ≡ true → x ≡ Tick →
      DueStops patterns start moment a t b u (children_of (opened s)) (idle_by (kind_of (opened s))) forks →
      (first : ℕ) → TickStops patterns start moment a t b u x (opened s) first (below_of children otherwise forks)
  due_stops s x a b t u children otherwise forks forked is stops first =
      subst
      (λ (y : Entry). TickStops patterns start moment a t b u y (opened s) first (below_of children otherwise forks))
      (sym is)
      (λ texts live received from represents comes.
      due_stops_case texts (children_of (opened s)) (otherwise_of (opened s)) first (forked_by (kind_of (opened s)))
      (idle_by (kind_of (opened s))) live received a b t u (below_of children otherwise forks)
      (ap (λ (kind : KindTree). is_some (forked_by kind)) (kind_of-opened s) ∙ forked) (idle_same (kind_of (opened s)))
      from represents comes.each stops)

  -- an item is no tick
  pub item_waits : (s : StreamTree) (x : Entry) (item : Item) (a : List Output) (t : StepCount G) (below : Below)
      → x ≡ In item → (first : ℕ) → TickRuns patterns start moment a t a t x s first below below
  item_waits s x item a t below is first =
      subst (λ (y : Entry). TickRuns patterns start moment a t a t y s first below below) (sym is)
      (λ texts live received from represents comes. (
        subst
            (λ (after : LiveKeys). BelowIs texts s first after received below)
            (sym (item_leaves (forked_by (kind_of s)) moment item live)) represents,
        grew_none a t,
      ))

  -- ---- an item comes to a fork

  module _ (s : Stream) (streams : List Stream) (is : streams ≡ (out-Stream s).children.items) (first : ℕ)
      (key : List Value) (x : Entry) (children otherwise : Forest) (forks found : ForkTable Forest) (number : ℕ)
      (finds : Finds (list_trees streams) first start moment key forks found number) (ended : ℕ) where
    pub key_run : (a b : List Output) (t u : StepCount G) (forks' : ForkTable Forest) →
        ForkRuns patterns start moment a t b u x (children_of (opened s)) (idle_by (kind_of (opened s))) number found
        forks' →
        BranchRuns patterns start moment a t b u x (opened s) first (Fork (record { key = key; number = ended }))
        (below_of children otherwise forks) (below_of children otherwise forks')
    key_run a b t u forks' runs texts live received from fits represents unseen past comes =
        let plan = children_of (opened s) in
        let shape = forked_by (kind_of (opened s)) in
        let idle = idle_in shape in
        let here =
        forks_represent texts plan first (ForestRepresents texts plan)
        (ForestRepresents texts (otherwise_of (opened s)))
        shape live received key ended (below_of children otherwise forks) fits represents in
        let own : (branch_of_key key ended) ≡ key_fork live key =
        ap (λ (n : ℕ). Fork (record { key = key; number = n })) here.3 in
        let at =
        fork_found start moment s streams is first key ended x children otherwise forks found number finds texts live
        received fits represents unseen past comes in
        let ran =
        subst (λ (i : Option ℕ). ForkRuns patterns start moment a t b u x plan i number found forks')
        (sym (idle_same (kind_of (opened s)))) runs texts (received (branch_of_key key ended)) from
        (holds_there start moment s streams is first key ended x children otherwise forks found number finds texts live
        received own at comes) in
        let after = with_branch moment (branch_of_key key ended) live in (
          forks_put texts plan first (ForestRepresents texts plan) (ForestRepresents texts (otherwise_of (opened s)))
              shape moment live received (extended (branch_of_key key ended) x received) key ended
              (nodes_of children) (nodes_of otherwise) forks forks' fits represents
              (fork_goes_on texts plan idle key moment live.keys live.last after.last
              (λ k. received (key_fork live k)) (λ k. extended (branch_of_key key ended) x received (key_fork live k))
              found forks'
              number (received (branch_of_key key ended) ▸ x) here.1 comes.comes
              (extended_here live key ended here.3 x received) (extended_elsewhere live key ended here.3 x received)
              (λ k same. ap (λ (b : Bool). cond b (Some moment) (live.last k)) same)
              (λ k other. ap (λ (b : Bool). cond b (Some moment) (live.last k)) other) at ran.0),
          ran.1,
        )

    pub key_stops : (a b : List Output) (t u : StepCount G) →
        ForkStops patterns start moment a t b u x (children_of (opened s)) number found →
        BranchStops patterns start moment a t b u x (opened s) first (Fork (record { key = key; number = ended }))
        (below_of children otherwise forks)
    key_stops a b t u stops texts live received from fits represents unseen past comes =
        let plan = children_of (opened s) in
        let shape = forked_by (kind_of (opened s)) in
        let here =
        forks_represent texts plan first (ForestRepresents texts plan)
        (ForestRepresents texts (otherwise_of (opened s)))
        shape live received key ended (below_of children otherwise forks) fits represents in
        let own : (branch_of_key key ended) ≡ key_fork live key =
        ap (λ (n : ℕ). Fork (record { key = key; number = n })) here.3 in
        let at =
        fork_found start moment s streams is first key ended x children otherwise forks found number finds texts live
        received fits represents unseen past comes in
        stops texts (received (branch_of_key key ended)) from
        (holds_there start moment s streams is first key ended x children otherwise forks found number finds texts live
        received own at comes)

  -- ---- emissions

  -- one emission alone
  pub one_run : (s : StreamTree) (first : ℕ) (branch : Branch) (item : Item) (a b : List Output) (t u : StepCount G)
      (below below' : Below) →
      BranchRuns patterns start moment a t b u (In item) s first branch below below' →
      EmissionsRun patterns start moment a t b u (record { branch = branch; item = item } ∷ []) s first below below'
  one_run s first branch item a b t u below below' runs texts live received from fit represents unseen stand =
      let ran =
      runs texts live received from fit.0 represents unseen (none_past start moment received stand)
      (comes_here start moment received branch item stand) in (
        ran.0,
        subst (λ (hs : List Effect). Performs a t b u hs)
            (sym (append-nil (entering (effects_below s) branch (received branch ▸ In item)))) ran.1,
      )

  pub one_stop : (s : StreamTree) (first : ℕ) (branch : Branch) (item : Item) (a b : List Output) (t u : StepCount G)
      (below : Below) →
      BranchStops patterns start moment a t b u (In item) s first branch below →
      EmissionsStop patterns start moment a t b u (record { branch = branch; item = item } ∷ []) s first below
  one_stop s first branch item a b t u below stops texts live received from fit represents unseen stand = (
    part_more a b t u (entering (effects_below s) branch (received branch ▸ In item)) []
        (stops texts live received from fit.0 represents unseen (none_past start moment received stand)
        (comes_here start moment received branch item stand)),
    λ none. cc,
  )

  -- an item goes to the fork of a key
  pub keyed_run : (s : StreamTree) (first : ℕ) (key : List Value) (item : Item) (passed : Passed) (x : Entry)
      (a b : List Output) (t u : StepCount G) (below below' : Below) → passed ≡ Keyed key → x ≡ In item →
      ((number : ℕ) → BranchRuns patterns start moment a t b u x s first (Fork (record { key = key; number = number }))
      below below') →
      (ended : List Value → ℕ) → EmissionsRun patterns start moment a t b u (emissions_meant ended passed x) s first
      below below'
  keyed_run s first key item passed x a b t u below below' passed_is x_is runs ended =
      subst
      (λ (p : Passed). EmissionsRun patterns start moment a t b u (emissions_meant ended p x) s first below below')
      (sym passed_is)
      (subst
      (λ (y : Entry). EmissionsRun patterns start moment a t b u (emissions_meant ended (Keyed key) y) s first below
      below')
      (sym x_is)
      (one_run s first (branch_of_key key (ended key)) item a b t u below below'
      (subst
      (λ (y : Entry). BranchRuns patterns start moment a t b u y s first (branch_of_key key (ended key)) below below')
      x_is (runs (ended key)))))

  pub keyed_stop : (s : StreamTree) (first : ℕ) (key : List Value) (item : Item) (passed : Passed) (x : Entry)
      (a b : List Output) (t u : StepCount G) (below : Below) → passed ≡ Keyed key → x ≡ In item →
      ((number : ℕ) → BranchStops patterns start moment a t b u x s first (Fork (record { key = key; number = number }))
      below) →
      (ended : List Value → ℕ) → EmissionsStop patterns start moment a t b u (emissions_meant ended passed x) s first
      below
  keyed_stop s first key item passed x a b t u below passed_is x_is stops ended =
      subst (λ (p : Passed). EmissionsStop patterns start moment a t b u (emissions_meant ended p x) s first below)
      (sym passed_is)
      (subst
      (λ (y : Entry). EmissionsStop patterns start moment a t b u (emissions_meant ended (Keyed key) y) s first below)
      (sym x_is)
      (one_stop s first (branch_of_key key (ended key)) item a b t u below
      (subst (λ (y : Entry). BranchStops patterns start moment a t b u y s first (branch_of_key key (ended key)) below)
      x_is (stops (ended key)))))

  -- one more emission
  emissions_more : (s : StreamTree) (first : ℕ) (a b c : List Output) (t u v : StepCount G)
      (below below' below'' : Below) (es : List Emission) (emission : Emission) →
      EmissionsRun patterns start moment a t b u es s first below below' →
      BranchRuns patterns start moment b u c v (In emission.item) s first emission.branch below' below'' →
      EmissionsRun patterns start moment a t c v (es ++ emission ∷ []) s first below below''
  emissions_more s first a b c t u v below below' below'' es emission so_far more texts live received from fit
      represents unseen stand =
      let plan = children_of s in
      let Means = ForestRepresents texts plan in
      let Beside = ForestRepresents texts (otherwise_of s) in
      let shape = forked_by (kind_of s) in
      let one =
      so_far texts live received from (fit_front shape live.ended es (emission ∷ []) fit) represents unseen stand in
      let so = λ (branch : Branch). after_emissions branch es (received branch) in
      let some = with_branches moment es live in
      let fits = subst (λ (ended : List Value → ℕ). FitsBranch shape ended emission.branch)
      (sym (items_ended moment es live)) (fit_back shape live.ended es (emission ∷ []) fit).0 in
      let two =
      more texts some so from fits one.0
      (unseen_after shape moment es live received (fit_front shape live.ended es (emission ∷ []) fit) unseen)
      (none_past start moment so (stand_after start moment es received stand))
      (comes_here start moment so emission.branch emission.item (stand_after start moment es received stand)) in
      let reported = entering (effects_below s) emission.branch (so emission.branch ▸ In emission.item) in (
        subst
            (λ (after : LiveKeys). BelowRepresents texts plan first Means Beside shape after
            (λ branch. after_emissions branch (es ++ emission ∷ []) (received branch)) below'')
            (sym (live-snoc moment es emission live))
            (below_same texts plan first Means Beside shape (with_branch moment emission.branch some)
            (extended emission.branch (In emission.item) so)
            (λ branch. after_emissions branch (es ++ emission ∷ []) (received branch)) below''
            (λ branch. sym (after_emissions-snoc branch es emission (received branch))) two.0),
        subst (λ (hs : List Effect). Performs a t c v hs)
            (sym (at_emissions-snoc (entering (effects_below s)) received es emission))
            (grew_then a b c t u v (at_emissions (entering (effects_below s)) received es) reported one.1 two.1),
      )

  -- one more of those that the code makes
  pub one_more_emission : (s : StreamTree) (first : ℕ) (a b c : List Output) (t u v : StepCount G)
      (below below' below'' : Below) (made : List CodeEmission) (emission : CodeEmission) (branch : Branch) →
      branch ≡ branch_numbered emission.branch →
      EmissionsRun patterns start moment a t b u (map emission_meant made) s first below below' →
      BranchRuns patterns start moment b u c v (In emission.item) s first branch below' below'' →
      EmissionsRun patterns start moment a t c v (map emission_meant (made ++ emission ∷ [])) s first below below''
  one_more_emission s first a b c t u v below below' below'' made emission branch is so_far more =
      subst (λ (es : List Emission). EmissionsRun patterns start moment a t c v es s first below below'')
      (sym (map-append emission_meant made (emission ∷ [])))
      (emissions_more s first a b c t u v below below' below'' (map emission_meant made) (emission_meant emission)
      so_far
      (subst
      (λ (other : Branch). BranchRuns patterns start moment b u c v (In emission.item) s first other below' below'') is
      more))

  -- the next emission stops
  emissions_stop : (s : StreamTree) (first : ℕ) (a b c : List Output) (t u v : StepCount G) (below below' : Below)
      (es : List Emission) (emission : Emission) (rest : List Emission) →
      EmissionsRun patterns start moment a t b u es s first below below' →
      BranchStops patterns start moment b u c v (In emission.item) s first emission.branch below' →
      EmissionsStop patterns start moment a t c v ((es ++ emission ∷ []) ++ rest) s first below
  emissions_stop s first a b c t u v below below' es emission rest so_far stops texts live received from fit represents
      unseen stand =
      let shape = forked_by (kind_of s) in
      let fit' = fit_front shape live.ended (es ++ emission ∷ []) rest fit in
      let one =
      so_far texts live received from (fit_front shape live.ended es (emission ∷ []) fit') represents unseen stand in
      let so = λ (branch : Branch). after_emissions branch es (received branch) in
      let some = with_branches moment es live in
      let fits = subst (λ (ended : List Value → ℕ). FitsBranch shape ended emission.branch)
      (sym (items_ended moment es live)) (fit_back shape live.ended es (emission ∷ []) fit').0 in
      let two =
      stops texts some so from fits one.0
      (unseen_after shape moment es live received (fit_front shape live.ended es (emission ∷ []) fit') unseen)
      (none_past start moment so (stand_after start moment es received stand))
      (comes_here start moment so emission.branch emission.item (stand_after start moment es received stand)) in
      let reported = entering (effects_below s) emission.branch (so emission.branch ▸ In emission.item) in
      let more = at_emissions-append (entering (effects_below s)) received (es ++ emission ∷ []) rest in (
        subst (λ (hs : List Effect). PerformsPart a t c v hs) (sym more.1)
            (part_more a c t v (at_emissions (entering (effects_below s)) received (es ++ emission ∷ [])) more.0
            (subst (λ (hs : List Effect). PerformsPart a t c v hs)
            (sym (at_emissions-snoc (entering (effects_below s)) received es emission))
            (part_then a b c t u v (at_emissions (entering (effects_below s)) received es) reported one.1 two))),
        nonempty es emission rest,
      )
    where
      nonempty : (es : List Emission) (emission : Emission) (rest : List Emission) → (es ++ emission ∷ []) ++ rest ≡ []
          → ⊥
      nonempty [] emission rest e = cc
      nonempty (first ∷ es) emission rest e = cc

  pub one_more_stops : (s : StreamTree) (first : ℕ) (a b c : List Output) (t u v : StepCount G) (below below' : Below)
      (made : List CodeEmission) (emission : CodeEmission) (rest all : List CodeEmission) (branch : Branch) →
      branch ≡ branch_numbered emission.branch → all ≡ (made ++ emission ∷ []) ++ rest →
      EmissionsRun patterns start moment a t b u (map emission_meant made) s first below below' →
      BranchStops patterns start moment b u c v (In emission.item) s first branch below' →
      EmissionsStop patterns start moment a t c v (map emission_meant all) s first below
  one_more_stops s first a b c t u v below below' made emission rest all branch is whole so_far stops =
      let meant : map emission_meant all
      ≡ (map emission_meant made ++ emission_meant emission ∷ []) ++ map emission_meant rest =
      ap (map emission_meant) whole ∙ map-append emission_meant (made ++ emission ∷ []) rest
      ∙ ap (λ (l : List Emission). l ++ map emission_meant rest) (map-append emission_meant made (emission ∷ [])) in
      subst (λ (es : List Emission). EmissionsStop patterns start moment a t c v es s first below) (sym meant)
      (emissions_stop s first a b c t u v below below' (map emission_meant made) (emission_meant emission)
      (map emission_meant rest) so_far
      (subst (λ (other : Branch). BranchStops patterns start moment b u c v (In emission.item) s first other below') is
      stops))
