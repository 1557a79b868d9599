-- A tick at which nothing happens leaves what nodes represent, if no fork ends.
use Rattle.std.proofs.Common.{◌≡◌, ℕ, Bool, true, false, ◌||◌, List, [], ◌∷◌, ◌++◌, map, Option, Some, None, refl, sym}
use Rattle.std.proofs.Common.{ap, ◌∙◌, subst, arith}
use Rattle.std.specs.List.{AllByRecursion, flat_map}
use Rattle.std.proofs.lemmas.List.Folds.{flat_map-map}
use Rattle.ev_types.specs.declared.value.Value.{Value}
use Rattle.fork_by.specs.declared.table.ForkTable.{ForkTable}
use Rattle.fork_by.specs.Table.{kept_forks}
use Rattle.stream_plan.specs.Kinds.{is_by, has_idle}
use Rattle.stream_plan.specs.Nesting.{EndsOutermost, AllEndOutermost}
use Rattle.stream_plan.specs.Tree.{KindTree, By, StreamTree, StreamTrees, stream, none, also}
use Rattle.stream_meaning.specs.Branches.{after_emissions, child_history, branches}
use Rattle.stream_meaning.specs.Deadlines.{plan_deadline}
use Rattle.stream_meaning.specs.DueLaws.{has_effects}
use Rattle.stream_meaning.specs.Emission.{Branch, Children, Otherwise, Emission, emissions}
use Rattle.stream_meaning.specs.declared.entry.Entry.TheVariants.{Tick}
use Rattle.stream_meaning.specs.History.{History, ◌▸◌}
use Rattle.stream_meaning.specs.Outputs.{Effect, due_if_any, marked, branch_effects, own_effects, at_tick, at_emissions}
use Rattle.stream_meaning.specs.Outputs.{stream_effects, plan_effects}
use Rattle.stream_meaning.proofs.MetLaws.{and_true}
use Rattle.stream_meaning.proofs.PlanDueLaws.{plan_stays}
use Rattle.stream_meaning.proofs.RootLaws.{plan_tick_rooted}
use Rattle.stream_step.specs.declared.state.State.{State}
use Rattle.stream_step.proofs.StepLaws.{states_stay}
use Rattle.stream_tree.specs.declared.forest.Forest.{Forest}
use Rattle.stream_tree.specs.declared.forest.Node.{Node, out-Node}
use Rattle.stream_tree.specs.Forest.{AreInRange, Meaning, nodes_of, Below, LiveKeys, node_below, first_of, forked_by}
use Rattle.stream_tree.specs.Forest.{live_by, key_fork, IsFork, ForksRepresent, BelowRepresents, PartsRepresent}
use Rattle.stream_tree.specs.Forest.{ForestRepresents}
use Rattle.stream_tree.specs.Running.{branches_by}
use Rattle.stream_tree.proofs.KeptLaws.{Kept, or-true, all-both, all-from_map}
use Rattle.stream_tree.proofs.KindLaws.{plan_ranges, no_emission}
use Rattle.stream_tree.proofs.LiveLaws.{branches_are, endless_stay}
use Rattle.stream_tree.proofs.PerformLaws.{nil_left, nil_right}

-- ---- deadlines of a plan

no_effects : (es : List Effect) → es ≡ [] → has_effects es ≡ false
no_effects es e = ap has_effects e

pub plan_still : (plan : StreamTrees) (h : History) → AreInRange plan → plan_effects plan (h ▸ Tick) ≡ []
    → plan_deadline plan (h ▸ Tick) ≡ plan_deadline plan h
plan_still plan h ranges empty =
    plan_stays plan h (plan_ranges plan ranges)
    (sym (plan_tick_rooted plan h) ∙ no_effects (plan_effects plan (h ▸ Tick)) empty)

-- ---- histories

pub quiet_history : (kind : KindTree) (branch : Branch) (h : History) → emissions kind (h ▸ Tick) ≡ []
    → child_history kind branch (h ▸ Tick) ≡ child_history kind branch h ▸ Tick
quiet_history kind branch h e =
    ap (λ (es : List Emission). after_emissions branch es (child_history kind branch h ▸ Tick)) e

due_nothing : (es : List Effect) → due_if_any es ≡ [] → es ≡ []
due_nothing [] e = refl
due_nothing (first ∷ more) e = cc

-- no fork has an effect
forks_quiet : (effects : List Value → List Effect) (keys : List (List Value)) →
    flat_map (λ key. due_if_any (effects key)) keys ≡ [] →
    AllByRecursion (λ key. effects key ≡ []) keys
forks_quiet effects [] empty = tt
forks_quiet effects (key ∷ keys) empty =
    let rest = flat_map (λ key. due_if_any (effects key)) keys in (
      due_nothing (effects key) (nil_left (due_if_any (effects key)) rest empty),
      forks_quiet effects keys (nil_right (due_if_any (effects key)) rest empty),
    )

-- ---- what is below a stream

-- the same keys and histories in another form
pub forks_same : (Means : Meaning) (deadline : History → Option ℕ) (idle : Option ℕ) (keys keys' : List (List Value))
    (last : List Value → Option ℕ) (received received' : List Value → History) (forks : ForkTable Forest) →
    keys ≡ keys' → AllByRecursion (λ key. received key ≡ received' key) keys' →
    ForksRepresent Means deadline idle keys last received forks →
    ForksRepresent Means deadline idle keys' last received' forks
forks_same Means deadline idle keys keys' last received received' forks same all represents =
    let are = represents.keys_are ∙ same in record {
      is_table = represents.is_table;
      keys_are = are;
      each =
          all-both (λ (k : Kept). received k.key ≡ received' k.key)
          (λ k. IsFork Means deadline idle (last k.key) (received k.key) k)
          (λ k. IsFork Means deadline idle (last k.key) (received' k.key) k)
          (λ k e is. subst (λ (h : History). IsFork Means deadline idle (last k.key) h k) e is) (kept_forks forks)
          (all-from_map (λ key. received key ≡ received' key) (λ (k : Kept). k.key) (kept_forks forks)
          (subst (λ (ks : List (List Value)). AllByRecursion (λ key. received key ≡ received' key) ks) (sym are) all))
          represents.each;
    }

pub all_are : {A : Type 0} (P : A → Type 0) → ((x : A) → P x) → (xs : List A) → AllByRecursion P xs
all_are P f [] = tt
all_are P f (x ∷ xs) = (f x, all_are P f xs)

module _ (texts : List (List ℕ)) (plan : StreamTrees) (first : ℕ) (Means Beside : Meaning) where
  -- the same histories in another form
  pub below_same : (shape : Option (Option ℕ)) (live : LiveKeys) (received received' : Branch → History)
      (below : Below) →
      ((branch : Branch) → received branch ≡ received' branch) →
      BelowRepresents texts plan first Means Beside shape live received below →
      BelowRepresents texts plan first Means Beside shape live received' below
  below_same None live received received' below same represents = record {
    children = subst (λ (h : History). Means below.children h) (same Children) represents.children;
    otherwise = subst (λ (h : History). Beside below.otherwise h) (same Otherwise) represents.otherwise;
    is_table = represents.is_table;
    no_forks = represents.no_forks;
  }
  below_same (Some idle) live received received' below same represents = record {
    can_fork = represents.can_fork;
    lasts = represents.lasts;
    forks =
        forks_same Means (plan_deadline plan) idle live.keys live.keys live.last
        (λ key. received (key_fork live key)) (λ key. received' (key_fork live key)) below.forks refl
        (all_are (λ key. received (key_fork live key) ≡ received' (key_fork live key))
        (λ key. same (key_fork live key)) live.keys)
        represents.forks;
    no_children = represents.no_children;
    no_otherwise = represents.no_otherwise;
  }

-- the effects of a tick in the forks
pub forks_tick : (below beside : History → List Effect) (received : Branch → History) (live : LiveKeys) →
    at_tick Tick (branch_effects below beside) received (map (key_fork live) live.keys)
    ≡ flat_map (λ key. due_if_any (below (received (key_fork live key) ▸ Tick))) live.keys
forks_tick below beside received live =
    flat_map-map (λ branch. marked branch (branch_effects below beside branch (received branch ▸ Tick)))
    (key_fork live) live.keys

abbrev pub IsStill : Meaning → (History → List Effect) → Type 0
IsStill Means effects =
    (nodes : List Node) (h : History) → Means nodes h → effects (h ▸ Tick) ≡ [] → Means nodes (h ▸ Tick)

forks_still : (streams : StreamTrees) (Means : Meaning) (keys : List (List Value)) (last : List Value → Option ℕ)
    (received : List Value → History) (forks : ForkTable Forest) →
    AreInRange streams → IsStill Means (plan_effects streams) →
    flat_map (λ key. due_if_any (plan_effects streams (received key ▸ Tick))) keys ≡ [] →
    ForksRepresent Means (plan_deadline streams) None keys last received forks →
    ForksRepresent Means (plan_deadline streams) None keys last (λ key. received key ▸ Tick) forks
forks_still streams Means keys last received forks ranges still empty represents =
    let effects = λ (key : List Value). plan_effects streams (received key ▸ Tick) in record {
      is_table = represents.is_table;
      keys_are = represents.keys_are;
      each =
          all-both (λ (k : Kept). effects k.key ≡ [])
          (λ k. IsFork Means (plan_deadline streams) None (last k.key) (received k.key) k)
          (λ k. IsFork Means (plan_deadline streams) None (last k.key) (received k.key ▸ Tick) k)
          (λ k quiet is. record {
            represents = still (nodes_of k.fork) (received k.key) is.represents quiet;
            last_is = is.last_is;
            due_is = is.due_is ∙ sym (plan_still streams (received k.key) ranges quiet);
            came = omega (arith, is.came);
            goes_on = tt;
          })
          (kept_forks forks)
          (all-from_map (λ key. effects key ≡ []) (λ (k : Kept). k.key) (kept_forks forks)
          (subst (λ (ks : List (List Value)). AllByRecursion (λ key. effects key ≡ []) ks) (sym represents.keys_are)
          (forks_quiet effects keys empty)))
          represents.each;
    }

below_still : (texts : List (List ℕ)) (plan beside : StreamTrees) (first : ℕ) (Means Beside : Meaning)
    (kind : KindTree) (h : History) (below : Below) → has_idle kind ≡ false → emissions kind (h ▸ Tick) ≡ [] →
    IsStill Means (plan_effects plan) → IsStill Beside (plan_effects beside) →
    at_tick Tick (branch_effects (plan_effects plan) (plan_effects beside)) (λ branch. child_history kind branch h)
    (branches_by (forked_by kind) (live_by kind h))
    ≡ [] →
    BelowRepresents texts plan first Means Beside (forked_by kind) (live_by kind h)
    (λ branch. child_history kind branch h) below →
    BelowRepresents texts plan first Means Beside (forked_by kind) (live_by kind (h ▸ Tick))
    (λ branch. child_history kind branch (h ▸ Tick)) below
below_still texts plan beside first Means Beside (By fields (Some secs)) h below endless quiet still still' empty
    represents =
    absurd (cc)
below_still texts plan beside first Means Beside (By fields None) h below endless quiet still still' empty
    represents =
    let live = live_by (By fields None) h in
    let received = λ (branch : Branch). child_history (By fields None) branch h in record {
      can_fork = represents.can_fork;
      lasts = represents.lasts;
      forks =
          forks_same Means (plan_deadline plan) None live.keys (live_by (By fields None) (h ▸ Tick)).keys live.last
          (λ key. received (key_fork live key) ▸ Tick) (λ key. received (key_fork live key) ▸ Tick) below.forks
          (sym (endless_stay fields h))
          (all_are
          (λ key. received (key_fork live key) ▸ Tick ≡ received (key_fork live key) ▸ Tick) (λ key. refl)
          (live_by (By fields None) (h ▸ Tick)).keys)
          (forks_still plan Means live.keys live.last (λ key. received (key_fork live key)) below.forks
          represents.can_fork.in_range still
          (sym (forks_tick (plan_effects plan) (plan_effects beside) received live) ∙ empty) represents.forks);
      no_children = represents.no_children;
      no_otherwise = represents.no_otherwise;
    }
below_still texts plan beside first Means Beside kind h below endless quiet still still' empty represents =
    let received = λ (branch : Branch). child_history kind branch h in
    let c = plan_effects plan (received Children ▸ Tick) in
    let o = plan_effects beside (received Otherwise ▸ Tick) in record {
      children =
          subst (λ (g : History). Means below.children g) (sym (quiet_history kind Children h quiet))
          (still below.children (received Children) represents.children (nil_left c (o ++ []) empty));
      otherwise =
          subst (λ (g : History). Beside below.otherwise g) (sym (quiet_history kind Otherwise h quiet))
          (still' below.otherwise (received Otherwise) represents.otherwise
          (nil_left o [] (nil_right c (o ++ []) empty)));
      is_table = represents.is_table;
      no_forks = represents.no_forks;
    }

-- ---- whole forests

mutual
  parts_still : (texts : List (List ℕ)) (s : StreamTree) (state : State) (below : Below) (h : History)
      → EndsOutermost true s
      → PartsRepresent texts s state below h → stream_effects s (h ▸ Tick) ≡ []
      → PartsRepresent texts s state below (h ▸ Tick)
  parts_still texts (stream kind children otherwise) state below h endless represents empty =
      let effects_in = branch_effects (plan_effects children) (plan_effects otherwise) in
      let received = λ (branch : Branch). child_history kind branch h in
      let own = own_effects kind (h ▸ Tick) in
      let tick = at_tick Tick effects_in received (branches kind h) in
      let after = at_emissions effects_in (λ (branch : Branch). received branch ▸ Tick) (emissions kind (h ▸ Tick)) in
      let quiet : emissions kind (h ▸ Tick) ≡ [] = no_emission kind h tick after empty in
      let silent : at_tick Tick effects_in received (branches_by (forked_by kind) (live_by kind h)) ≡ [] =
      ap (at_tick Tick effects_in received) (sym (branches_are kind h))
      ∙ nil_right own tick (nil_left (own ++ tick) after empty) in
      let inside : is_by kind || true ≡ true = or-true (is_by kind) true refl in (
        states_stay texts kind state h represents.0 quiet,
        below_still texts children otherwise (first_of state) (ForestRepresents texts children)
            (ForestRepresents texts otherwise) kind h below (sym (and_true (has_idle kind)) ∙ endless.0) quiet
            (λ nodes g here still. forest_still texts children nodes g
            (subst (λ (in_fork : Bool). AllEndOutermost in_fork children) inside endless.1) here still)
            (λ nodes g here still. forest_still texts otherwise nodes g
            (subst (λ (in_fork : Bool). AllEndOutermost in_fork otherwise) inside endless.2) here still)
            silent represents.1,
      )

  pub forest_still : (texts : List (List ℕ)) (streams : StreamTrees) (nodes : List Node) (h : History)
      → AllEndOutermost true streams
      → ForestRepresents texts streams nodes h → plan_effects streams (h ▸ Tick) ≡ []
      → ForestRepresents texts streams nodes (h ▸ Tick)
  forest_still texts none [] h endless represents none_happens = represents
  forest_still texts none (node ∷ nodes) h endless represents none_happens = absurd represents
  forest_still texts (also first more) [] h endless represents none_happens = represents
  forest_still texts (also first more) (node ∷ nodes) h endless represents none_happens = (
    parts_still texts first (out-Node node).state (node_below node) h endless.0 represents.0
        (nil_left (stream_effects first (h ▸ Tick)) (plan_effects more (h ▸ Tick)) none_happens),
    forest_still texts more nodes h endless.1 represents.1
        (nil_right (stream_effects first (h ▸ Tick)) (plan_effects more (h ▸ Tick)) none_happens),
  )
