-- One entry at one stream: the stream acts, a tick goes on, and then each emission does.
use Rattle.std.proofs.Common.{◌≡◌, ℕ, ◌+◌, ◌≤◌, ◌^◌, false, List, [], ◌++◌, Option, Some, refl, sym, ap, ◌∙◌, subst}
use mathlib.Core.Bool.{true≢false}
use Rattle.ev_types.specs.declared.field.Field.{Field}
use Rattle.ev_types.specs.declared.item.Output.{Output}
use Rattle.ev_types.specs.declared.value.Value.{Value}
use Rattle.list_laws.specs.Prefix.{IsPrefix}
use Rattle.step_count.specs.Count.{StepCount}
use Rattle.pred_eval.specs.Search.{AreReadFrom}
use Rattle.regex.specs.declared.string.regex.Regex.{Regex}
use Rattle.stream_plan.specs.declared.plan.Stream.{Stream, out-Stream}
use Rattle.stream_plan.specs.Search.{opened}
use Rattle.stream_plan.specs.Tree.{KindTree, By, StreamTrees, stream, kind_tree, list_trees}
use Rattle.stream_meaning.specs.Branches.{ticked, child_history, branches}
use Rattle.stream_meaning.specs.declared.entry.Entry.{Entry}
use Rattle.stream_meaning.specs.declared.entry.Entry.TheVariants.{Tick, Item as In}
use Rattle.stream_meaning.specs.Deadlines.{plan_deadline}
use Rattle.stream_meaning.specs.Emission.{Branch, Fork, Emission, emissions}
use Rattle.stream_meaning.specs.Ends.{times_ended}
use Rattle.stream_meaning.specs.History.{History, ◌▸◌, begun, moment_of}
use Rattle.stream_meaning.specs.Laws.{own_outputs}
use Rattle.stream_meaning.specs.Outputs.{Effect, branch_effects, own_effects, at_tick, at_emissions, stream_effects}
use Rattle.stream_meaning.specs.Outputs.{plan_effects}
use Rattle.stream_meaning.proofs.KeptEvents.{all-weaker}
use Rattle.stream_meaning.proofs.MomentLaws.{branch_moments}
use Rattle.stream_step.specs.declared.passed.Passed.{Passed}
use Rattle.stream_step.specs.declared.state.State.{State}
use Rattle.stream_step.specs.stream_states.Kept.{keeps}
use Rattle.stream_step.specs.declared.state.State.TheVariants as variant
use Rattle.stream_step.proofs.KeptLaws.{kept_keeps}
use Rattle.stream_step.specs.Step.{ended_by, emissions_meant, is_kept, StateRepresents, Acts}
use Rattle.stream_tree.specs.Forest.{Meaning, Below, LiveKeys, first_of, forked_by, live_by, key_fork, BelowRepresents}
use Rattle.stream_tree.specs.Forest.{PartsRepresent, ForestRepresents}
use Rattle.stream_tree.specs.Running.{ComesAt, Stops, StreamRuns, StreamStops, with_branches, keys_left, after_tick}
use Rattle.stream_tree.specs.Running.{UnseenHaveTicks, entering, AllCome, AllAreAt, TickRuns, TickStops, EmissionsRun}
use Rattle.stream_tree.specs.Running.{EmissionsStop}
use Rattle.stream_tree.specs.Tree.{Performs, PerformsPart}
use Rattle.stream_tree.proofs.KindLaws.{emissions_fit, all_effects, no_emission}
use Rattle.stream_tree.proofs.LiveLaws.{branches_are, unseen_now, live_ticked, ended_left, left_now, live_goes_on}
use Rattle.stream_tree.proofs.PerformLaws.{acted, grew_then, part_then, part_more, stops_more, stops_then, own_grew}
use Rattle.stream_tree.proofs.PerformLaws.{own_part}
use Rattle.stream_tree.proofs.StillLaws.{forks_same}

same_moment : (a b : History) (x : Entry) → moment_of a ≡ moment_of b → moment_of (a ▸ x) ≡ moment_of (b ▸ x)
same_moment a b Tick same = ap (λ (m : ℕ). m + 1) same
same_moment a b (In item) same = same

ticked_moment : (h : History) (x : Entry) → moment_of (ticked x h) ≡ moment_of (h ▸ x)
ticked_moment h Tick = refl
ticked_moment h (In item) = refl

ticked_begun : (h : History) (x : Entry) → begun (ticked x h) ≡ begun h
ticked_begun h Tick = refl
ticked_begun h (In item) = refl

-- a fork that is not there has received ticks alone, also after a tick
unseen_ticked : (kind : KindTree) (h : History) (x : Entry)
    → UnseenHaveTicks (forked_by kind) (live_ticked kind x h) (λ branch. ticked x (child_history kind branch h))
unseen_ticked (By fields idle) h Tick = unseen_now (By fields idle) (h ▸ Tick)
unseen_ticked (By fields idle) h (In item) = unseen_now (By fields idle) h
unseen_ticked kind h x = tt

-- the state of a `by` has a number alone
by_keeps_nothing : (texts : List (List ℕ)) (fields : List Field) (idle : Option ℕ) (state : State) (h : History)
    → StateRepresents texts (By fields idle) state h → is_kept state ≡ false
by_keeps_nothing texts fields idle (variant.Kept held) h represents =
    absurd (true≢false (sym (kept_keeps held) ∙ ap keeps represents.keeps.same_kind))
by_keeps_nothing texts fields idle state h represents = refl

-- so the number stays
below_first : (kind : KindTree) (texts : List (List ℕ)) (plan : StreamTrees) (Means Beside : Meaning)
    (live : LiveKeys) (received : Branch → History) (below : Below) (state state' : State) (h : History) →
    StateRepresents texts kind state h → (is_kept state ≡ false → state' ≡ state) →
    BelowRepresents texts plan (first_of state) Means Beside (forked_by kind) live received below →
    BelowRepresents texts plan (first_of state') Means Beside (forked_by kind) live received below
below_first (By fields idle) texts plan Means Beside live received below state state' h represents same here =
    subst (λ (s : State). BelowRepresents texts plan (first_of s) Means Beside (Some idle) live received below)
    (sym (same (by_keeps_nothing texts fields idle state h represents))) here
below_first kind texts plan Means Beside live received below state state' h represents same here = here

-- a tick has come to what is below a stream, where the entry is one: the keys that are left are those that are live now
below_ticked : (kind : KindTree) (texts : List (List ℕ)) (plan : StreamTrees) (first : ℕ) (Means Beside : Meaning)
    (below : Below) (h : History) (x : Entry) (now : ℕ) → moment_of (h ▸ x) ≡ now →
    BelowRepresents texts plan first Means Beside (forked_by kind) (after_tick (forked_by kind) now x (live_by kind h))
    (λ branch. ticked x (child_history kind branch h)) below →
    BelowRepresents texts plan first Means Beside (forked_by kind) (live_ticked kind x h)
    (λ branch. ticked x (child_history kind branch h)) below
below_ticked (By fields idle) texts plan first Means Beside below h (In item) now is represents = represents
below_ticked (By fields idle) texts plan first Means Beside below h Tick now is represents =
    let live = live_by (By fields idle) h in
    let live' = live_by (By fields idle) (h ▸ Tick) in
    let received = λ (branch : Branch). child_history (By fields idle) branch h ▸ Tick in record {
      can_fork = represents.can_fork;
      lasts = represents.lasts;
      forks =
          forks_same Means (plan_deadline plan) idle (keys_left idle now live) live'.keys live.last
          (λ key. received (key_fork live key)) (λ key. received (key_fork live' key)) below.forks
          (left_now idle fields h now is)
          (all-weaker (λ key. times_ended idle fields key (h ▸ Tick) ≡ times_ended idle fields key h)
          (λ key. received (key_fork live key) ≡ received (key_fork live' key))
          (λ key e. ap (λ (n : ℕ). received (Fork (record { key = key; number = n }))) (sym e)) live'.keys
          (ended_left idle fields h))
          represents.forks;
      no_children = represents.no_children;
      no_otherwise = represents.no_otherwise;
    }
below_ticked kind texts plan first Means Beside below h x now is represents = represents

-- the emissions of the entry have come to what is below a stream
below_came : (kind : KindTree) (texts : List (List ℕ)) (plan : StreamTrees) (first : ℕ) (Means Beside : Meaning)
    (below : Below) (h : History) (x : Entry) (now : ℕ) → moment_of (h ▸ x) ≡ now →
    BelowRepresents texts plan first Means Beside (forked_by kind)
    (with_branches now (emissions kind (h ▸ x)) (live_ticked kind x h))
    (λ branch. child_history kind branch (h ▸ x)) below →
    BelowRepresents texts plan first Means Beside (forked_by kind) (live_by kind (h ▸ x))
    (λ branch. child_history kind branch (h ▸ x)) below
below_came (By fields idle) texts plan first Means Beside below h x now is represents =
    subst
    (λ (live : LiveKeys). BelowRepresents texts plan first Means Beside (Some idle) live
    (λ branch. child_history (By fields idle) branch (h ▸ x)) below)
    (live_goes_on fields idle h x now is) represents
below_came kind texts plan first Means Beside below h x now is represents = represents

come : (start moment : ℕ) (kind : KindTree) (x : Entry) (h : History) → ComesAt start moment h x
    → AllCome start moment (λ branch. child_history kind branch h) x
come start moment kind x h comes = record {
  each = λ branch. record {
    begins = (branch_moments kind branch h).begins ∙ comes.begins;
    comes = same_moment (child_history kind branch h) h x (branch_moments kind branch h).ends ∙ comes.comes;
    small = comes.small;
  };
}

stand : (start moment : ℕ) (kind : KindTree) (x : Entry) (h : History) → ComesAt start moment h x
    → AllAreAt start moment (λ branch. ticked x (child_history kind branch h))
stand start moment kind x h comes = record {
  begins =
      λ branch. ticked_begun (child_history kind branch h) x ∙ (branch_moments kind branch h).begins ∙ comes.begins;
  represents =
      λ branch. ticked_moment (child_history kind branch h) x
      ∙ same_moment (child_history kind branch h) h x (branch_moments kind branch h).ends ∙ comes.comes;
  small = comes.small;
}

-- what a stream does, as its contract says it
abbrev pub StateActs : List Regex → ℕ → KindTree → Entry → State → State → Passed → List Output → List Output → Type 0
StateActs patterns moment kind x state state' passed a b =
    (texts : List (List ℕ)) (h : History) → AreReadFrom texts patterns → StateRepresents texts kind state h →
    moment_of (h ▸ x) ≡ moment → moment ≤ 2 ^ 40 →
    Acts texts kind state state' h x a b passed

module _ {G : Type 0} (patterns : List Regex) (start moment : ℕ) (kind : KindTree) (children otherwise : StreamTrees)
    (x : Entry) where
  -- the stream has acted, and a tick has gone on
  pub record HalfRun (texts : List (List ℕ)) (h : History) (state state' : State) (passed : Passed) (below' : Below)
      (a c : List Output) (t u : StepCount G) : Type 0 where
    pub represents : StateRepresents texts kind state' (h ▸ x)
    pub passes : emissions_meant (ended_by kind h) passed x ≡ emissions kind (h ▸ x)
    pub below : BelowRepresents texts children (first_of state') (ForestRepresents texts children)
        (ForestRepresents texts otherwise) (forked_by kind) (live_ticked kind x h)
        (λ branch. ticked x (child_history kind branch h)) below'
    pub grew : Performs a t c u
        (acted (forked_by kind) (own_effects kind (h ▸ x))
        ++ at_tick x (branch_effects (plan_effects children) (plan_effects otherwise))
        (λ branch. child_history kind branch h) (branches kind h))

  half_run : (state state' : State) (passed : Passed) (a b c : List Output) (t u : StepCount G) (below below' : Below) →
      StateActs patterns moment kind x state state' passed a b → (is_kept state ≡ false → state' ≡ state) →
      TickRuns patterns start moment b t c u x (stream kind children otherwise) (first_of state') below below' →
      (texts : List (List ℕ)) (h : History) → AreReadFrom texts patterns →
      PartsRepresent texts (stream kind children otherwise) state below h → ComesAt start moment h x →
      HalfRun texts h state state' passed below' a c t u
  half_run state state' passed a b c t u below below' acts same ticks texts h from represents comes =
      let effects_in = branch_effects (plan_effects children) (plan_effects otherwise) in
      let received = λ (branch : Branch). child_history kind branch h in
      let acted_so = acts texts h from represents.0 comes.comes comes.small in
      let here =
      below_first kind texts children (ForestRepresents texts children) (ForestRepresents texts otherwise)
      (live_by kind h) received below state state' h represents.0 same represents.1 in
      let tick =
      ticks texts (live_by kind h) received from here (come start moment kind x h comes) in record {
        represents = acted_so.represents;
        passes = acted_so.passes;
        below =
            below_ticked kind texts children (first_of state') (ForestRepresents texts children)
            (ForestRepresents texts otherwise) below' h x moment comes.comes tick.0;
        grew =
            grew_then a b c t t u (acted (forked_by kind) (own_effects kind (h ▸ x)))
            (at_tick x effects_in received (branches kind h))
            (own_grew kind h x a b t (forked_by kind) refl acted_so.said)
            (subst (λ (bs : List Branch). Performs b t c u (at_tick x effects_in received bs))
            (sym (branches_are kind h)) tick.1);
      }

  parts_run : (state state' : State) (passed : Passed) (a b c d : List Output) (t u v : StepCount G)
      (below below' below'' : Below) →
      StateActs patterns moment kind x state state' passed a b → (is_kept state ≡ false → state' ≡ state) →
      TickRuns patterns start moment b t c u x (stream kind children otherwise) (first_of state') below below' →
      ((ended : List Value → ℕ) →
      EmissionsRun patterns start moment c u d v (emissions_meant ended passed x) (stream kind children otherwise)
      (first_of state') below' below'') →
      StreamRuns patterns start moment a t d v x (stream kind children otherwise) state below state' below''
  parts_run state state' passed a b c d t u v below below' below'' acts same ticks runs texts h from represents comes =
      let effects_in = branch_effects (plan_effects children) (plan_effects otherwise) in
      let received = λ (branch : Branch). child_history kind branch h in
      let after = λ (branch : Branch). ticked x (child_history kind branch h) in
      let half = half_run state state' passed a b c t u below below' acts same ticks texts h from represents comes in
      let es = emissions kind (h ▸ x) in
      let passes : EmissionsRun patterns start moment c u d v es (stream kind children otherwise) (first_of state')
      below' below'' =
      subst
      (λ (es : List Emission).
      EmissionsRun patterns start moment c u d v es (stream kind children otherwise) (first_of state') below' below'')
      half.passes (runs (ended_by kind h)) in
      let last =
      passes texts (live_ticked kind x h) after from (emissions_fit kind h x) half.below
      (unseen_ticked kind h x) (stand start moment kind x h comes) in (
        (
          half.represents,
          below_came kind texts children (first_of state') (ForestRepresents texts children)
              (ForestRepresents texts otherwise) below'' h x moment comes.comes last.0,
        ),
        subst (λ (hs : List Effect). Performs a t d v hs)
            (all_effects kind h x effects_in received after (branches kind h))
            (grew_then a c d t u v
            (acted (forked_by kind) (own_effects kind (h ▸ x)) ++ at_tick x effects_in received (branches kind h))
            (at_emissions (entering effects_in) after es) half.grew last.1),
      )

  -- ---- where it stopped

  act_stops : (state : State) (a b : List Output) (t : StepCount G) (below : Below) → IsPrefix a b →
      ((h : History) → moment_of (h ▸ x) ≡ moment → IsPrefix b (a ++ own_outputs kind (h ▸ x))) →
      ((texts : List (List ℕ)) (h : History) → StateRepresents texts kind state h → x ≡ Tick →
      moment_of (h ▸ Tick) ≡ moment → emissions kind (h ▸ Tick) ≡ [] → ⊥) →
      StreamStops patterns start moment a t b t x (stream kind children otherwise) state below
  act_stops state a b t below begins within quiet texts h from represents comes =
      let effects_in = branch_effects (plan_effects children) (plan_effects otherwise) in
      let received = λ (branch : Branch). child_history kind branch h in
      let own = own_effects kind (h ▸ x) in
      let tick = at_tick x effects_in received (branches kind h) in
      let after =
      at_emissions effects_in (λ (branch : Branch). ticked x (received branch)) (emissions kind (h ▸ x)) in record {
        part =
            part_more a b t t (own ++ tick) after
            (part_more a b t t own tick (own_part kind h x a b t begins (within h comes.comes)));
        busy = λ is none.
            let none' : stream_effects (stream kind children otherwise) (h ▸ Tick) ≡ [] =
            subst (λ (y : Entry). stream_effects (stream kind children otherwise) (h ▸ y) ≡ []) is none in
            quiet texts h represents.0 is (subst (λ (y : Entry). moment_of (h ▸ y) ≡ moment) is comes.comes)
            (no_emission kind h (at_tick Tick effects_in received (branches kind h))
            (at_emissions effects_in (λ (branch : Branch). received branch ▸ Tick) (emissions kind (h ▸ Tick))) none');
      }

  tick_stops : (state state' : State) (passed : Passed) (a b c : List Output) (t u : StepCount G) (below : Below) →
      StateActs patterns moment kind x state state' passed a b → (is_kept state ≡ false → state' ≡ state) →
      TickStops patterns start moment b t c u x (stream kind children otherwise) (first_of state') below →
      StreamStops patterns start moment a t c u x (stream kind children otherwise) state below
  tick_stops state state' passed a b c t u below acts same stops texts h from represents comes =
      let effects_in = branch_effects (plan_effects children) (plan_effects otherwise) in
      let received = λ (branch : Branch). child_history kind branch h in
      let after = λ (branch : Branch). ticked x (child_history kind branch h) in
      let acted_so = acts texts h from represents.0 comes.comes comes.small in
      let here =
      below_first kind texts children (ForestRepresents texts children) (ForestRepresents texts otherwise)
      (live_by kind h) received below state state' h represents.0 same represents.1 in
      let stop = stops texts (live_by kind h) received from here (come start moment kind x h comes) in
      let own = acted (forked_by kind) (own_effects kind (h ▸ x)) in
      let tick = at_tick x effects_in received (branches kind h) in
      subst (λ (hs : List Effect). Stops a t c u x hs)
      (all_effects kind h x effects_in received after (branches kind h))
      (stops_more a c t u x (own ++ tick) (at_emissions (entering effects_in) after (emissions kind (h ▸ x)))
      (stops_then a b c t t u x own tick (own_grew kind h x a b t (forked_by kind) refl acted_so.said)
      (subst (λ (bs : List Branch). Stops b t c u x (at_tick x effects_in received bs))
      (sym (branches_are kind h)) stop)))

  passed_stops : (state state' : State) (passed : Passed) (a b c d : List Output) (t u v : StepCount G)
      (below below' : Below) →
      StateActs patterns moment kind x state state' passed a b → (is_kept state ≡ false → state' ≡ state) →
      TickRuns patterns start moment b t c u x (stream kind children otherwise) (first_of state') below below' →
      ((ended : List Value → ℕ) →
      EmissionsStop patterns start moment c u d v (emissions_meant ended passed x) (stream kind children otherwise)
      (first_of state') below') →
      StreamStops patterns start moment a t d v x (stream kind children otherwise) state below
  passed_stops state state' passed a b c d t u v below below' acts same ticks stops texts h from represents comes =
      let effects_in = branch_effects (plan_effects children) (plan_effects otherwise) in
      let received = λ (branch : Branch). child_history kind branch h in
      let after = λ (branch : Branch). ticked x (child_history kind branch h) in
      let half = half_run state state' passed a b c t u below below' acts same ticks texts h from represents comes in
      let es = emissions kind (h ▸ x) in
      let passes : EmissionsStop patterns start moment c u d v es (stream kind children otherwise) (first_of state')
      below' =
      subst
      (λ (es : List Emission).
      EmissionsStop patterns start moment c u d v es (stream kind children otherwise) (first_of state') below')
      half.passes (stops (ended_by kind h)) in
      let last =
      passes texts (live_ticked kind x h) after from (emissions_fit kind h x) half.below
      (unseen_ticked kind h x)
      (stand start moment kind x h comes) in record {
        part =
            subst (λ (hs : List Effect). PerformsPart a t d v hs)
            (all_effects kind h x effects_in received after (branches kind h))
            (part_then a c d t u v
            (acted (forked_by kind) (own_effects kind (h ▸ x)) ++ at_tick x effects_in received (branches kind h))
            (at_emissions (entering effects_in) after es) half.grew last.0);
        busy = λ is none.
            let none' : stream_effects (stream kind children otherwise) (h ▸ Tick) ≡ [] =
            subst (λ (y : Entry). stream_effects (stream kind children otherwise) (h ▸ y) ≡ []) is none in
            last.1 (subst (λ (y : Entry). emissions kind (h ▸ y) ≡ []) (sym is)
            (no_emission kind h (at_tick Tick effects_in received (branches kind h))
            (at_emissions effects_in (λ (branch : Branch). received branch ▸ Tick) (emissions kind (h ▸ Tick))) none'));
      }

module _ {G : Type 0} (patterns : List Regex) (start moment : ℕ) (s : Stream) (x : Entry) where
  pub stream_runs : (state state' : State) (passed : Passed) (a b c d : List Output) (t u v : StepCount G)
      (below below' below'' : Below) →
      StateActs patterns moment (kind_tree (out-Stream s).kind) x state state' passed a b →
      (is_kept state ≡ false → state' ≡ state) →
      TickRuns patterns start moment b t c u x (opened s) (first_of state') below below' →
      ((ended : List Value → ℕ) →
      EmissionsRun patterns start moment c u d v (emissions_meant ended passed x) (opened s) (first_of state') below'
      below'') →
      StreamRuns patterns start moment a t d v x (opened s) state below state' below''
  unfolding opened
  stream_runs =
      parts_run patterns start moment (kind_tree (out-Stream s).kind) (list_trees (out-Stream s).children.items)
      (list_trees (out-Stream s).otherwise.items) x

  pub stream_act_stops : (state : State) (a b : List Output) (t : StepCount G) (below : Below) → IsPrefix a b →
      ((h : History) → moment_of (h ▸ x) ≡ moment →
      IsPrefix b (a ++ own_outputs (kind_tree (out-Stream s).kind) (h ▸ x))) →
      ((texts : List (List ℕ)) (h : History) → StateRepresents texts (kind_tree (out-Stream s).kind) state h →
      x ≡ Tick → moment_of (h ▸ Tick) ≡ moment → emissions (kind_tree (out-Stream s).kind) (h ▸ Tick) ≡ [] → ⊥) →
      StreamStops patterns start moment a t b t x (opened s) state below
  unfolding opened
  stream_act_stops =
      act_stops patterns start moment (kind_tree (out-Stream s).kind) (list_trees (out-Stream s).children.items)
      (list_trees (out-Stream s).otherwise.items) x

  pub stream_tick_stops : (state state' : State) (passed : Passed) (a b c : List Output) (t u : StepCount G)
      (below : Below) →
      StateActs patterns moment (kind_tree (out-Stream s).kind) x state state' passed a b →
      (is_kept state ≡ false → state' ≡ state) →
      TickStops patterns start moment b t c u x (opened s) (first_of state') below →
      StreamStops patterns start moment a t c u x (opened s) state below
  unfolding opened
  stream_tick_stops =
      tick_stops patterns start moment (kind_tree (out-Stream s).kind) (list_trees (out-Stream s).children.items)
      (list_trees (out-Stream s).otherwise.items) x

  pub stream_passed_stops : (state state' : State) (passed : Passed) (a b c d : List Output) (t u v : StepCount G)
      (below below' : Below) →
      StateActs patterns moment (kind_tree (out-Stream s).kind) x state state' passed a b →
      (is_kept state ≡ false → state' ≡ state) →
      TickRuns patterns start moment b t c u x (opened s) (first_of state') below below' →
      ((ended : List Value → ℕ) →
      EmissionsStop patterns start moment c u d v (emissions_meant ended passed x) (opened s)
      (first_of state') below') →
      StreamStops patterns start moment a t d v x (opened s) state below
  unfolding opened
  stream_passed_stops =
      passed_stops patterns start moment (kind_tree (out-Stream s).kind) (list_trees (out-Stream s).children.items)
      (list_trees (out-Stream s).otherwise.items) x
