-- An entry on its way along a list of streams, of which the first ones have got it.
use Rattle.std.proofs.Common.{◌≡◌, ℕ, zero, suc, ◌+◌, ◌<◌, ◌≤◌, min, List, [], ◌∷◌, ◌++◌, length, take, drop, get_or}
use Rattle.std.proofs.Common.{refl, sym, ap, ◌∙◌, subst, arith}
use Rattle.std.proofs.Math.ListN.{set}
use Rattle.std.proofs.lemmas.List.{append-nil, append_assoc, take_more, take_all, take-append-drop}
use Rattle.ev_types.specs.declared.item.Output.{Output}
use Rattle.step_count.specs.Count.{StepCount}
use Rattle.regex.specs.declared.string.regex.Regex.{Regex}
use Rattle.stream_plan.specs.declared.plan.Stream.{Stream}
use Rattle.stream_plan.specs.Search.{opened}
use Rattle.stream_plan.specs.Tree.{StreamTree, stream_tree, list_trees}
use Rattle.stream_plan.proofs.Trees.{stream_tree-opened}
use Rattle.stream_meaning.specs.declared.entry.Entry.{Entry}
use Rattle.stream_meaning.specs.declared.entry.Entry.TheVariants.{Tick}
use Rattle.stream_meaning.specs.History.{History, ◌▸◌}
use Rattle.stream_meaning.specs.Outputs.{Effect, stream_effects, plan_effects}
use Rattle.stream_tree.specs.declared.forest.Node.{Node, out-Node}
use Rattle.stream_tree.specs.Forest.{node_below, NodeRepresents, ForestRepresents}
use Rattle.stream_tree.specs.Running.{Stops, FirstRepresent, FirstRun, BareRun, BareStop, ForestRuns, ForestStops}
use Rattle.stream_tree.specs.Running.{StreamRuns, StreamStops}
use Rattle.stream_tree.specs.Tree.{Performs}
use Rattle.list_laws.specs.Prefix.{IsPrefix}
use Rattle.stream_tree.proofs.BareLaws.{bare_after, bare_performs, bare_part}
use Rattle.stream_tree.proofs.PerformLaws.{grew_none, grew_then, stops_more, stops_then}

module _ (texts : List (List ℕ)) (h : History) (x : Entry) where
  half_here : (streams : List Stream) (nodes : List Node) (i : ℕ) (s : Stream) (node : Node) → i < length streams →
      i < length nodes →
      FirstRepresent texts i (list_trees streams) nodes h x →
      NodeRepresents texts (opened (get_or streams i s)) (get_or nodes i node) h
  half_here [] nodes i s node within within' half = absurd (omega (arith, within))
  half_here (first ∷ streams) [] i s node within within' half = absurd (omega (arith, within'))
  half_here (first ∷ streams) (other ∷ nodes) zero s node within within' half =
      subst (λ (t : StreamTree). NodeRepresents texts t other h) (stream_tree-opened first) half.0
  half_here (first ∷ streams) (other ∷ nodes) (suc i) s node within within' half =
      half_here streams nodes i s node (omega (arith, within)) (omega (arith, within')) half.1

  half_more : (streams : List Stream) (nodes : List Node) (i : ℕ) (s : Stream) (node : Node) → i < length streams →
      i < length nodes →
      FirstRepresent texts i (list_trees streams) nodes h x →
      NodeRepresents texts (opened (get_or streams i s)) node (h ▸ x) →
      FirstRepresent texts (suc i) (list_trees streams) (set nodes i node) h x
  half_more [] nodes i s node within within' half now = absurd (omega (arith, within))
  half_more (first ∷ streams) [] i s node within within' half now = absurd (omega (arith, within'))
  half_more (first ∷ streams) (other ∷ nodes) zero s node within within' half now =
      (subst (λ (t : StreamTree). NodeRepresents texts t node (h ▸ x)) (sym (stream_tree-opened first)) now, half.1)
  half_more (first ∷ streams) (other ∷ nodes) (suc i) s node within within' half now =
      (half.0, half_more streams nodes i s node (omega (arith, within)) (omega (arith, within')) half.1 now)

  half_all : (streams : List Stream) (nodes : List Node) (i : ℕ) → min (length streams) (length nodes) ≤ i →
      FirstRepresent texts i (list_trees streams) nodes h x → ForestRepresents texts (list_trees streams) nodes (h ▸ x)
  half_all [] [] i past half = tt
  half_all [] (node ∷ nodes) zero past half = half
  half_all [] (node ∷ nodes) (suc i) past half = half
  half_all (first ∷ streams) [] zero past half = half
  half_all (first ∷ streams) [] (suc i) past half = absurd half
  half_all (first ∷ streams) (node ∷ nodes) zero past half = absurd (omega (arith, past))
  half_all (first ∷ streams) (node ∷ nodes) (suc i) past half =
      (half.0, half_all streams nodes i (omega (arith, past)) half.1)

plan_effects-append : (front back : List Stream) (h : History)
    → plan_effects (list_trees (front ++ back)) h
    ≡ plan_effects (list_trees front) h ++ plan_effects (list_trees back) h
plan_effects-append [] back h = refl
plan_effects-append (s ∷ front) back h =
    ap (λ (l : List Effect). stream_effects (stream_tree s) h ++ l) (plan_effects-append front back h)
    ∙ sym (append_assoc (stream_effects (stream_tree s) h) (plan_effects (list_trees front) h)
    (plan_effects (list_trees back) h))

pub plan_effects-take : (streams : List Stream) (i : ℕ) (s : Stream) (h : History) → i < length streams →
    plan_effects (list_trees (take (i + 1) streams)) h
    ≡ plan_effects (list_trees (take i streams)) h ++ stream_effects (opened (get_or streams i s)) h
plan_effects-take streams i s h within =
    let here = get_or streams i s in
    ap (λ (l : List Stream). plan_effects (list_trees l) h) (take_more streams i s within)
    ∙ plan_effects-append (take i streams) (here ∷ []) h
    ∙ ap (λ (l : List Effect). plan_effects (list_trees (take i streams)) h ++ l)
    (append-nil (stream_effects (stream_tree here) h)
    ∙ ap (λ (t : StreamTree). stream_effects t h) (stream_tree-opened here))

-- the effects of the streams from number i on
pub plan_effects-split : (streams : List Stream) (i : ℕ) (s : Stream) (h : History) → i < length streams →
    plan_effects (list_trees streams) h
    ≡ (plan_effects (list_trees (take i streams)) h ++ stream_effects (opened (get_or streams i s)) h)
    ++ plan_effects (list_trees (drop (i + 1) streams)) h
plan_effects-split streams i s h within =
    ap (λ (l : List Stream). plan_effects (list_trees l) h) (sym (take-append-drop (i + 1) streams))
    ∙ plan_effects-append (take (i + 1) streams) (drop (i + 1) streams) h
    ∙ ap (λ (l : List Effect). l ++ plan_effects (list_trees (drop (i + 1) streams)) h)
    (plan_effects-take streams i s h within)

-- ---- the loop

module _ {G : Type 0} (patterns : List Regex) (start moment : ℕ) (x : Entry) (a : List Output) (t : StepCount G)
    (streams : List Stream) (first : List Node) where
  -- the first i streams have got the entry
  abbrev pub ForestRan : ℕ → List Node → List Output → StepCount G → Type 0
  ForestRan i nodes b u = FirstRun patterns start moment a t b u x streams first i nodes

  pub forest_begins : ForestRan 0 first a t
  forest_begins texts h from represents comes = (represents, grew_none a t)

  -- the node of the next stream
  node_here : (texts : List (List ℕ)) (h : History) (i : ℕ) (nodes : List Node) (s : Stream) (node other : Node) →
      i < length streams → i < length nodes → s ≡ get_or streams i s → node ≡ get_or nodes i other →
      FirstRepresent texts i (list_trees streams) nodes h x → NodeRepresents texts (opened s) node h
  node_here texts h i nodes s node other within within' is is' half =
      let at_place : NodeRepresents texts (opened (get_or streams i s)) (get_or nodes i other) h =
      half_here texts h x streams nodes i s other within within' half in
      subst (λ (n : Node). NodeRepresents texts (opened s) n h) (sym is')
      (subst (λ (r : Stream). NodeRepresents texts (opened r) (get_or nodes i other) h) (sym is) at_place)

  pub forest_more : (i : ℕ) (nodes : List Node) (b c : List Output) (u v : StepCount G) (s : Stream)
      (node node' other : Node) →
      i < length streams → i < length nodes → s ≡ get_or streams i s → node ≡ get_or nodes i other →
      ForestRan i nodes b u →
      StreamRuns patterns start moment b u c v x (opened s) (out-Node node).state (node_below node)
      (out-Node node').state (node_below node') →
      ForestRan (i + 1) (set nodes i node') c v
  forest_more i nodes b c u v s node node' other within within' is is' so_far runs texts h from represents comes =
      let before = so_far texts h from represents comes in
      let ran = runs texts h from (node_here texts h i nodes s node other within within' is is' before.0) comes in
      let done : NodeRepresents texts (opened (get_or streams i s)) node' (h ▸ x) =
      subst (λ (r : Stream). NodeRepresents texts (opened r) node' (h ▸ x)) is ran.0 in
      let half : FirstRepresent texts (suc i) (list_trees streams) (set nodes i node') h x =
      half_more texts h x streams nodes i s node' within within' before.0 done in
      let number : suc i ≡ i + 1 = omega arith in
      let effects : plan_effects (list_trees (take i streams)) (h ▸ x) ++ stream_effects (opened s) (h ▸ x)
      ≡ plan_effects (list_trees (take (i + 1) streams)) (h ▸ x) =
      ap (λ (r : Stream). plan_effects (list_trees (take i streams)) (h ▸ x) ++ stream_effects (opened r) (h ▸ x)) is
      ∙ sym (plan_effects-take streams i s (h ▸ x) within) in (
        subst (λ (n : ℕ). FirstRepresent texts n (list_trees streams) (set nodes i node') h x) number half,
        subst (λ (hs : List Effect). Performs a t c v hs) effects
            (grew_then a b c t u v (plan_effects (list_trees (take i streams)) (h ▸ x))
            (stream_effects (opened s) (h ▸ x)) before.1 ran.1),
      )

  pub forest_stops : (i : ℕ) (nodes : List Node) (b c : List Output) (u v : StepCount G) (s : Stream)
      (node other : Node) →
      i < length streams → i < length nodes → s ≡ get_or streams i s → node ≡ get_or nodes i other →
      ForestRan i nodes b u →
      StreamStops patterns start moment b u c v x (opened s) (out-Node node).state (node_below node) →
      ForestStops patterns start moment a t c v x (list_trees streams) first
  forest_stops i nodes b c u v s node other within within' is is' so_far stops texts h from represents comes =
      let before = so_far texts h from represents comes in
      let stop = stops texts h from (node_here texts h i nodes s node other within within' is is' before.0) comes in
      let front = plan_effects (list_trees (take i streams)) (h ▸ x) in
      let rest = plan_effects (list_trees (drop (i + 1) streams)) (h ▸ x) in
      let effects : (front ++ stream_effects (opened s) (h ▸ x)) ++ rest ≡ plan_effects (list_trees streams) (h ▸ x) =
      ap (λ (r : Stream). (front ++ stream_effects (opened r) (h ▸ x)) ++ rest) is
      ∙ sym (plan_effects-split streams i s (h ▸ x) within) in
      subst (λ (hs : List Effect). Stops a t c v x hs) effects
      (stops_more a c t v x (front ++ stream_effects (opened s) (h ▸ x)) rest
      (stops_then a b c t u v x front (stream_effects (opened s) (h ▸ x)) before.1 stop))

  -- there is a node for each of the streams
  pub forest_full : (i : ℕ) (nodes : List Node) (b : List Output) (u : StepCount G) → length streams ≤ i →
      ForestRan i nodes b u → ForestRuns patterns start moment a t b u x (list_trees streams) first nodes
  forest_full i nodes b u past so_far texts h from represents comes =
      let ran = so_far texts h from represents comes in (
        half_all texts h x streams nodes i (omega (arith, past)) ran.0,
        subst (λ (l : List Stream). Performs a t b u (plan_effects (list_trees l) (h ▸ x))) (take_all i streams past)
            ran.1,
      )

  effects_after : (i : ℕ) (h : History)
      → plan_effects (list_trees (take i streams)) h ++ plan_effects (list_trees (drop i streams)) h
      ≡ plan_effects (list_trees streams) h
  effects_after i h =
      sym (plan_effects-append (take i streams) (drop i streams) h)
      ∙ ap (λ (l : List Stream). plan_effects (list_trees l) h) (take-append-drop i streams)

  -- those without a node come last
  pub forest_ends : (i : ℕ) (nodes : List Node) (b c : List Output) (u : StepCount G) (rest : List Stream) →
      min (length streams) (length nodes) ≤ i → length nodes ≡ length first → rest ≡ drop i streams →
      ForestRan i nodes b u → BareRun patterns start moment b c x (list_trees rest) →
      ForestRuns patterns start moment a t c u x (list_trees streams) first nodes
  forest_ends i nodes b c u rest past same is so_far says texts h from represents comes =
      let ran = so_far texts h from represents comes in
      let bare = bare_after texts h streams first i (omega (arith, past, same)) represents in
      let run = subst (λ (l : List Stream). BareRun patterns start moment b c x (list_trees l)) is says in
      let said = run texts h from bare comes in (
        half_all texts h x streams nodes i past ran.0,
        subst (λ (hs : List Effect). Performs a t c u hs) (effects_after i (h ▸ x))
            (grew_then a b c t u u (plan_effects (list_trees (take i streams)) (h ▸ x))
            (plan_effects (list_trees (drop i streams)) (h ▸ x)) ran.1
            (bare_performs (list_trees (drop i streams)) h x b c u bare said)),
      )

  pub forest_cut : (i : ℕ) (nodes : List Node) (b c : List Output) (u : StepCount G) (rest : List Stream) →
      min (length streams) (length nodes) ≤ i → length nodes ≡ length first → rest ≡ drop i streams →
      ForestRan i nodes b u → BareStop patterns start moment b c x (list_trees rest) → IsPrefix b c →
      (x ≡ Tick → ⊥) →
      ForestStops patterns start moment a t c u x (list_trees streams) first
  forest_cut i nodes b c u rest past same is so_far stops begins item texts h from represents comes =
      let ran = so_far texts h from represents comes in
      let bare = bare_after texts h streams first i (omega (arith, past, same)) represents in
      let stop = subst (λ (l : List Stream). BareStop patterns start moment b c x (list_trees l)) is stops in
      let within = stop texts h from bare comes in
      subst (λ (hs : List Effect). Stops a t c u x hs) (effects_after i (h ▸ x))
      (stops_then a b c t u u x (plan_effects (list_trees (take i streams)) (h ▸ x))
      (plan_effects (list_trees (drop i streams)) (h ▸ x)) ran.1
      (record {
        part = bare_part (list_trees (drop i streams)) h x b c u begins within;
        busy = λ tick none. item tick;
      }))
