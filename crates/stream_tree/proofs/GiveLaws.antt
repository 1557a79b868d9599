-- The last of the streams is an `index`, and all that it does with an event is to write it.
use Rattle.std.proofs.Common.{◌≡◌, ℕ, zero, suc, ◌+◌, ◌<◌, ◌≤◌, true, false, List, [], ◌∷◌, ◌++◌, length, get_or}
use Rattle.std.proofs.Common.{None, refl, sym, ap, ◌∙◌, subst, arith}
use Rattle.std.proofs.Math.ListN.{set}
use Rattle.std.proofs.lemmas.List.{set-get_or}
use mathlib.Core.Bool.{true≢false}
use Rattle.ev_types.specs.declared.item.Item.TheVariants.{One}
use Rattle.ev_types.specs.declared.event.Event.{Event}
use Rattle.ev_types.specs.declared.item.Output.{Output}
use Rattle.ev_types.specs.declared.item.Output.TheVariants.{Write}
use Rattle.step_count.specs.Count.{StepCount}
use Rattle.regex.specs.declared.string.regex.Regex.{Regex}
use Rattle.stream_plan.specs.declared.plan.Stream.{Stream, out-Stream}
use Rattle.stream_plan.specs.Search.{opened}
use Rattle.stream_plan.specs.Tree.{KindTree, Index, StreamTree, StreamTrees, stream, none, also, kind_tree, list_trees}
use Rattle.stream_plan.proofs.Trees.{stream_tree-opened}
use Rattle.stream_meaning.specs.declared.entry.Entry.{Entry}
use Rattle.stream_meaning.specs.declared.entry.Entry.TheVariants.{Item as In}
use Rattle.stream_meaning.specs.History.{History, ◌▸◌}
use Rattle.stream_meaning.specs.Outputs.{Put, plan_effects}
use Rattle.stream_step.specs.declared.state.State.{State}
use Rattle.stream_step.specs.declared.state.State.TheVariants as variant
use Rattle.stream_step.specs.Step.{StateRepresents}
use Rattle.stream_tree.specs.declared.forest.Node.{Node, out-Node}
use Rattle.stream_tree.specs.Forest.{Below, node_below, ForestRepresents}
use Rattle.stream_tree.specs.Running.{kind_of, FirstRun, ForestRuns, StreamRuns}
use Rattle.stream_tree.specs.Unseen.{is_index, is_one_index}
use Rattle.stream_tree.proofs.ForestLaws.{forest_begins, forest_more, forest_full}
use Rattle.stream_step.specs.stream_states.Kept.{keeps}
use Rattle.stream_tree.proofs.PerformLaws.{own_grew}
use Rattle.stream_step.proofs.KeptLaws.{kept_keeps}

-- the state of an `index` holds nothing
index_stays : (texts : List (List ℕ)) (state : State) (h : History) (x : Entry) → StateRepresents texts Index state h
    → StateRepresents texts Index state (h ▸ x)
index_stays texts (variant.Kept held) h x represents =
    absurd (true≢false (sym (kept_keeps held) ∙ ap keeps represents.keeps.same_kind))
index_stays texts state h x represents = record { in_range = represents.in_range; keeps = represents.keeps }

module _ {G : Type 0} (patterns : List Regex) (start moment : ℕ) (event : Event) where
  index_runs : (children otherwise : StreamTrees) (state : State) (a : List Output) (t : StepCount G) (below : Below) →
      StreamRuns patterns start moment a t (a ++ Write event ∷ []) t (In (One event)) (stream Index children otherwise)
      state below state below
  index_runs children otherwise state a t below texts h from represents comes = (
    (index_stays texts state h (In (One event)) represents.0, represents.1),
    own_grew Index h (In (One event)) a (a ++ Write event ∷ []) t None refl refl,
  )

  written_runs : (s : Stream) (state : State) (a : List Output) (t : StepCount G) (below : Below) →
      kind_tree (out-Stream s).kind ≡ Index →
      StreamRuns patterns start moment a t (a ++ Write event ∷ []) t (In (One event)) (opened s) state below state below
  unfolding opened
  written_runs s state a t below is =
      let children = list_trees (out-Stream s).children.items in
      let otherwise = list_trees (out-Stream s).otherwise.items in
      subst
      (λ (kind : KindTree). StreamRuns patterns start moment a t (a ++ Write event ∷ []) t (In (One event))
      (stream kind children otherwise) state below state below)
      (sym is)
      (index_runs children otherwise state a t below)

last_node : (nodes : List Node) (i : ℕ) → i < length nodes → (node : Node) × (node ≡ get_or nodes i node)
last_node [] i within = absurd (omega (arith, within))
last_node (node ∷ nodes) zero within = (node, refl)
last_node (node ∷ nodes) (suc i) within = last_node nodes i (omega (arith, within))

-- the streams up to the last one have got the event, and the last one writes it
module _ {G : Type 0} (patterns : List Regex) (start moment : ℕ) (event : Event) (a b : List Output) (t u : StepCount G)
    (streams : List Stream) (first nodes : List Node) (i : ℕ) (s : Stream) where
  pub last_written : i < length streams → i < length nodes → length streams ≤ i + 1 →
      s ≡ get_or streams i s → kind_tree (out-Stream (get_or streams i s)).kind ≡ Index →
      FirstRun patterns start moment a t b u (In (One event)) streams first i nodes →
      ForestRuns patterns start moment a t (b ++ Write event ∷ []) u (In (One event)) (list_trees streams) first nodes
  last_written within within' past is is_index so_far =
      let x = In (One event) in
      let c = b ++ Write event ∷ [] in
      let node = last_node nodes i within' in
      let kind : kind_tree (out-Stream s).kind ≡ Index =
      ap (λ (r : Stream). kind_tree (out-Stream r).kind) is ∙ is_index in
      let stays : set nodes i node.0 ≡ nodes = ap (λ (n : Node). set nodes i n) node.1 ∙ set-get_or nodes i node.0 in
      let more =
      forest_more patterns start moment x a t streams first i nodes b c u u s node.0 node.0 node.0 within within' is
      node.1 so_far
      (written_runs patterns start moment event s (out-Node node.0).state b u (node_below node.0) kind) in
      forest_full patterns start moment x a t streams first (i + 1) nodes c u past
      (subst (λ (ns : List Node). FirstRun patterns start moment a t c u x streams first (i + 1) ns) stays more)

-- the last one is the only one
pub none_before : {G : Type 0} (patterns : List Regex) (start moment : ℕ) (x : Entry) (a : List Output)
    (t : StepCount G) (streams : List Stream) (first : List Node) (i : ℕ) →
    0 ≡ i →
    FirstRun patterns start moment a t a t x streams first i first
none_before patterns start moment x a t streams first i only =
    subst (λ (n : ℕ). FirstRun patterns start moment a t a t x streams first n first) only
    (forest_begins patterns start moment x a t streams first)

-- ---- the only stream is an `index`

pub index_is : (kind : KindTree) → is_index kind ≡ true → kind ≡ Index
index_is Index is = refl
index_is kind is = cc

opened_kind : (s : Stream) → kind_of (opened s) ≡ kind_tree (out-Stream s).kind
unfolding opened
opened_kind s = refl

pub only_stream : (streams : List Stream) (s other : Stream) → length streams ≡ 1 → s ≡ get_or streams 0 other
    → is_index (kind_tree (out-Stream s).kind) ≡ is_one_index (list_trees streams)
only_stream [] s other one is = absurd (omega (arith, one))
only_stream (first ∷ []) s other one is =
    ap (λ (r : Stream). is_index (kind_tree (out-Stream r).kind)) is
    ∙ ap is_index (sym (opened_kind first))
    ∙ ap (λ (t : StreamTree). is_index (kind_of t)) (sym (stream_tree-opened first))
only_stream (first ∷ second ∷ more) s other one is = absurd (omega (arith, one))

pub other_streams : (streams : List Stream) → (length streams ≡ 1 → ⊥) → false ≡ is_one_index (list_trees streams)
other_streams [] others = refl
other_streams (first ∷ []) others = absurd (others refl)
other_streams (first ∷ second ∷ more) others = refl
