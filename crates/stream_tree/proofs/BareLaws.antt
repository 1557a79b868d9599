-- Streams that keep nothing and have none below them do no more than what they say themselves.
use Rattle.std.proofs.Common.{◌≡◌, ℕ, zero, suc, ◌<◌, ◌≤◌, min, List, [], ◌∷◌, ◌++◌, length, drop, get_or, Option, None}
use Rattle.std.proofs.Common.{refl, sym, ap, ◌∙◌, subst, arith}
use Rattle.ev_types.specs.declared.item.Item.TheVariants.{One, Many}
use Rattle.ev_types.specs.declared.item.Output.{Output}
use Rattle.list_laws.specs.Prefix.{IsPrefix}
use Rattle.step_count.specs.Count.{StepCount}
use Rattle.stream_plan.specs.declared.plan.Stream.{Stream, out-Stream}
use Rattle.stream_plan.specs.Ready.{stream_patterns, plan_patterns}
use Rattle.stream_plan.specs.Search.{opened}
use Rattle.stream_plan.specs.Tree.{KindTree, Index, Notice, StreamTree, StreamTrees, stream, none, also, kind_tree}
use Rattle.stream_plan.specs.Tree.{list_trees}
use Rattle.stream_plan.proofs.Trees.{stream_tree-opened}
use Rattle.stream_meaning.specs.Deadlines.{earlier, stream_deadline, plan_deadline}
use Rattle.stream_meaning.specs.declared.entry.Entry.{Entry}
use Rattle.stream_meaning.specs.declared.entry.Entry.TheVariants.{Tick, Item as In}
use Rattle.stream_meaning.specs.History.{History, ◌▸◌}
use Rattle.stream_meaning.specs.Laws.{own_outputs}
use Rattle.stream_meaning.specs.Outputs.{Effect, stream_effects, plan_effects, outputs_among, outputs_at, due_among}
use Rattle.stream_meaning.specs.Outputs.{given_among}
use Rattle.stream_step.specs.declared.state.State.TheVariants.{Empty}
use Rattle.stream_step.specs.Step.{StateRepresents}
use Rattle.stream_tree.specs.declared.forest.Node.{Node}
use Rattle.stream_tree.specs.Forest.{IsBare, AllBare, ForestRepresents}
use Rattle.stream_tree.specs.Running.{kind_of}
use Rattle.stream_tree.specs.Tree.{Performs, PerformsPart}
use Rattle.stream_tree.proofs.PerformLaws.{due-append, given-append}

-- ---- one stream

pub bare_state : (texts : List (List ℕ)) (s : StreamTree) (h : History) → IsBare s
    → StateRepresents texts (kind_of s) Empty h
bare_state texts (stream Index none none) h bare = record { in_range = refl; keeps = refl }
bare_state texts (stream (Notice name) none none) h bare = record { in_range = refl; keeps = refl }
bare_state texts s h bare = absurd bare

pub bare_says : (s : StreamTree) (h : History) (x : Entry) → IsBare s
    → outputs_among (stream_effects s (h ▸ x)) ≡ own_outputs (kind_of s) (h ▸ x)
bare_says (stream Index none none) h Tick bare = refl
bare_says (stream Index none none) h (In (One event)) bare = refl
bare_says (stream Index none none) h (In (Many es)) bare = refl
bare_says (stream (Notice name) none none) h Tick bare = refl
bare_says (stream (Notice name) none none) h (In item) bare = refl
bare_says s h x bare = absurd bare

abbrev CountNothing : List Effect → Type 0
CountNothing effects = (due_among effects ≡ 0) × (given_among effects ≡ 0)

bare_counts : (s : StreamTree) (h : History) (x : Entry) → IsBare s → CountNothing (stream_effects s (h ▸ x))
bare_counts (stream Index none none) h Tick bare = (refl, refl)
bare_counts (stream Index none none) h (In (One event)) bare = (refl, refl)
bare_counts (stream Index none none) h (In (Many es)) bare = (refl, refl)
bare_counts (stream (Notice name) none none) h Tick bare = (refl, refl)
bare_counts (stream (Notice name) none none) h (In item) bare = (refl, refl)
bare_counts s h x bare = absurd bare

bare_tick : (s : StreamTree) (h : History) → IsBare s → stream_effects s (h ▸ Tick) ≡ []
bare_tick (stream Index none none) h bare = refl
bare_tick (stream (Notice name) none none) h bare = refl
bare_tick s h bare = absurd bare

bare_due : (s : StreamTree) (h : History) → IsBare s → stream_deadline s h ≡ None
bare_due (stream Index none none) h bare = refl
bare_due (stream (Notice name) none none) h bare = refl
bare_due s h bare = absurd bare

bare_pattern : (s : StreamTree) → IsBare s → stream_patterns s ≡ []
unfolding stream_patterns
bare_pattern (stream Index none none) bare = refl
bare_pattern (stream (Notice name) none none) bare = refl
bare_pattern s bare = absurd bare

-- a stream without others below it
bare_alone : (kind : KindTree) (children otherwise : List Stream) → children ≡ [] → otherwise ≡ [] →
    IsBare (stream kind none none) → IsBare (stream kind (list_trees children) (list_trees otherwise))
bare_alone kind children otherwise no_children no_others bare =
    subst (λ (l : List Stream). IsBare (stream kind (list_trees l) (list_trees otherwise))) (sym no_children)
    (subst (λ (l : List Stream). IsBare (stream kind none (list_trees l))) (sym no_others) bare)

pub bare_opened : (s : Stream) → (out-Stream s).children.items ≡ [] → (out-Stream s).otherwise.items ≡ [] →
    IsBare (stream (kind_tree (out-Stream s).kind) none none) → IsBare (opened s)
unfolding opened
bare_opened s no_children no_others bare =
    bare_alone (kind_tree (out-Stream s).kind) (out-Stream s).children.items (out-Stream s).otherwise.items no_children
    no_others bare

-- ---- lists of streams

all_count : (streams : StreamTrees) (h : History) (x : Entry) → AllBare streams
    → CountNothing (plan_effects streams (h ▸ x))
all_count none h x bare = (refl, refl)
all_count (also first more) h x bare =
    let one = bare_counts first h x bare.0 in
    let rest = all_count more h x bare.1 in (
      omega (arith, one.0, rest.0, due-append (stream_effects first (h ▸ x)) (plan_effects more (h ▸ x))),
      omega (arith, one.1, rest.1, given-append (stream_effects first (h ▸ x)) (plan_effects more (h ▸ x))),
    )

pub all_quiet : (streams : StreamTrees) (h : History) → AllBare streams → plan_effects streams (h ▸ Tick) ≡ []
all_quiet none h bare = refl
all_quiet (also first more) h bare =
    ap (λ (l : List Effect). l ++ plan_effects more (h ▸ Tick)) (bare_tick first h bare.0) ∙ all_quiet more h bare.1

pub never_due : (streams : StreamTrees) (h : History) → AllBare streams → plan_deadline streams h ≡ None
never_due none h bare = refl
never_due (also first more) h bare =
    ap (λ (d : Option ℕ). earlier d (plan_deadline more h)) (bare_due first h bare.0) ∙ never_due more h bare.1

pub no_patterns : (streams : StreamTrees) → AllBare streams → plan_patterns streams ≡ []
unfolding plan_patterns
no_patterns none bare = refl
no_patterns (also first more) bare =
    ap (λ (l : List (List ℕ)). l ++ plan_patterns more) (bare_pattern first bare.0) ∙ no_patterns more bare.1

pub bare_at : (streams : List Stream) (i : ℕ) (s : Stream) → i < length streams → AllBare (list_trees streams)
    → IsBare (opened (get_or streams i s))
bare_at [] i s within bare = absurd (omega (arith, within))
bare_at (first ∷ streams) zero s within bare =
    subst (λ (t : StreamTree). IsBare t) (stream_tree-opened first) bare.0
bare_at (first ∷ streams) (suc i) s within bare = bare_at streams i s (omega (arith, within)) bare.1

bare_drop : (streams : List Stream) (i : ℕ) → AllBare (list_trees streams) → AllBare (list_trees (drop i streams))
bare_drop [] zero bare = tt
bare_drop [] (suc i) bare = tt
bare_drop (first ∷ streams) zero bare = bare
bare_drop (first ∷ streams) (suc i) bare = bare_drop streams i bare.1

pub bare_snoc : (streams : List Stream) (s : Stream) → AllBare (list_trees streams) → IsBare (opened s)
    → AllBare (list_trees (streams ++ s ∷ []))
bare_snoc [] s bare one = (subst (λ (t : StreamTree). IsBare t) (sym (stream_tree-opened s)) one, tt)
bare_snoc (first ∷ streams) s bare one = (bare.0, bare_snoc streams s bare.1 one)

-- the streams after the last node are bare
pub bare_after : (texts : List (List ℕ)) (h : History) (streams : List Stream) (nodes : List Node) (i : ℕ) →
    min (length streams) (length nodes) ≤ i → ForestRepresents texts (list_trees streams) nodes h →
    AllBare (list_trees (drop i streams))
bare_after texts h [] nodes zero past represents = tt
bare_after texts h [] nodes (suc i) past represents = tt
bare_after texts h (first ∷ streams) [] i past represents = bare_drop (first ∷ streams) i represents
bare_after texts h (first ∷ streams) (node ∷ nodes) zero past represents = absurd (omega (arith, past))
bare_after texts h (first ∷ streams) (node ∷ nodes) (suc i) past represents =
    bare_after texts h streams nodes i (omega (arith, past)) represents.1

-- ---- what is said and counted

module _ {G : Type 0} (streams : StreamTrees) (h : History) (x : Entry) (a b : List Output) (s : StepCount G) where
  pub bare_performs : AllBare streams → b ≡ a ++ outputs_at streams (h ▸ x)
      → Performs a s b s (plan_effects streams (h ▸ x))
  bare_performs bare said =
      let counts = all_count streams h x bare in record {
        outputs = said;
        forks = omega (arith, counts.0, counts.1);
        entries = omega (arith, counts.0);
        began = refl;
      }

  pub bare_part : IsPrefix a b → IsPrefix b (a ++ outputs_at streams (h ▸ x))
      → PerformsPart a s b s (plan_effects streams (h ▸ x))
  bare_part begins within = record {
    begins = begins;
    within = within;
    forks = omega arith;
    entries = omega arith;
    no_fewer_forks = omega arith;
    no_fewer_entries = omega arith;
    began = refl;
  }
