-- An entry on its way along streams that are bare, of which the first ones have got it.
use Rattle.std.proofs.Common.{◌≡◌, ℕ, ◌+◌, ◌<◌, ◌≤◌, ◌^◌, List, [], ◌∷◌, ◌++◌, length, take, drop, get_or, refl, sym}
use Rattle.std.proofs.Common.{ap, ◌∙◌, subst}
use Rattle.std.proofs.lemmas.List.{append-nil, append_assoc, take_more, take_all}
use Rattle.ev_types.specs.declared.item.Output.{Output}
use Rattle.list_laws.specs.Prefix.{IsPrefix}
use Rattle.pred_eval.specs.Search.{AreReadFrom}
use Rattle.regex.specs.declared.string.regex.Regex.{Regex}
use Rattle.stream_plan.specs.declared.plan.Stream.{Stream, out-Stream}
use Rattle.stream_plan.specs.Search.{opened}
use Rattle.stream_plan.specs.Tree.{KindTree, kind_tree, list_trees}
use Rattle.stream_meaning.specs.declared.entry.Entry.{Entry}
use Rattle.stream_meaning.specs.declared.entry.Entry.TheVariants.{Tick}
use Rattle.stream_meaning.specs.History.{History, ◌▸◌, moment_of}
use Rattle.stream_meaning.specs.Laws.{own_outputs}
use Rattle.stream_meaning.specs.Outputs.{Effect, stream_effects, plan_effects, outputs_among, outputs_at}
use Rattle.stream_meaning.proofs.OutputLaws.{outputs_among-append}
use Rattle.stream_step.specs.declared.state.State.TheVariants.{Empty}
use Rattle.stream_step.specs.Step.{StateRepresents}
use Rattle.stream_tree.specs.Forest.{IsBare, AllBare}
use Rattle.stream_tree.specs.Running.{kind_of, ComesAt, BareRun, BareStop}
use Rattle.stream_tree.proofs.BareLaws.{bare_state, bare_says, all_quiet, bare_at, bare_snoc}
use Rattle.stream_tree.proofs.ForestLaws.{plan_effects-take, plan_effects-split}
use Rattle.stream_tree.proofs.PerformLaws.{extends_then}

-- ---- whether all are bare

pub bare_more : (streams : List Stream) (i : ℕ) (s : Stream) → i < length streams → s ≡ get_or streams i s
    → AllBare (list_trees (take i streams)) → IsBare (opened s) → AllBare (list_trees (take (i + 1) streams))
bare_more streams i s within is bare one =
    subst (λ (l : List Stream). AllBare (list_trees l))
    (ap (λ (t : Stream). take i streams ++ t ∷ []) is ∙ sym (take_more streams i s within))
    (bare_snoc (take i streams) s bare one)

pub bare_all : (streams : List Stream) (i : ℕ) → length streams ≤ i → AllBare (list_trees (take i streams))
    → AllBare (list_trees streams)
bare_all streams i past bare = subst (λ (l : List Stream). AllBare (list_trees l)) (take_all i streams past) bare

-- ---- a tick

pub bare_ticked : (patterns : List Regex) (start moment : ℕ) (x : Entry) (a : List Output) (streams : List Stream) →
    x ≡ Tick → BareRun patterns start moment a a x (list_trees streams)
bare_ticked patterns start moment x a streams tick texts h from bare comes =
    sym (ap (λ (y : Entry). a ++ outputs_at (list_trees streams) (h ▸ y)) tick
    ∙ ap (λ (hs : List Effect). a ++ outputs_among hs) (all_quiet (list_trees streams) h bare)
    ∙ append-nil a)

-- ---- the loop

own_kind : (s : Stream) → kind_of (opened s) ≡ kind_tree (out-Stream s).kind
unfolding opened
own_kind s = refl

module _ (patterns : List Regex) (start moment : ℕ) (x : Entry) (a : List Output) (streams : List Stream) where
  -- the first i streams have got the entry
  abbrev pub BareRan : ℕ → List Output → Type 0
  BareRan i b = (texts : List (List ℕ)) (h : History) → AreReadFrom texts patterns → AllBare (list_trees streams) →
      ComesAt start moment h x → b ≡ a ++ outputs_at (list_trees (take i streams)) (h ▸ x)

  pub bare_begins : BareRan 0 a
  bare_begins texts h from bare comes = sym (append-nil a)

  -- what the next stream says
  said_here : (i : ℕ) (s : Stream) (h : History) → i < length streams → s ≡ get_or streams i s →
      AllBare (list_trees streams) →
      outputs_among (stream_effects (opened (get_or streams i s)) (h ▸ x))
      ≡ own_outputs (kind_tree (out-Stream s).kind) (h ▸ x)
  said_here i s h within is bare =
      bare_says (opened (get_or streams i s)) h x (bare_at streams i s within bare)
      ∙ ap (λ (t : Stream). own_outputs (kind_of (opened t)) (h ▸ x)) (sym is)
      ∙ ap (λ (kind : KindTree). own_outputs kind (h ▸ x)) (own_kind s)

  state_here : (i : ℕ) (s : Stream) (texts : List (List ℕ)) (h : History) → i < length streams →
      s ≡ get_or streams i s → AllBare (list_trees streams) →
      StateRepresents texts (kind_tree (out-Stream s).kind) Empty h
  state_here i s texts h within is bare =
      subst (λ (kind : KindTree). StateRepresents texts kind Empty h) (own_kind s)
      (bare_state texts (opened s) h
      (subst (λ (t : Stream). IsBare (opened t)) (sym is) (bare_at streams i s within bare)))

  pub bare_says_more : (i : ℕ) (b c : List Output) (s : Stream) → i < length streams → s ≡ get_or streams i s →
      BareRan i b →
      ((texts : List (List ℕ)) (h : History) → AreReadFrom texts patterns →
      StateRepresents texts (kind_tree (out-Stream s).kind) Empty h → moment_of (h ▸ x) ≡ moment → moment ≤ 2 ^ 40 →
      c ≡ b ++ own_outputs (kind_tree (out-Stream s).kind) (h ▸ x)) →
      BareRan (i + 1) c
  bare_says_more i b c s within is so_far says texts h from bare comes =
      let front = plan_effects (list_trees (take i streams)) (h ▸ x) in
      let here = stream_effects (opened (get_or streams i s)) (h ▸ x) in
      says texts h from (state_here i s texts h within is bare) comes.comes comes.small
      ∙ ap (λ (l : List Output). l ++ own_outputs (kind_tree (out-Stream s).kind) (h ▸ x))
      (so_far texts h from bare comes)
      ∙ append_assoc a (outputs_among front) (own_outputs (kind_tree (out-Stream s).kind) (h ▸ x))
      ∙ ap (λ (l : List Output). a ++ (outputs_among front ++ l)) (sym (said_here i s h within is bare))
      ∙ ap (λ (l : List Output). a ++ l) (sym (outputs_among-append front here))
      ∙ ap (λ (hs : List Effect). a ++ outputs_among hs) (sym (plan_effects-take streams i s (h ▸ x) within))

  pub bare_stops : (i : ℕ) (b c : List Output) (s : Stream) → i < length streams → s ≡ get_or streams i s →
      BareRan i b →
      ((h : History) → moment_of (h ▸ x) ≡ moment →
      IsPrefix c (b ++ own_outputs (kind_tree (out-Stream s).kind) (h ▸ x))) →
      BareStop patterns start moment a c x (list_trees streams)
  bare_stops i b c s within is so_far stops texts h from bare comes =
      let front = plan_effects (list_trees (take i streams)) (h ▸ x) in
      let here = stream_effects (opened (get_or streams i s)) (h ▸ x) in
      let rest = plan_effects (list_trees (drop (i + 1) streams)) (h ▸ x) in
      let own = own_outputs (kind_tree (out-Stream s).kind) (h ▸ x) in
      let ends : b ++ own ≡ a ++ outputs_among (front ++ here) =
      ap (λ (l : List Output). l ++ own) (so_far texts h from bare comes)
      ∙ append_assoc a (outputs_among front) own
      ∙ ap (λ (l : List Output). a ++ (outputs_among front ++ l)) (sym (said_here i s h within is bare))
      ∙ ap (λ (l : List Output). a ++ l) (sym (outputs_among-append front here)) in
      let all : a ++ outputs_at (list_trees streams) (h ▸ x) ≡ (b ++ own) ++ outputs_among rest =
      ap (λ (hs : List Effect). a ++ outputs_among hs) (plan_effects-split streams i s (h ▸ x) within)
      ∙ ap (λ (l : List Output). a ++ l) (outputs_among-append (front ++ here) rest)
      ∙ sym (append_assoc a (outputs_among (front ++ here)) (outputs_among rest))
      ∙ ap (λ (l : List Output). l ++ outputs_among rest) (sym ends) in
      extends_then c (b ++ own) (a ++ outputs_at (list_trees streams) (h ▸ x)) (stops h comes.comes)
      (outputs_among rest, all)

  pub bare_ends : (i : ℕ) (b : List Output) → length streams ≤ i → BareRan i b →
      BareRun patterns start moment a b x (list_trees streams)
  bare_ends i b past so_far texts h from bare comes =
      so_far texts h from bare comes
      ∙ ap (λ (l : List Stream). a ++ outputs_at (list_trees l) (h ▸ x)) (take_all i streams past)
