-- Streams without a regular expression.
use Rattle.std.proofs.Common.{◌≡◌, ℕ, zero, suc, ◌<◌, List, [], ◌∷◌, ◌++◌, length, get_or, refl, sym, ap, ◌∙◌, arith}
use Rattle.pred_eval.specs.Truth.{searches}
use Rattle.pred_eval.specs.Tree.{Tree as RuleTree}
use Rattle.stream_plan.specs.declared.plan.Stream.{Stream, out-Stream}
use Rattle.stream_plan.specs.Ready.{kind_patterns, stream_patterns, plan_patterns}
use Rattle.stream_plan.specs.Search.{opened}
use Rattle.stream_plan.specs.Tree.{Where, kind_tree, stream_tree, list_trees}
use Rattle.stream_plan.proofs.Trees.{stream_tree-opened}

first_empty : (a b : List (List ℕ)) → a ++ b ≡ [] → a ≡ []
first_empty [] b empty = refl
first_empty (x ∷ a) b empty = cc

second_empty : (a b : List (List ℕ)) → a ++ b ≡ [] → b ≡ []
second_empty [] b empty = empty
second_empty (x ∷ a) b empty = cc

-- if the streams have none, the stream at each place has none
pub none_at : (streams : List Stream) (i : ℕ) (s other : Stream) → i < length streams →
    s ≡ get_or streams i other → plan_patterns (list_trees streams) ≡ [] → stream_patterns (opened s) ≡ []
unfolding plan_patterns
none_at [] i s other within is none = absurd (omega (arith, within))
none_at (first ∷ streams) zero s other within is none =
    ap (λ (r : Stream). stream_patterns (opened r)) is
    ∙ ap stream_patterns (sym (stream_tree-opened first))
    ∙ first_empty (stream_patterns (stream_tree first)) (plan_patterns (list_trees streams)) none
none_at (first ∷ streams) (suc i) s other within is none =
    none_at streams i s other (omega (arith, within)) is
    (second_empty (stream_patterns (stream_tree first)) (plan_patterns (list_trees streams)) none)

-- if a stream and those below it have none, neither its rule nor its branches have one
module _ (s : Stream) (none : stream_patterns (opened s) ≡ []) where
  abbrev own : List (List ℕ)
  own = kind_patterns (kind_tree (out-Stream s).kind)

  abbrev children : List (List ℕ)
  children = plan_patterns (list_trees (out-Stream s).children.items)

  abbrev otherwise : List (List ℕ)
  otherwise = plan_patterns (list_trees (out-Stream s).otherwise.items)

  parts : own ++ (children ++ otherwise) ≡ []
  unfolding opened stream_patterns
  parts = none

  pub none_in_rule : (rule : RuleTree) → kind_tree (out-Stream s).kind ≡ Where rule → searches rule ≡ []
  none_in_rule rule is = ap kind_patterns (sym is) ∙ first_empty own (children ++ otherwise) parts

  pub none_in_children : (streams : List Stream) → streams ≡ (out-Stream s).children.items →
      plan_patterns (list_trees streams) ≡ []
  none_in_children streams is =
      ap (λ (l : List Stream). plan_patterns (list_trees l)) is
      ∙ first_empty children otherwise (second_empty own (children ++ otherwise) parts)

  pub none_in_otherwise : (streams : List Stream) → streams ≡ (out-Stream s).otherwise.items →
      plan_patterns (list_trees streams) ≡ []
  none_in_otherwise streams is =
      ap (λ (l : List Stream). plan_patterns (list_trees l)) is
      ∙ second_empty children otherwise (second_empty own (children ++ otherwise) parts)
