-- The streams of a plan, one after another.
use Rattle.std.proofs.Common.{◌≡◌, ℕ, ◌+◌, ◌<◌, Bool, ◌&&◌, List, length, drop, get_or, refl, sym, ap, ◌∙◌, add-one}
use Rattle.std.proofs.Math.Seq.{drop-cons}
use Rattle.ev_types.specs.declared.field.Field.{Field}
use Rattle.stream_plan.specs.declared.plan.Stream.{Stream}
use Rattle.stream_plan.specs.Search.{opened}
use Rattle.stream_plan.specs.Tree.{StreamTree, StreamTrees, also, list_trees}
use Rattle.stream_plan.proofs.Trees.{stream_tree-opened}
use Rattle.stream_meaning.specs.Keys.{stream_keeps, plan_keeps}
use Rattle.key_laws.specs.Apart.{stream_apart, plan_apart}

-- a test of streams, which all streams of a plan have to meet
module _ (one : StreamTree → Bool) (all : StreamTrees → Bool)
    (each : (first : StreamTree) (more : StreamTrees) → all (also first more) ≡ one first && all more) where
  -- the streams from place i on are the one there and those after it
  all-drop : (streams : List Stream) (i : ℕ) (s : Stream) → i < length streams →
      all (list_trees (drop i streams)) ≡ one (opened (get_or streams i s)) && all (list_trees (drop (i + 1) streams))
  all-drop streams i s within =
      rw (drop-cons streams i s within, add-one i, stream_tree-opened (get_or streams i s)) (each _ _)

  one_met : (streams : List Stream) (i : ℕ) (s : Stream) (met : Bool) → i < length streams → s ≡ get_or streams i s →
      one (opened s) ≡ met →
      all (list_trees (drop i streams)) ≡ all (list_trees streams) →
      met && all (list_trees (drop (i + 1) streams)) ≡ all (list_trees streams)
  one_met streams i s met within is here so_far =
      let rest = all (list_trees (drop (i + 1) streams)) in
      ap (λ t. t && rest) (sym here) ∙ ap (λ (x : Stream). one (opened x) && rest) is
      ∙ sym (all-drop streams i s within) ∙ so_far

-- one stream that keeps the fields leaves the test to those after it, and one that does not decides it
pub one_kept : (fields : List Field) (streams : List Stream) (i : ℕ) (s : Stream) (kept : Bool) → i < length streams →
    s ≡ get_or streams i s → stream_keeps fields (opened s) ≡ kept →
    plan_keeps fields (list_trees (drop i streams)) ≡ plan_keeps fields (list_trees streams) →
    kept && plan_keeps fields (list_trees (drop (i + 1) streams)) ≡ plan_keeps fields (list_trees streams)
one_kept fields = one_met (stream_keeps fields) (plan_keeps fields) (λ first more. refl)

-- so does one in which keys are apart
pub one_apart : (fields : List Field) (streams : List Stream) (i : ℕ) (s : Stream) (apart : Bool) → i < length streams →
    s ≡ get_or streams i s → stream_apart fields (opened s) ≡ apart →
    plan_apart fields (list_trees (drop i streams)) ≡ plan_apart fields (list_trees streams) →
    apart && plan_apart fields (list_trees (drop (i + 1) streams)) ≡ plan_apart fields (list_trees streams)
one_apart fields = one_met (stream_apart fields) (plan_apart fields) (λ first more. refl)
