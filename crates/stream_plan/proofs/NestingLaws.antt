-- In a plan without faults forks end only where no `By` is above.
use Rattle.std.proofs.Common.{ℕ, ◌+◌, List, [], ◌∷◌, ◌++◌}
use Rattle.std.specs.List.{AllByRecursion}
use Rattle.stream_plan.specs.declared.kinds.Flow.{Flow}
use Rattle.stream_plan.specs.Faults.{preorder_at, preorder_in, count_of}
use Rattle.stream_plan.specs.Kinds.{passes_on, at_top}
use Rattle.stream_plan.specs.Nesting.{EndsOutermost, AllEndOutermost, SoundPlansEndOutermost}
use Rattle.stream_plan.specs.Sound.{IsEndlessInForks}
use Rattle.stream_plan.specs.Tree.{StreamTree, stream, StreamTrees, none, also}

split : {A : Type 0} (P : A → Type 0) (xs ys : List A) → AllByRecursion P (xs ++ ys)
    → AllByRecursion P xs × AllByRecursion P ys
split P [] ys all = (tt, all)
split P (x ∷ xs) ys all =
    let parts = split P xs ys all.1 in
    ((all.0, parts.0), parts.1)

mutual
  unfolding preorder_at preorder_in

  ends_at : (path : List ℕ) (flow : Flow) (s : StreamTree) → AllByRecursion IsEndlessInForks (preorder_at path flow s)
      → EndsOutermost flow.in_fork s
  ends_at path flow (stream kind children otherwise) all =
      let parts =
      split IsEndlessInForks (preorder_in path 0 (passes_on kind flow) children)
      (preorder_in path (count_of children) (passes_on kind flow) otherwise) all.1 in (
        all.0,
        ends_in path 0 (passes_on kind flow) children parts.0,
        ends_in path (count_of children) (passes_on kind flow) otherwise parts.1,
      )

  ends_in : (path : List ℕ) (number : ℕ) (flow : Flow) (streams : StreamTrees)
      → AllByRecursion IsEndlessInForks (preorder_in path number flow streams) → AllEndOutermost flow.in_fork streams
  ends_in path number flow none all = tt
  ends_in path number flow (also s streams) all =
      let parts =
      split IsEndlessInForks (preorder_at (path ++ number ∷ []) flow s) (preorder_in path (number + 1) flow streams)
      all in
      (ends_at (path ++ number ∷ []) flow s parts.0, ends_in path (number + 1) flow streams parts.1)

pub ends_outermost : SoundPlansEndOutermost
ends_outermost streams sound = ends_in [] 0 at_top streams sound.endless
