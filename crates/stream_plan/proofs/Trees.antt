-- The plain tree of a stream, one level at a time, and the lists of streams in it.
use Rattle.std.proofs.Common.{◌≡◌, ℕ, suc, ◌+◌, ◌<◌, ◌==◌, not, List, [], ◌∷◌, ◌++◌, length, drop, get_or, refl, ap}
use Rattle.std.proofs.Common.{◌∙◌, arith, add-one}
use Rattle.std.specs.declared.alloc.Global.{Global}
use Rattle.std.specs.declared.vec.Vec.{Vec}
use Rattle.std.proofs.Math.Seq.{drop-cons}
use Rattle.stream_plan.specs.declared.kinds.Flow.{Flow}
use Rattle.stream_plan.specs.declared.plan.Stream.{Stream, Row_of-Stream, end_of-Stream, more_of-Stream, out-Stream}
use Rattle.stream_plan.specs.declared.plan.Stream.{is-Stream', items-the_row-Stream, items_hidden-the_row-Stream-0}
use Rattle.stream_plan.specs.declared.plan.Stream.TheBlock.{hidden-the_row-Stream-0}
use Rattle.stream_plan.specs.Faults.{preorder_at, preorder_in, count_of, has_streams}
use Rattle.stream_plan.specs.Search.{opened}
use Rattle.stream_plan.specs.Tree.{stream, StreamTrees, also, kind_tree, stream_tree, stream_trees, list_trees}

-- a row of streams has the trees of its list
pub stream_trees-list : {m : _} (row : Row_of-Stream m) → stream_trees row ≡ list_trees (items-the_row-Stream m row)
stream_trees-list end_of-Stream = refl
stream_trees-list (more_of-Stream s streams) = ap (λ more. also (stream_tree s) more) (stream_trees-list streams)

pub stream_trees-hidden : (streams : Vec Stream Global)
    → stream_trees (hidden-the_row-Stream-0 streams) ≡ list_trees streams.items
stream_trees-hidden streams =
    stream_trees-list (hidden-the_row-Stream-0 streams) ∙ ap list_trees (items_hidden-the_row-Stream-0 streams)

pub stream_tree-opened : (s : Stream) → stream_tree s ≡ opened s
unfolding opened
stream_tree-opened s =
    ap stream_tree (is-Stream' s)
    ∙ ap
    (λ (children : StreamTrees).
    stream (kind_tree (out-Stream s).kind) children (stream_trees (hidden-the_row-Stream-0 (out-Stream s).otherwise)))
    (stream_trees-hidden (out-Stream s).children)
    ∙ ap
    (λ (otherwise : StreamTrees).
    stream (kind_tree (out-Stream s).kind) (list_trees (out-Stream s).children.items) otherwise)
    (stream_trees-hidden (out-Stream s).otherwise)

pub count_of-list_trees : (streams : List Stream) → count_of (list_trees streams) ≡ length streams
count_of-list_trees [] = refl
count_of-list_trees (s ∷ streams) = omega (arith, count_of-list_trees streams)

pub has_streams-list_trees : (streams : List Stream) → not (length streams == 0) ≡ has_streams (list_trees streams)
has_streams-list_trees [] = refl
has_streams-list_trees (s ∷ streams) = grind arith

-- the streams from place i on are the one there and those after it
pub preorder_in-drop : (path : List ℕ) (number : ℕ) (flow : Flow) (streams : List Stream) (i : ℕ) (s : Stream) →
    i < length streams →
    preorder_in path (number + i) flow (list_trees (drop i streams))
    ≡ preorder_at (path ++ (number + i) ∷ []) flow (opened (get_or streams i s))
    ++ preorder_in path (number + (i + 1)) flow (list_trees (drop (i + 1) streams))
unfolding preorder_in
preorder_in-drop path number flow streams i s within =
    let next : number + i + 1 ≡ number + suc i = omega arith in
    rw (drop-cons streams i s within, add-one i, stream_tree-opened (get_or streams i s), next) refl
