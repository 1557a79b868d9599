-- How far a search for a fault has come.
use Rattle.std.specs.Prelude.{◌≡◌, Bool, true, false, ℕ, List, [], ◌++◌, Option, Some, slice_get}
use Rattle.std.specs.List.{filter}
use Rattle.std.specs.Option.{option_map}
use Rattle.stream_plan.specs.declared.plan.Stream.{Stream, out-Stream}
use Rattle.stream_plan.specs.declared.search.Search.{Search}
use Rattle.stream_plan.specs.Faults.{Placed, counts}
use Rattle.stream_plan.specs.Tree.{StreamTree, stream, kind_tree, list_trees}

-- the tree of a stream, whose first level is open
unfoldable pub opened : Stream → StreamTree
opened s =
    stream (kind_tree (out-Stream s).kind) (list_trees (out-Stream s).children.items)
    (list_trees (out-Stream s).otherwise.items)

-- where a search ends that has these streams before it
abbrev pub ends_at : Search → List Placed → Option (List ℕ)
ends_at search streams = option_map (λ s. s.path) (slice_get (filter (counts search.why) streams) search.allowed)

-- a search that had some streams before it has the others now, and ends where it would have ended
pub record Passes (old new : Search) (streams left : List Placed) : Type 0 where
  pub path : new.path.items ≡ old.path.items
  pub why : new.why ≡ old.why
  pub ends_at : (later : List Placed) → ends_at old (streams ++ later) ≡ ends_at new (left ++ later)

-- a search has ended among the streams, or has passed them all
abbrev pub Searches : Bool → Search → Search → List Placed → Type 0
Searches true old new streams = (later : List Placed) → ends_at old (streams ++ later) ≡ Some new.path.items
Searches false old new streams = Passes old new streams []
