-- Where a path leads.
use Rattle.std.specs.Prelude.{◌≡◌, ℕ, List, [], ◌∷◌, ◌++◌, Option, Some, None, slice_get}
use Rattle.std.specs.List.{AllByRecursion}
use Rattle.std.specs.Option.{option_and_then}
use Rattle.stream_plan.specs.Faults.{Placed, preorder_of}
use Rattle.stream_plan.specs.Tree.{StreamTree, stream, StreamTrees, none, also}

abbrev pub listed : StreamTrees → List StreamTree
listed none = []
listed (also s streams) = s ∷ listed streams

-- the streams that follow a stream: its children, and after them the others
abbrev pub following : StreamTree → List StreamTree
following (stream kind children otherwise) = listed children ++ listed otherwise

-- the stream to which the numbers lead, from this one down
abbrev pub stream_below : StreamTree → List ℕ → Option StreamTree
stream_below s [] = Some s
stream_below s (number ∷ path) = option_and_then (λ next. stream_below next path) (slice_get (following s) number)

-- from the top down
abbrev pub stream_at : StreamTrees → List ℕ → Option StreamTree
stream_at streams [] = None
stream_at streams (number ∷ path) = option_and_then (λ s. stream_below s path) (slice_get (listed streams) number)

abbrev pub IsStreamAt : StreamTrees → Placed → Type 0
IsStreamAt streams s = stream_at streams s.path ≡ Some s.tree

-- the path of each stream leads to it
abbrev pub PathsLeadToStreams : Type 0
PathsLeadToStreams = (streams : StreamTrees) → AllByRecursion (IsStreamAt streams) (preorder_of streams)
