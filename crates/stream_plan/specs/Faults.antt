-- The faults of a plan, each with the path of the stream that has it.
use Rattle.std.specs.Prelude.{◌≡◌, ℕ, ◌+◌, Bool, true, false, not, ◌&&◌, ◌||◌, nat_lt, List, [], ◌∷◌, ◌++◌, length}
use Rattle.std.specs.Prelude.{Option, Some, slice_get}
use Rattle.std.specs.List.{filter}
use Rattle.std.specs.Option.{option_map, option_or}
use Rattle.stream_plan.specs.declared.fault.PlanFault.{PlanFault}
use Rattle.stream_plan.specs.declared.fault.PlanFault.TheVariants.{Refused, Memory}
use Rattle.stream_plan.specs.declared.fault.PlanWhy.{PlanWhy}
use Rattle.stream_plan.specs.declared.fault.PlanWhy.TheVariants.{Many, Deep, Children, Range, Kind}
use Rattle.stream_plan.specs.declared.search.TheConstants.{MAX_STREAMS, MAX_DEPTH}
use Rattle.stream_plan.specs.declared.kinds.Flow.{Flow}
use Rattle.stream_plan.specs.Kinds.{takes, passes_on, at_top, has_idle, may_have_children, may_have_otherwise}
use Rattle.stream_plan.specs.Kinds.{is_in_range}
use Rattle.stream_plan.specs.Tree.{KindTree, StreamTree, stream, StreamTrees, none, also}

-- ---- the streams of a plan

-- a stream with its path, which are the child numbers from the top down to it, and with what its parent passes on and
-- whether it is in forks
pub record Placed : Type 0 where
  pub path : List ℕ
  pub flow : Flow
  pub tree : StreamTree

abbrev pub kind_of : StreamTree → KindTree
kind_of (stream kind children otherwise) = kind

abbrev pub count_of : StreamTrees → ℕ
count_of none = 0
count_of (also s streams) = count_of streams + 1

-- Each stream before those below it, its children before the other streams that follow it. Children are numbered from
-- 0, and the others go on from there.
unfoldable mutual
  pub preorder_at : List ℕ → Flow → StreamTree → List Placed
  preorder_at path flow (stream kind children otherwise) =
      record { path = path; flow = flow; tree = stream kind children otherwise }
      ∷ (preorder_in path 0 (passes_on kind flow) children
      ++ preorder_in path (count_of children) (passes_on kind flow) otherwise)

  pub preorder_in : List ℕ → ℕ → Flow → StreamTrees → List Placed
  preorder_in path number flow none = []
  preorder_in path number flow (also s streams) =
      preorder_at (path ++ number ∷ []) flow s ++ preorder_in path (number + 1) flow streams

-- all streams of a plan, whose first ones get the events
abbrev pub preorder_of : StreamTrees → List Placed
preorder_of = preorder_in [] 0 at_top

-- ---- the five faults

abbrev pub has_streams : StreamTrees → Bool
has_streams none = false
has_streams (also s streams) = true

abbrev pub has_wrong_streams : StreamTree → Bool
has_wrong_streams (stream kind children otherwise) =
    (not (may_have_children kind) && has_streams children) || (not (may_have_otherwise kind) && has_streams otherwise)

-- the forks of a stream end that is itself in forks
abbrev pub ends_in_fork : Placed → Bool
ends_in_fork s = has_idle (kind_of s.tree) && s.flow.in_fork

-- a stream counts against a cause
abbrev pub counts : PlanWhy → Placed → Bool
counts Many s = true
counts Deep s = nat_lt MAX_DEPTH (length s.path)
counts Children s = has_wrong_streams s.tree
counts Range s = not (is_in_range (kind_of s.tree)) || ends_in_fork s
counts Kind s = not (takes (kind_of s.tree) s.flow.input)

-- how many streams that count against the cause a plan may have
abbrev pub allowed : PlanWhy → ℕ
allowed Many = MAX_STREAMS
allowed Deep = 0
allowed Children = 0
allowed Range = 0
allowed Kind = 0

pub record Fault : Type 0 where
  pub path : List ℕ
  pub why : PlanWhy

-- for a cause, the first stream that is one too many
abbrev pub place_of : PlanWhy → List Placed → Option Placed
place_of why streams = slice_get (filter (counts why) streams) (allowed why)

abbrev pub fault_for : PlanWhy → List Placed → Option Fault
fault_for why streams = option_map (λ s. record { path = s.path; why = why }) (place_of why streams)

-- the first cause, in this order, that is anywhere in the plan
abbrev pub first_among : List Placed → Option Fault
first_among streams =
    option_or (fault_for Many streams)
    (option_or (fault_for Deep streams)
    (option_or (fault_for Children streams)
    (option_or (fault_for Range streams)
    (fault_for Kind streams))))

unfoldable pub first_fault : StreamTrees → Option Fault
first_fault streams = first_among (preorder_of streams)

-- a refusal is for this fault; it may be out of memory at any time
abbrev pub IsRefusedFor : Option Fault → PlanFault → Type 0
IsRefusedFor fault (Refused path why) = fault ≡ Some (record { path = path; why = why })
IsRefusedFor fault Memory = Unit {0}
