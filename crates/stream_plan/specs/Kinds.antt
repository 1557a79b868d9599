-- What a stream of a kind takes, what it passes on, which streams may follow it, and the ranges of its numbers.
use Rattle.std.specs.Prelude.{ℕ, Bool, true, false, ◌&&◌, ◌||◌, nat_le, Option, Some, None, is_some}
use Rattle.ev_types.specs.Set.{all_fit}
use Rattle.stream_plan.specs.declared.kinds.TheConstants.{MAX_COUNT, MAX_SECS}
use Rattle.stream_plan.specs.declared.kinds.Flow.{Flow}
use Rattle.stream_plan.specs.declared.kinds.Input.{Input}
use Rattle.stream_plan.specs.declared.kinds.Input.TheVariants.{Nothing, Event, Vector}
use Rattle.stream_plan.specs.Tree.{KindTree, Index, Notice, Sdo, Where, With, Default, By, Runs, Throttle, Rollup}
use Rattle.stream_plan.specs.Tree.{Batch, Stable, FixedEvent, MovingEvent, FixedTime, MovingTime, Coalesce, Smap}

-- ---- what is taken and what is passed on

-- a stream that takes either takes events and vectors
abbrev pub either : Input → Bool
either Nothing = false
either Event = true
either Vector = true

abbrev pub only_events : Input → Bool
only_events Nothing = false
only_events Event = true
only_events Vector = false

abbrev pub only_vectors : Input → Bool
only_vectors Nothing = false
only_vectors Event = false
only_vectors Vector = true

abbrev pub takes : KindTree → Input → Bool
takes (Notice name) = either
takes Sdo = either
takes (Smap fold) = only_vectors
takes _ = only_events

-- what a stream of the kind passes on of such items
abbrev pub input_below : KindTree → Input → Input
input_below Index input = Nothing
input_below (Notice name) input = Nothing
input_below Sdo input = input
input_below (Rollup count secs) input = Vector
input_below (Batch count secs) input = Vector
input_below (FixedEvent count) input = Vector
input_below (MovingEvent count) input = Vector
input_below (FixedTime secs) input = Vector
input_below (MovingTime secs) input = Vector
input_below (Coalesce secs) input = Vector
input_below _ input = Event

-- ---- forks

abbrev pub is_by : KindTree → Bool
is_by (By fields idle) = true
is_by _ = false

-- forks of the kind end
abbrev pub has_idle : KindTree → Bool
has_idle (By fields idle) = is_some idle
has_idle _ = false

-- what the streams that follow a stream of the kind are given: they are in forks if it is a `By` or in forks itself
abbrev pub passes_on : KindTree → Flow → Flow
passes_on kind flow = record { input = input_below kind flow.input; in_fork = is_by kind || flow.in_fork }

-- what the first streams of a plan are given
abbrev pub at_top : Flow
at_top = record { input = Event; in_fork = false }

-- ---- which streams may follow

abbrev pub may_have_children : KindTree → Bool
may_have_children Index = false
may_have_children (Notice name) = false
may_have_children _ = true

abbrev pub may_have_otherwise : KindTree → Bool
may_have_otherwise (Where rule) = true
may_have_otherwise _ = false

-- ---- ranges

abbrev pub is_count : ℕ → Bool
is_count count = nat_le 1 count && nat_le count MAX_COUNT

abbrev pub is_secs : ℕ → Bool
is_secs secs = nat_le 1 secs && nat_le secs MAX_SECS

abbrev pub is_idle : Option ℕ → Bool
is_idle None = true
is_idle (Some secs) = is_secs secs

-- the numbers and the sets of the kind are in their ranges
abbrev pub is_in_range : KindTree → Bool
is_in_range (With sets) = all_fit sets
is_in_range (Default sets) = all_fit sets
is_in_range (By fields idle) = is_idle idle
is_in_range (Runs count field) = is_count count
is_in_range (Throttle count secs) = is_count count && is_secs secs
is_in_range (Rollup count secs) = is_count count && is_secs secs
is_in_range (Batch count secs) = is_count count && is_secs secs
is_in_range (Stable secs field) = is_secs secs
is_in_range (FixedEvent count) = is_count count
is_in_range (MovingEvent count) = is_count count
is_in_range (FixedTime secs) = is_secs secs
is_in_range (MovingTime secs) = is_secs secs
is_in_range (Coalesce secs) = is_secs secs
is_in_range _ = true
