-- When a stream passes something on next if only ticks follow.
use Rattle.std.specs.Prelude.{ℕ, suc, true, false, ◌&&◌, ◌+◌, ◌*◌, ◌%◌, min, Bool, not, ◌==◌, nat_le, nat_lt}
use Rattle.std.specs.Prelude.{if◌then◌else◌, List, [], ◌∷◌, map, length, Option, Some, None}
use Rattle.stream_plan.specs.Tree.{KindTree, By, Rollup, Batch, Stable, Coalesce, StreamTree, StreamTrees, stream, none}
use Rattle.stream_plan.specs.Tree.{also}
use Rattle.ev_types.specs.declared.event.Event.{Event}
use Rattle.stream_meaning.specs.History.{History, begun, moment_of, window_of}
use Rattle.stream_meaning.specs.Came.{timed_events}
use Rattle.stream_meaning.specs.Ends.{end_of}
use Rattle.stream_meaning.specs.Runs.{run, run_began}
use Rattle.stream_meaning.specs.Rates.{events_now, rolls_into}
use Rattle.stream_meaning.specs.Coalesce.{coalesced}
use Rattle.stream_meaning.specs.Emission.{Branch, Children, Otherwise, Fork}
use Rattle.stream_meaning.specs.Branches.{child_history, branches}

abbrev pub some_if : Bool → ℕ → Option ℕ
some_if test moment = if test then Some moment else None

-- the first tick of the next window
abbrev pub next_window : ℕ → History → ℕ
next_window secs h = begun h + (window_of secs h + 1) * secs

abbrev pub is_there : List Event → Bool
is_there [] = false
is_there (event ∷ es) = true

-- the least moment after the last entry at which a stream of this kind passes something on if only ticks follow
abbrev pub next_deadline : KindTree → History → Option ℕ
next_deadline (Rollup n secs) h = some_if (rolls_into n secs (suc (window_of secs h)) h) (next_window secs h)
next_deadline (Batch n secs) h = some_if (not (length (events_now secs h) % n == 0)) (next_window secs h)
next_deadline (Stable secs field) h =
    some_if (is_there (run field h) && nat_lt (moment_of h) (run_began field h + secs)) (run_began field h + secs)
next_deadline (Coalesce secs) h =
    some_if (is_there (coalesced secs (next_window secs h) (timed_events h))) (next_window secs h)
next_deadline kind h = None

-- the lesser of two moments that may be absent
abbrev pub earlier : Option ℕ → Option ℕ → Option ℕ
earlier None b = b
earlier (Some a) None = Some a
earlier (Some a) (Some b) = Some (min a b)

abbrev pub earliest : List (Option ℕ) → Option ℕ
earliest [] = None
earliest (first ∷ more) = earlier first (earliest more)

abbrev pub deadline_of : (History → Option ℕ) → (History → Option ℕ) → Branch → History → Option ℕ
deadline_of children otherwise Children = children
deadline_of children otherwise Otherwise = otherwise
deadline_of children otherwise (Fork fork) = children

-- the moment at which a branch ends if no more items come to it: that at which the key of a fork does
abbrev pub branch_end : KindTree → Branch → History → Option ℕ
branch_end (By fields idle) (Fork fork) h = end_of idle fields fork.key h
branch_end kind branch h = None

-- a deadline that is not after this end, where there is one
abbrev pub until : Option ℕ → Option ℕ → Option ℕ
until None deadline = deadline
until (Some end) None = None
until (Some end) (Some deadline) = if nat_le deadline end then Some deadline else None

-- the least deadline of a stream and of all below it, of each fork up to its end
abbrev mutual
  pub stream_deadline : StreamTree → History → Option ℕ
  stream_deadline (stream kind children otherwise) h =
      earlier (next_deadline kind h)
      (earliest
      (map
      (λ branch. until (branch_end kind branch h)
      (deadline_of (plan_deadline children) (plan_deadline otherwise) branch (child_history kind branch h)))
      (branches kind h)))

  pub plan_deadline : StreamTrees → History → Option ℕ
  plan_deadline none h = None
  plan_deadline (also first more) h = earlier (stream_deadline first h) (plan_deadline more h)
