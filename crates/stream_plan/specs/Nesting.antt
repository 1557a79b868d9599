-- Where in a plan forks may end.
use Rattle.std.specs.Prelude.{◌≡◌, Bool, false, ◌&&◌, ◌||◌}
use Rattle.stream_plan.specs.Kinds.{is_by, has_idle}
use Rattle.stream_plan.specs.Sound.{IsSound}
use Rattle.stream_plan.specs.Tree.{StreamTree, stream, StreamTrees, none, also}

-- Of a stream and those below it, forks end only where no `By` is above. The truth value says that the stream itself is
-- below a `By`.
abbrev mutual
  pub EndsOutermost : Bool → StreamTree → Type 0
  EndsOutermost in_fork (stream kind children otherwise) =
      ((has_idle kind && in_fork) ≡ false)
      × AllEndOutermost (is_by kind || in_fork) children
      × AllEndOutermost (is_by kind || in_fork) otherwise

  pub AllEndOutermost : Bool → StreamTrees → Type 0
  AllEndOutermost in_fork none = Unit {0}
  AllEndOutermost in_fork (also s streams) = EndsOutermost in_fork s × AllEndOutermost in_fork streams

-- in a plan without faults, below a `By` each `By` is without `idle`
abbrev pub SoundPlansEndOutermost : Type 0
SoundPlansEndOutermost = (streams : StreamTrees) → IsSound streams → AllEndOutermost false streams
