use Rattle.std.proofs.Common.{◌≡◌, ◌+◌, ◌-◌, ◌≤◌, List, ◌++◌, replicate}
use Rattle.stream_meaning.specs.Arrivals.{Arrival, Elapsed}
use Rattle.event_core.specs.Core.{config_of, now_of}
use Rattle.stream_tests.specs.Playing.{Played}
use Rattle.stream_tests.proofs.play.pass.Given as goal

abbrev pub invariant-seconds : goal.invariant-seconds
invariant-seconds g l = record {
  config : config_of l.core ≡ config_of l.fn.core;
  fewer : l.left ≤ l.count;
  now : now_of l.core + l.left ≡ now_of l.fn.core + l.count;
  played : (arrivals : List Arrival) → Played l.fn.core arrivals l.fn.notices
      → Played l.core (arrivals ++ replicate (l.count - l.left) Elapsed) l.notices;
}

abbrev pub decreases-seconds : goal.decreases-seconds
decreases-seconds g l = l.left
