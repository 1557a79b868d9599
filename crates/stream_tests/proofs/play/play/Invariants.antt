use Rattle.std.proofs.Common.{◌≡◌, ◌+◌, List, ◌++◌, drop}
use Rattle.stream_meaning.specs.Arrivals.{Arrival}
use Rattle.event_core.specs.Core.{config_of, now_of}
use Rattle.config_tests.specs.Events.{seconds_in}
use Rattle.stream_tests.specs.Playing.{Played}
use Rattle.stream_tests.specs.Verdicts.{arrivals_in}
use Rattle.stream_tests.proofs.play.play.Given as goal

abbrev pub invariant-loop-entry : goal.invariant-loop-entry
invariant-loop-entry g l =
    (config_of l.core ≡ record { plan = l.fn.plan; expiry = l.fn.expiry; start = 0 })
    × (now_of l.core + seconds_in (drop l.entry-index l.entries) ≡ seconds_in l.entries)
    × ((arrivals : List Arrival) × Played l.core arrivals l.notices
    × (arrivals ++ arrivals_in (drop l.entry-index l.entries) ≡ arrivals_in l.entries))
