use Rattle.std.proofs.Common.{◌≡◌, ◌++◌}
use Rattle.index_log.specs.Live.{IndexLog}
use Rattle.live_index.specs.Index.{Represents}
use Rattle.stream_meaning.specs.Arrivals.{notices_among, writes_among}
use Rattle.event_core.proofs.outputs.handle_each.Given as goal

abbrev pub invariant-loop-output : goal.invariant-loop-output
invariant-loop-output l =
    ((log : IndexLog) → Represents l.fn.index log → Represents l.index (log ++ writes_among l.yielded))
    × (l.out ≡ l.fn.out ++ notices_among l.yielded)
