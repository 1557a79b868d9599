use Rattle.std.proofs.Common.{◌+◌, List, ◌++◌, drop, ap, sym, ◌∙◌, append_assoc, arith}
use Rattle.stream_meaning.specs.Arrivals.{Arrival}
use Rattle.stream_tests.specs.Verdicts.{arrivals_by, arrivals_in}
use Rattle.stream_tests.proofs.PlayLaws.{entry_at, arrivals_at, seconds_at}
use Rattle.stream_tests.proofs.play.play.Goals as goal

pub loop-entry-preserved : goal.loop-entry-preserved
loop-entry-preserved g c =
    let at =
    entry_at c.args.entries.now c.loop-entry.entry-index c.entry-item.result c.loop-entry-test.true c.entry-item.is in
    let before = c.loop-entry.invariant.2.0 in (
      c.in_ok-play_entry.ensures.config ∙ c.loop-entry.invariant.0,
      omega (
        arith,
        seconds_at c.args.entries.now c.loop-entry.entry-index c.entry-item.result at,
        c.in_ok-play_entry.ensures.now,
        c.loop-entry.invariant.1,
      ),
      (
        before ++ arrivals_by c.entry-item.result,
        c.in_ok-play_entry.ensures.played before c.loop-entry.invariant.2.1,
        append_assoc before (arrivals_by c.entry-item.result)
            (arrivals_in (drop (c.loop-entry.entry-index + 1) c.args.entries.now))
            ∙ ap (λ (later : List Arrival). before ++ later)
            (sym (arrivals_at c.args.entries.now c.loop-entry.entry-index c.entry-item.result at))
            ∙ c.loop-entry.invariant.2.2,
      ),
    )
