use Rattle.std.proofs.Common.{◌≡◌, ◌-◌}
use Rattle.journal_format.specs.Reading.{summaries_at}
use Rattle.journal_format.proofs.LoopLaws.{with_front}
use Rattle.journal_format.proofs.reader.summaries_at.Given as goal

abbrev pub invariant-loop : goal.invariant-loop
invariant-loop l = with_front l.summaries (summaries_at (l.count - l.counter) l.rest) ≡ summaries_at l.count l.bytes
