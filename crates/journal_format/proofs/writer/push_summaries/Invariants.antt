use Rattle.std.proofs.Common.{◌≡◌, ◌++◌, take}
use Rattle.std.specs.List.{flat_map}
use Rattle.journal_format.specs.Spelling.{summary_bytes}
use Rattle.journal_format.proofs.writer.push_summaries.Given as goal

abbrev pub invariant-loop-summary : goal.invariant-loop-summary
invariant-loop-summary l = l.out.items ≡ l.fn.out.items ++ flat_map summary_bytes (take l.summary-index l.summaries)
