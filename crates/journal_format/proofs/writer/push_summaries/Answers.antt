use Rattle.std.proofs.Common.{take}
use Rattle.std.specs.List.{flat_map}
use Rattle.list_laws.specs.Prefix.{IsPrefix}
use Rattle.journal_format.specs.Spelling.{summary_bytes}
use Rattle.journal_format.proofs.PartLaws.{if_err, prefix_more}
use Rattle.journal_format.proofs.writer.push_summaries.Goals as goal

pub returns-in_err-push_summary-clause-err : goal.returns-in_err-push_summary-clause-err
returns-in_err-push_summary-clause-err c =
    let out = c.args.out.now.items in
    let whole = c.push_summary.new.out.items in
    if_err c.from_residual.result (IsPrefix out whole)
    (prefix_more out c.loop-summary.out.items whole
    (flat_map summary_bytes (take c.loop-summary.summary-index c.args.summaries.now))
    c.loop-summary.invariant c.in_err-push_summary.ensures.err)
