use Rattle.std.proofs.Common.{length, rules}
use Rattle.std.specs.List.{flat_map}
use Rattle.std.specs.Int.{w16, w64, to_be_bytes}
use Rattle.journal_format.specs.Spelling.{summary_bytes}
use Rattle.journal_format.proofs.PartLaws.{if_err, not_added, prefix_more, three_cut, three_end}
use Rattle.journal_format.proofs.writer.push_front.Goals as goal

pub returns-in_err-push_bytes-clause-ok : goal.returns-in_err-push_bytes-clause-ok
returns-in_err-push_bytes-clause-ok c = not_added _ c.from_residual.result _ c.from_residual.ensures.1

pub returns-in_err-push_bytes-clause-err : goal.returns-in_err-push_bytes-clause-err
returns-in_err-push_bytes-clause-err c = if_err c.from_residual.result _ c.in_err-push_bytes.ensures.err

pub returns-in_err-push_summaries-clause-ok : goal.returns-in_err-push_summaries-clause-ok
returns-in_err-push_summaries-clause-ok c =
    not_added _ c.from_residual-in_err-push_summaries.result _ c.from_residual-in_err-push_summaries.ensures.1

pub returns-in_err-push_summaries-clause-err : goal.returns-in_err-push_summaries-clause-err
returns-in_err-push_summaries-clause-err c =
    if_err c.from_residual-in_err-push_summaries.result _
    (prefix_more _ _ _ _ c.in_ok-push_bytes.ensures.ok c.in_err-push_summaries.ensures.err)

pub returns-clause-ok : goal.returns-clause-ok
returns-clause-ok c =
    let summaries = c.args.summaries.now in
    three_end c.push_bytes-2.result c.args.out.now.items (to_be_bytes w16 (length summaries))
    (flat_map summary_bytes summaries) (to_be_bytes w64 c.args.secs) c.push_bytes.new.out.items
    c.push_summaries.new.out.items c.push_bytes-2.new.out.items (search rules) c.in_ok-push_summaries.ensures.ok
    (rw c.to_be_bytes-2.ensures at c.push_bytes-2.ensures.ok)

pub returns-clause-err : goal.returns-clause-err
returns-clause-err c =
    three_cut c.push_bytes-2.result _ _ _ _ _ _ c.in_ok-push_bytes.ensures.ok c.in_ok-push_summaries.ensures.ok
    c.push_bytes-2.ensures.err
