use Rattle.std.proofs.Common.{length}
use Rattle.std.specs.List.{flat_map}
use Rattle.std.specs.Int.{to_be_bytes, w16, w64}
use Rattle.journal_format.specs.Spelling.{event_bytes, summary_bytes}
use Rattle.journal_format.proofs.PartLaws.{front_end, if_err, not_added, two_cut}
use Rattle.journal_format.proofs.writer.push_turn.Goals as goal

pub returns-in_err-push_front-clause-ok : goal.returns-in_err-push_front-clause-ok
returns-in_err-push_front-clause-ok c = not_added _ c.from_residual.result _ c.from_residual.ensures.1

pub returns-in_err-push_front-clause-err : goal.returns-in_err-push_front-clause-err
returns-in_err-push_front-clause-err c = if_err c.from_residual.result _ c.in_err-push_front.ensures.err

pub returns-clause-ok : goal.returns-clause-ok
returns-clause-ok c =
    let summaries = c.args.summaries.now in
    front_end c.push_event.result c.args.out.now.items (to_be_bytes w16 (length summaries))
    (flat_map summary_bytes summaries) (to_be_bytes w64 c.args.secs) (event_bytes c.args.event.now)
    c.push_front.new.out.items c.push_event.new.out.items c.in_ok-push_front.ensures.ok c.push_event.ensures.ok

pub returns-clause-err : goal.returns-clause-err
returns-clause-err c = two_cut c.push_event.result _ _ _ _ c.in_ok-push_front.ensures.ok c.push_event.ensures.err
