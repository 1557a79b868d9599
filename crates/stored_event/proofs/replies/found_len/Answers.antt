use Rattle.std.proofs.Common.{◌^◌, sym}
use Rattle.stored_event.proofs.ReplyLengths.{empty_len, measured_on, on_err, one_too_long, sum_too_long}
use Rattle.stored_event.proofs.replies.found_len.Goals as goal

pub loop-event-init : goal.loop-event-init
loop-event-init g c = sym empty_len

pub loop-event-preserved : goal.loop-event-preserved
loop-event-preserved g c =
    measured_on c.args.events.now c.loop-event.event-index c.event-item.result c.loop-event.len
    c.in_ok-reply_len.field-0 c.in_ok-len.len c.loop-event-test.true c.event-item.is c.loop-event.invariant
    c.in_ok-reply_len.ensures.ok c.in_ok-len.ensures.ok

pub returns-in_err-reply_len-clause-err : goal.returns-in_err-reply_len-clause-err
returns-in_err-reply_len-clause-err g c =
    on_err c.from_residual.result
    (one_too_long c.args.events.now c.loop-event.event-index c.event-item.result (2 ^ 64) c.loop-event-test.true
    c.event-item.is c.in_err-reply_len.ensures.err)

pub returns-in_err-len-clause-err : goal.returns-in_err-len-clause-err
returns-in_err-len-clause-err g c =
    on_err c.from_residual-in_err-len.result
    (sum_too_long c.args.events.now c.loop-event.event-index c.event-item.result (2 ^ 64) c.loop-event.len
    c.in_ok-reply_len.field-0 c.loop-event-test.true c.event-item.is c.loop-event.invariant
    c.in_ok-reply_len.ensures.ok c.in_err-len.ensures.err)
