use Rattle.std.proofs.Common.{subst}
use Rattle.riemann_msg.specs.Fault.{IsRefusedFor, first_fault}
use Rattle.riemann_client.proofs.AcceptLaws.{accepts_message, accepts_refused, accepts_unasked}
use Rattle.riemann_client.proofs.replies.accept.Goals as goal

pub returns-then-not-answer_next-clause-accepts : goal.returns-then-not-answer_next-clause-accepts
returns-then-not-answer_next-clause-accepts c =
    accepts_unasked c.args.now c.args.body.now c.args.requests.now c.answer_next.new.self c.args.replies.now
    c.answer_next.result c.len-number.result
    c.if-not-answer_next.true c.len-number.ensures c.answer_next.ensures.answers

pub returns-in_ok-push-in-Ok-clause-accepts : goal.returns-in_ok-push-in-Ok-clause-accepts
returns-in_ok-push-in-Ok-clause-accepts c =
    accepts_message c.args.now c.args.body.now c.args.requests.now c.answer_next.new.self c.args.replies.now
    c.answer_next.result c.in-Ok.msg c.push.new.self
    c.if-not-answer_next.false c.answer_next.ensures.answers c.in-Ok.ensures.reads.0 c.in-Ok.ensures.reads.1
    c.in_ok-push-in-Ok.ensures.ok

pub returns-in-Err-Refused-clause-accepts : goal.returns-in-Err-Refused-clause-accepts
returns-in-Err-Refused-clause-accepts c =
    rw c.in-Err-Refused.field-0-is
    (accepts_refused c.args.now c.args.body.now c.args.requests.now c.answer_next.new.self c.args.replies.now
    c.answer_next.result c.len-number.result
    c.in-Err-Refused.place c.in-Err-Refused.why c.if-not-answer_next.false c.len-number.ensures
    c.answer_next.ensures.answers
    (subst (IsRefusedFor (first_fault c.args.body.now)) c.in-Err-Refused.field-0-is c.in-Err-Refused.ensures.reads))
