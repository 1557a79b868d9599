use Rattle.std.proofs.Common.{ap, sym, ◌∙◌}
use Rattle.event_core.specs.Core.{now_of}
use Rattle.packed_msg.specs.Sent.{sent_of}
use Rattle.msg_replies.specs.Arriving.{reported}
use Rattle.msg_replies.proofs.AnswerLaws.{answers_plain}
use Rattle.msg_replies.proofs.replies.answer_other.Goals as goal

pub returns-in-Some : goal.returns-in-Some
returns-in-Some g c =
    let clean = rw c.in-Some.is at c.in_ok-events.ensures.clean in
    let sent = rw c.in-Some.is at c.in_ok-events.ensures.sent in
    answers_plain c.args.body.now c.args.unsent c.deref.result.now c.args.core.now c.answer_events.new.core
    (g.P.Patterns.report c.args.patterns.now) c.args.replies.now c.answer_events.new.replies
    (reported c.args.notices.now c.args.steps.now.forks)
    (reported c.answer_events.new.notices c.answer_events.new.steps.forks) c.answer_events.result
    clean (sent (now_of c.args.core.now) ∙ ap sent_of (sym c.deref.ensures.value))
    c.answer_events.ensures.now c.answer_events.ensures.arrives c.answer_events.ensures.reply
