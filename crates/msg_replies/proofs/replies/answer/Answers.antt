use Rattle.std.proofs.Common.{[], ◌∷◌}
use Rattle.event_core.specs.Core.{now_of}
use Rattle.msg_replies.specs.Arriving.{reported}
use Rattle.msg_replies.proofs.AnswerLaws.{answers_plain}
use Rattle.msg_replies.proofs.replies.answer.Goals as goal

pub returns-in-Some : goal.returns-in-Some
returns-in-Some g c =
    answers_plain c.args.body.now c.args.unsent (c.in-Some.event ∷ []) c.args.core.now c.answer_event.new.core
    (g.P.Patterns.report c.args.patterns.now) c.args.replies.now c.answer_event.new.replies
    (reported c.args.notices.now c.args.steps.now.forks)
    (reported c.answer_event.new.notices c.answer_event.new.steps.forks) c.answer_event.result
    c.in-Some.ensures.clean (c.in-Some.ensures.sent (now_of c.args.core.now)) c.answer_event.ensures.now
    c.answer_event.ensures.arrives c.answer_event.ensures.reply
