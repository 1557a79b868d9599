use Rattle.std.proofs.Common.{ℕ, List, map, Ok, subst, sym, ◌∙◌}
use Rattle.ev_types.specs.declared.event.Event.{Event}
use Rattle.stream_meaning.specs.Arrivals.{Post}
use Rattle.msg_replies.specs.Arriving.{Arrives, reported}
use Rattle.std.proofs.lemmas.Result.{err_from_is_err_and}
use Rattle.msg_replies.proofs.AnswerLaws.{answers_accepted, answers_failed, answers_refused, answers_same}
use Rattle.msg_replies.proofs.replies.answer_read.Goals as goal

pub returns-in_err-answer_query-in-Ok : goal.returns-in_err-answer_query-in-Ok
returns-in_err-answer_query-in-Ok g c =
    let p =
    err_from_is_err_and c.from_residual-in_err-answer_query-in-Ok.result
    c.from_residual-in_err-answer_query-in-Ok.ensures.1 in
    rw p.1 (answers_same c.in_err-answer_query-in-Ok.ensures.same
    (answers_failed c.args.body.now c.args.unsent c.in-Ok.msg c.args.core.now _ _ _ _ _ _ _ _ p.0
    (rw (← c.now.ensures.value) c.in-Ok.ensures.reads) c.in_err-answer_query-in-Ok.ensures.answers))

pub returns-in_ok-answer_query-in-Ok : goal.returns-in_ok-answer_query-in-Ok
returns-in_ok-answer_query-in-Ok g c =
    let old = reported c.args.notices.now c.args.steps.now.forks in
    answers_same c.in_ok-answer_query-in-Ok.ensures.same
    (answers_accepted c.args.body.now c.args.unsent c.in-Ok.msg c.args.core.now c.post_all.new.core _ _ _ _ old _
    (Ok tt)
    (rw (← c.now.ensures.value) c.in-Ok.ensures.reads)
    c.in_ok-post_all-in-Ok.ensures.now
    (λ arrivals holds. subst
    (λ (forks : ℕ). Arrives c.args.core.now c.post_all.new.core arrivals (map Post c.in-Ok.msg.events) old
    (reported c.post_all.new.notices forks))
    (sym c.in_ok-answer_query-in-Ok.ensures.forks)
    (subst (λ (events : List Event). Arrives c.args.core.now c.post_all.new.core arrivals (map Post events) old
    (reported c.post_all.new.notices c.post_all.new.steps.forks))
    (c.deref_mut.ensures.value ∙ c.into_vec-events.ensures) (c.in_ok-post_all-in-Ok.ensures.arrives arrivals holds)))
    c.in_ok-answer_query-in-Ok.ensures.answers)

pub returns-in_ok-refuse_msg-in-Err-Refused : goal.returns-in_ok-refuse_msg-in-Err-Refused
returns-in_ok-refuse_msg-in-Err-Refused g c =
    answers_refused c.args.body.now c.args.unsent _ _ _ _ c.in-Err-Refused.place c.in-Err-Refused.why _ (Ok tt)
    (rw c.in-Err-Refused.field-0-is at c.in-Err-Refused.ensures.reads)
    c.in_ok-refuse_msg-in-Err-Refused.ensures
