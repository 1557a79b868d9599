use Rattle.std.proofs.Common.{arith}
use Rattle.pred_eval.specs.Tree.{tree_of}
use Rattle.query_lang.specs.Answer.{query_of}
use Rattle.query_lang.proofs.AnsweredLaws.{patterns_are_few, texts_are_answered}
use Rattle.msg_replies.proofs.AnswerLaws.{answers_fault}
use Rattle.msg_replies.proofs.queries.answer_text.Goals as goal

pub answer_rule-requires : goal.answer_rule-requires
answer_rule-requires g c = omega (arith, patterns_are_few c.args.text.now (tree_of c.in-Ok.rule) c.in-Ok.ensures.query)

pub returns-in-Ok-clause-answers : goal.returns-in-Ok-clause-answers
returns-in-Ok-clause-answers g c =
    rw (c.in-Ok.ensures.only (query_of c.args.text.now) (texts_are_answered c.args.text.now))
    c.answer_rule.ensures.answers

pub returns-in-Err-clause-answers : goal.returns-in-Err-clause-answers
returns-in-Err-clause-answers g c =
    answers_fault c.args.text.now c.in-Err.fault _ _ _ _ c.refuse_query.result
    (c.in-Err.ensures.only (query_of c.args.text.now) (texts_are_answered c.args.text.now))
    c.refuse_query.ensures.memory c.refuse_query.ensures.reply
