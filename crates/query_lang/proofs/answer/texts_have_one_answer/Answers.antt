use Rattle.query_lang.proofs.AnswerLaws.{one_answer}
use Rattle.query_lang.proofs.AnsweredLaws.{patterns_are_few, texts_are_answered}
use Rattle.query_lang.proofs.answer.texts_have_one_answer.Goals as goal

pub returns : goal.returns
returns c = record { answered = texts_are_answered; one = one_answer; few = patterns_are_few }
