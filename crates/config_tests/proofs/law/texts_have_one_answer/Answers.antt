use Rattle.config_tests.proofs.AnswerLaws.{texts_are_answered, not_refused, tests_are_one, refusals_are_one}
use Rattle.config_tests.proofs.law.texts_have_one_answer.Goals as goal

pub returns : goal.returns
returns c =
    record { answered = texts_are_answered; apart = not_refused; one = tests_are_one; one_refusal = refusals_are_one }
