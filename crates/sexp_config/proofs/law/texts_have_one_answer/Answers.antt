use Rattle.sexp_config.proofs.AnswerLaws.{texts_are_answered, not_refused, configs_are_one, refusals_are_one}
use Rattle.sexp_config.proofs.law.texts_have_one_answer.Goals as goal

pub returns : goal.returns
returns c =
    record { answered = texts_are_answered; apart = not_refused; one = configs_are_one; one_refusal = refusals_are_one }
