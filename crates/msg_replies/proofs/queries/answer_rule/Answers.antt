use Rattle.std.proofs.Common.{[], slice_index_or}
use Rattle.std.specs.Prelude.{Some}
use Rattle.pred_eval.specs.Tree.{tree_of}
use Rattle.pred_eval.specs.Truth.{searches}
use Rattle.msg_replies.proofs.AnswerLaws.{on_ok}
use Rattle.msg_replies.proofs.VerdictLaws.{refused_verdict}
use Rattle.msg_replies.proofs.queries.answer_rule.Goals as goal

pub returns-in-Err-Pattern-clause-answers : goal.returns-in-Err-Pattern-clause-answers
returns-in-Err-Pattern-clause-answers g c =
    let cause = rw c.in-Err-Pattern.field-0-is at c.in-Err-Pattern.ensures.cause in
    let reported = rw c.in-Err-Pattern.field-0-is at c.in-Err-Pattern.ensures.reported in
    record {
      refusal =
          Some (record {
            number = c.in-Err-Pattern.number;
            text = slice_index_or (searches (tree_of c.args.rule)) c.in-Err-Pattern.number [];
          });
      verdict =
          refused_verdict (tree_of c.args.rule) c.in-Err-Pattern.number _ _ cause.0 cause.1
          c.in-Err-Pattern.ensures.refusals reported;
      answered = on_ok c.refuse_pattern.result (λ wrote arrivals holds. wrote) c.refuse_pattern.ensures;
    }
