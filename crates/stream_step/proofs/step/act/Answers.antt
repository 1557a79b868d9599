use Rattle.pred_eval.proofs.BuildLaws.{on_error}
use Rattle.stream_meaning.specs.History.{◌▸◌}
use Rattle.stream_meaning.specs.Laws.{own_outputs}
use Rattle.stream_plan.specs.Tree.{kind_tree}
use Rattle.stream_step.proofs.StepLaws.{none_put, all_put}
use Rattle.stream_step.proofs.step.act.Goals as goal

pub returns-in_err-put_own_outputs-clause-part : goal.returns-in_err-put_own_outputs-clause-part
returns-in_err-put_own_outputs-clause-part c = on_error c.from_residual.result (λ h now.
    none_put c.args.out.now c.put_own_outputs.new.out (own_outputs (kind_tree c.args.kind.now) (h ▸ c.args.entry.now))
    c.in_err-put_own_outputs.ensures.err)

pub returns-in_err-passed-clause-part : goal.returns-in_err-passed-clause-part
returns-in_err-passed-clause-part c = on_error c.from_residual-in_err-passed.result (λ h now.
    all_put c.args.out.now c.put_own_outputs.new.out (own_outputs (kind_tree c.args.kind.now) (h ▸ c.args.entry.now))
    (c.in_ok-put_own_outputs.ensures.said h now))
