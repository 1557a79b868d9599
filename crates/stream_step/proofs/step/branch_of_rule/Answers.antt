use Rattle.pred_eval.specs.Tree.{tree_of}
use Rattle.stream_step.proofs.StepLaws.{to_children_if, to_otherwise_if}
use Rattle.stream_step.proofs.step.branch_of_rule.Goals as goal

pub returns-then-met : goal.returns-then-met
returns-then-met c texts read keeps =
    to_children_if _ _ (c.in_ok-met.ensures.truth (c.own_patterns.ensures texts (tree_of c.args.rule.now) read keeps))
    c.if-met.true

pub returns-else-met : goal.returns-else-met
returns-else-met c texts read keeps =
    to_otherwise_if _ _ (c.in_ok-met.ensures.truth (c.own_patterns.ensures texts (tree_of c.args.rule.now) read keeps))
    c.if-met.false
