use Rattle.stream_step.proofs.StepLaws.{rule_read}
use Rattle.stream_step.proofs.step.own_patterns.Goals as goal

pub returns-in-Rule : goal.returns-in-Rule
returns-in-Rule c texts rule from keeps =
    rule_read texts rule c.args.state.now c.in-Rule.first c.in-Rule.count c.args.patterns.now c.part.result.now
    c.in-Rule.is from keeps c.part.ensures
