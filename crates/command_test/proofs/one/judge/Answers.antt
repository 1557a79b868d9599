use Rattle.stream_plan.specs.Ready.{plan_patterns}
use Rattle.command_test.proofs.RunLaws.{fault_of_each, run_fault, run_same, verdict_of_each}
use Rattle.command_test.proofs.one.judge.Goals as goal

pub returns-clause-verdict : goal.returns-clause-verdict
returns-clause-verdict g c =
    verdict_of_each c.args.test.now c.args.config.now c.in-Ok.read c.run_test.result c.in-Ok.ensures.config
    c.run_test.ensures.verdict

pub returns-clause-same : goal.returns-clause-same
returns-clause-same g c =
    run_same (plan_patterns c.in-Ok.read.plan) _ _ c.run_test.result c.run_test.ensures.cause
    c.run_test.ensures.reported

pub returns-clause-fault : goal.returns-clause-fault
returns-clause-fault g c =
    fault_of_each c.args.config.now c.in-Ok.read _ _ c.run_test.result c.in-Ok.ensures.config
    (run_fault (plan_patterns c.in-Ok.read.plan) _ _ c.run_test.result c.run_test.ensures.cause
    c.run_test.ensures.reported)
