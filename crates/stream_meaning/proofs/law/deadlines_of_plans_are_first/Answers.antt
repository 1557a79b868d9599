use Rattle.stream_meaning.proofs.RootLaws.{plan_tick_rooted}
use Rattle.stream_meaning.proofs.PlanDueLaws.{plan_ahead, plan_met, plan_stays}
use Rattle.stream_meaning.proofs.PlanFirstLaws.{plan_first, deadlines_earliest}
use Rattle.stream_meaning.proofs.law.deadlines_of_plans_are_first.Goals as goal

pub returns-clause-due : goal.returns-clause-due
returns-clause-due c = plan_tick_rooted

pub returns-clause-earliest : goal.returns-clause-earliest
returns-clause-earliest c = deadlines_earliest

pub returns-clause-ahead : goal.returns-clause-ahead
returns-clause-ahead c = plan_ahead

pub returns-clause-met : goal.returns-clause-met
returns-clause-met c = plan_met

pub returns-clause-stay : goal.returns-clause-stay
returns-clause-stay c = plan_stays

pub returns-clause-first : goal.returns-clause-first
returns-clause-first c = plan_first
