use Rattle.stream_meaning.proofs.PlanFirstLaws.{faultless_ranges, faultless_deadlines}
use Rattle.stream_meaning.proofs.law.checked_plans_meet_deadlines.Goals as goal

pub returns-clause-ranges : goal.returns-clause-ranges
returns-clause-ranges c = faultless_ranges

pub returns-clause-deadlines : goal.returns-clause-deadlines
returns-clause-deadlines c = faultless_deadlines
