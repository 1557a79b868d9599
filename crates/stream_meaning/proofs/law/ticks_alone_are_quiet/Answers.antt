use Rattle.stream_meaning.proofs.TickLaws.{ticks_emit, ticks_handed_on, ticks_make_no_fork, plan_quiet}
use Rattle.stream_meaning.proofs.law.ticks_alone_are_quiet.Goals as goal

pub returns-clause-emissions : goal.returns-clause-emissions
returns-clause-emissions c = ticks_emit

pub returns-clause-histories : goal.returns-clause-histories
returns-clause-histories c = ticks_handed_on

pub returns-clause-forks : goal.returns-clause-forks
returns-clause-forks c = ticks_make_no_fork

pub returns-clause-plans : goal.returns-clause-plans
returns-clause-plans c = plan_quiet
