use Rattle.fork_by.proofs.Laws.{forks_reached, numbers_reach}
use Rattle.fork_by.proofs.law.numbers_reach_forks.Goals as goal

pub returns-clause-forks : goal.returns-clause-forks
returns-clause-forks g c = forks_reached

pub returns-clause-numbers : goal.returns-clause-numbers
returns-clause-numbers g c = numbers_reach
