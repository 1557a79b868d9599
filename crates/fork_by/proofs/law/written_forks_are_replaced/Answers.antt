use Rattle.fork_by.proofs.Laws.{written_is_table, written_has_forks, written_is_replaced}
use Rattle.fork_by.proofs.law.written_forks_are_replaced.Goals as goal

pub returns-clause-table : goal.returns-clause-table
returns-clause-table g c = written_is_table

pub returns-clause-numbers : goal.returns-clause-numbers
returns-clause-numbers g c = written_has_forks

pub returns-clause-forks : goal.returns-clause-forks
returns-clause-forks g c = written_is_replaced
