use Rattle.fork_by.proofs.Laws.{forks_apart, keys_have_forks}
use Rattle.fork_by.proofs.law.forks_are_apart.Goals as goal

pub returns-clause-apart : goal.returns-clause-apart
returns-clause-apart g c = forks_apart

pub returns-clause-keys : goal.returns-clause-keys
returns-clause-keys g c = keys_have_forks
