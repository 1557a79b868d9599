use Rattle.fork_by.proofs.Laws.{latest_of_forks}
use Rattle.fork_by.proofs.law.latest_is_of_forks.Goals as goal

pub returns : goal.returns
returns g c = latest_of_forks
