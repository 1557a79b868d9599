use Rattle.stream_meaning.proofs.EndLaws.{forks_come_by_number, ended_forks_get_no_items}
use Rattle.stream_meaning.proofs.ends.forks_end_with_their_keys.Goals as goal

pub returns-clause-numbers : goal.returns-clause-numbers
returns-clause-numbers c = forks_come_by_number

pub returns-clause-ended : goal.returns-clause-ended
returns-clause-ended c = ended_forks_get_no_items
