use Rattle.stream_meaning.proofs.LiveLaws.{live_forks_follow, live_keys_follow}
use Rattle.stream_meaning.proofs.StepLaws.{timed_keys_follow, fresh_keys_go_by_moments}
use Rattle.stream_meaning.proofs.ends.live_forks_follow_entries.Goals as goal

pub returns-clause-forks : goal.returns-clause-forks
returns-clause-forks c = live_forks_follow

pub returns-clause-keys : goal.returns-clause-keys
returns-clause-keys c = live_keys_follow

pub returns-clause-timed : goal.returns-clause-timed
returns-clause-timed c = timed_keys_follow

pub returns-clause-moments : goal.returns-clause-moments
returns-clause-moments c = fresh_keys_go_by_moments
