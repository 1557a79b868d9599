use Rattle.stream_meaning.proofs.LiveLaws.{live_keys_are_apart, live_forks_are_the_latest, live_keys_are_recent}
use Rattle.stream_meaning.proofs.ends.live_forks_are_recent.Goals as goal

pub returns-clause-apart : goal.returns-clause-apart
returns-clause-apart c = live_keys_are_apart

pub returns-clause-latest : goal.returns-clause-latest
returns-clause-latest c = live_forks_are_the_latest

pub returns-clause-recent : goal.returns-clause-recent
returns-clause-recent c = live_keys_are_recent
