use Rattle.stream_meaning.proofs.EndLaws.{unseen_forks_have_ticks}
use Rattle.stream_meaning.proofs.ForkLaws.{keys_apart, fork_events}
use Rattle.stream_meaning.proofs.law.forks_have_their_events.Goals as goal

pub returns-clause-events : goal.returns-clause-events
returns-clause-events c = fork_events

pub returns-clause-unseen : goal.returns-clause-unseen
returns-clause-unseen c = unseen_forks_have_ticks

pub returns-clause-apart : goal.returns-clause-apart
returns-clause-apart c = keys_apart
