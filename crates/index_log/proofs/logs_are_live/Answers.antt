use Rattle.index_log.proofs.LiveLaws.{live-write, live-reap, live-expired}
use Rattle.index_log.proofs.logs_are_live.Goals as goal

pub returns-clause-writes : goal.returns-clause-writes
returns-clause-writes c = live-write

pub returns-clause-reaps : goal.returns-clause-reaps
returns-clause-reaps c = live-reap

pub returns-clause-expired : goal.returns-clause-expired
returns-clause-expired c = live-expired
