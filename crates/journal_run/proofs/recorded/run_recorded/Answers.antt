use Rattle.std.proofs.Common.{rules}
use Rattle.journal_run.proofs.RunLaws.{ran_recorded}
use Rattle.journal_run.proofs.recorded.run_recorded.Goals as goal

pub returns-clause-runs : goal.returns-clause-runs
returns-clause-runs g c = ran_recorded _ _ _ _ _ _ _ _ _ _ _ (search rules) c.run_resumed.ensures.runs
