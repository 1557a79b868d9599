use Rattle.journal_run.proofs.ResumeLaws.{nothing_resumed}
use Rattle.journal_run.proofs.resumed.run_resumed.Goals as goal

pub returns-in-Err-clause-runs : goal.returns-in-Err-clause-runs
returns-in-Err-clause-runs g c = nothing_resumed c.args.setup c.args.turns c.args.found c.args.records _ _ _
