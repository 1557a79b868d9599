use Rattle.journal_run.proofs.CrashLaws.{crashes_loaded}
use Rattle.journal_run.proofs.law.crashes_are_loaded.Goals as goal

pub returns : goal.returns
returns c = crashes_loaded c.journals_are_one.ensures
