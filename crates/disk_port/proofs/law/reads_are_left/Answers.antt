use Rattle.disk_port.proofs.PastLaws.{calls_possible, reads_left}
use Rattle.disk_port.proofs.law.reads_are_left.Goals as goal

pub returns-clause-left : goal.returns-clause-left
returns-clause-left c = reads_left

pub returns-clause-calls : goal.returns-clause-calls
returns-clause-calls c = calls_possible
