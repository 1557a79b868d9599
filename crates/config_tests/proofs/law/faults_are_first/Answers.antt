use Rattle.config_tests.proofs.TestsRead.{faults_are_first}
use Rattle.config_tests.proofs.law.faults_are_first.Goals as goal

pub returns : goal.returns
returns c = faults_are_first
