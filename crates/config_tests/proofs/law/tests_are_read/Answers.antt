use Rattle.config_tests.proofs.TestsRead.{tests_are_read}
use Rattle.config_tests.proofs.law.tests_are_read.Goals as goal

pub returns : goal.returns
returns c = tests_are_read
