use Rattle.stream_tests.proofs.VerdictLaws.{verdicts_are_one}
use Rattle.stream_tests.proofs.verdict.verdicts_are_one.Goals as goal

pub returns : goal.returns
returns c = verdicts_are_one
