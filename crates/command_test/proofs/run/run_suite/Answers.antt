use Rattle.command_test.proofs.RunLaws.{ends_differed, ends_passed, ends_stopped}
use Rattle.command_test.proofs.run.run_suite.Goals as goal

pub returns-in-Ok-true : goal.returns-in-Ok-true
returns-in-Ok-true g c =
    λ read is. ends_passed _ _ _ _ (rw c.in-Ok-true.field-0-test at (c.in-Ok-true.ensures.shows read is))

pub returns-in-Ok-false : goal.returns-in-Ok-false
returns-in-Ok-false g c =
    λ read is. ends_differed _ _ _ _ (rw c.in-Ok-false.field-0-test at (c.in-Ok-false.ensures.shows read is))

pub returns-in-Err : goal.returns-in-Err
returns-in-Err g c =
    λ read is. rw c.ending.ensures (ends_stopped _ _ c.in-Err.stop _ _ (c.in-Err.ensures.stops read is))
