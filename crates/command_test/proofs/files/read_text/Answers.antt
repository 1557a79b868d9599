use Rattle.std.proofs.Common.{sym}
use Rattle.command_test.proofs.files.read_text.Goals as goal

pub returns-in-Ok-clause-tests : goal.returns-in-Ok-clause-tests
returns-in-Ok-clause-tests c = record {
  reads = c.in-Ok.ensures.tests;
  alone = λ others are. sym (c.in-Ok.ensures.only others are);
  accepted = c.in-Ok.ensures.only_refused;
}

pub returns-in-Err-Refused-clause-refused : goal.returns-in-Err-Refused-clause-refused
returns-in-Err-Refused-clause-refused c = record {
  fault = rw c.in-Err-Refused.field-0-is at c.in-Err-Refused.ensures.refused;
  only = rw c.in-Err-Refused.field-0-is at c.in-Err-Refused.ensures.only_refused;
  unread =
      λ others are. let wanting = c.in-Err-Refused.ensures.only others are in cc (wanting, c.in-Err-Refused.field-0-is);
}
