use Rattle.std.proofs.Common.{ap}
use Rattle.command_record.proofs.journal.read_loaded.Goals as goal

pub returns-in-Ok-clause-read : goal.returns-in-Ok-clause-read
returns-in-Ok-clause-read c = λ journal whole.
    let is = c.in-Ok.ensures.read journal whole in (ap (λ parts. parts.0) is, ap (λ parts. parts.1) is)

pub returns-in-Err-Refused-clause-read : goal.returns-in-Err-Refused-clause-read
returns-in-Err-Refused-clause-read c = rw c.in-Err-Refused.field-0-is at c.in-Err-Refused.ensures.read
