use Rattle.std.proofs.Common.{arith}
use Rattle.rate_streams.proofs.StableLaws.{due_at}
use Rattle.rate_streams.proofs.stable.StableState.due.Goals as goal

pub returns-else-len-eq0-clause-due : goal.returns-else-len-eq0-clause-due
returns-else-len-eq0-clause-due c h before bound =
    due_at _ h _ before bound (omega arith) (omega arith) (λ fits. omega arith)
