use Rattle.std.proofs.Common.{arith}
use Rattle.rate_streams.proofs.RollupLaws.{still_represents, due_at}
use Rattle.rate_streams.proofs.rollup.RollupState.due.Goals as goal

pub returns-then-len-eq0-clause-still : goal.returns-then-len-eq0-clause-still
returns-then-len-eq0-clause-still c h before none = still_represents _ h before none

pub returns-else-len-eq0-clause-due : goal.returns-else-len-eq0-clause-due
returns-else-len-eq0-clause-due c h before bound = due_at _ h _ before bound (omega arith) c.end_of.ensures

pub returns-else-len-eq0-clause-still : goal.returns-else-len-eq0-clause-still
returns-else-len-eq0-clause-still c h before none = still_represents _ h before none
