use Rattle.riemann_msg.proofs.ReadAgain.{message_back}
use Rattle.riemann_msg.proofs.law.written_is_read.Goals as goal

pub returns : goal.returns
returns c = message_back
