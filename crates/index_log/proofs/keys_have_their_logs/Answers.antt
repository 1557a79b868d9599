use Rattle.index_log.proofs.OfKeyLaws.{keys_have_logs}
use Rattle.index_log.proofs.keys_have_their_logs.Goals as goal

pub returns : goal.returns
returns c = keys_have_logs
