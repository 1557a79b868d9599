use Rattle.query_lang.proofs.Written.{read_back}
use Rattle.query_lang.proofs.law.written_is_read.Goals as goal

pub returns : goal.returns
returns c = read_back
