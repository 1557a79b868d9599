use Rattle.sexp_config.proofs.CanonicalRead.{canonical_read}
use Rattle.sexp_config.proofs.law.written_is_read.Goals as goal

pub returns : goal.returns
returns c = canonical_read
