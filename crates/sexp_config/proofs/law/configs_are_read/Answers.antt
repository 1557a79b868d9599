use Rattle.sexp_config.proofs.GrammarLaws.{configs_are_read}
use Rattle.sexp_config.proofs.law.configs_are_read.Goals as goal

pub returns : goal.returns
returns c = configs_are_read
