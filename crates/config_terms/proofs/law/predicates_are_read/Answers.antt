use Rattle.config_terms.proofs.GrammarLaws.{predicates_are_those}
use Rattle.config_terms.proofs.law.predicates_are_read.Goals as goal

pub returns : goal.returns
returns c = predicates_are_those
