use Rattle.key_laws.proofs.PartLaws.{keys_have_notices, notices_of_one, keys_have_live}
use Rattle.key_laws.proofs.law.notices_are_apart.Goals as goal

pub returns-clause-notices : goal.returns-clause-notices
returns-clause-notices c = keys_have_notices

pub returns-clause-one : goal.returns-clause-one
returns-clause-one c = notices_of_one

pub returns-clause-index : goal.returns-clause-index
returns-clause-index c = keys_have_live
